use Rattle.std.proofs.Common.{◌≡◌, ◌∙◌, get_or, Some, sym, arith}
use Rattle.std.specs.Prelude.{slice_get}
use Rattle.pm_asked.specs.Asked.{is_of_class}
use Rattle.pm_jobs.specs.Rules.{is_measured}
use Rattle.pm_jobs.proofs.NumberedLemmas.{one_fails, all_more, nothing_of, something_of}
use Rattle.pm_jobs.proofs.load.are_measured.Goals as goal

pub returns-then-count_measured-eq0 : goal.returns-then-count_measured-eq0
returns-then-count_measured-eq0 c =
    let inventory = c.args.inventory.now in
    let def = c.def.result.now in
    let at : slice_get inventory.measures (get_or c.args.metrics.now c.loop-metric.metric-index 0) ≡ Some def = rw c.catalogue-catalogue.ensures at c.def.ensures in
    one_fails inventory (is_measured inventory c.args.objects.now) c.args.metrics.now c.loop-metric.metric-index def c.loop-metric-test.true at
    (nothing_of (is_of_class inventory def.class) c.args.objects.now (sym c.count_measured.ensures.count ∙ c.if-count_measured-eq0.true))

pub loop-metric-preserved : goal.loop-metric-preserved
loop-metric-preserved c =
    let inventory = c.args.inventory.now in
    let def = c.def.result.now in
    let at : slice_get inventory.measures (get_or c.args.metrics.now c.loop-metric.metric-index 0) ≡ Some def = rw c.catalogue-catalogue.ensures at c.def.ensures in
    all_more inventory (is_measured inventory c.args.objects.now) c.args.metrics.now c.loop-metric.metric-index def c.loop-metric-test.true at
    (something_of (is_of_class inventory def.class) c.args.objects.now (omega (arith, c.count_measured.ensures.count, c.if-count_measured-eq0.false))) c.loop-metric.invariant
