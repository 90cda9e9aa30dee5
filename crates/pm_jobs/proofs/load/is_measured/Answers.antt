use Rattle.std.proofs.Common.{◌≡◌, ◌∙◌, ℕ, List, get_or, [], Some, sym, ap}
use Rattle.std.specs.Prelude.{slice_get}
use Rattle.pm_dn.specs.Containment.{has_path_to}
use Rattle.pm_asked.specs.Asked.{Numbered, is_of_class}
use Rattle.pm_jobs.proofs.NumberedLemmas.{one_of, none_more}
use Rattle.pm_jobs.proofs.load.is_measured.Goals as goal

pub returns-then-has_class : goal.returns-then-has_class
returns-then-has_class c =
    let inventory = c.args.inventory.now in
    let def = c.def.result.now in
    let at : slice_get inventory.measures (get_or c.args.metrics.now c.loop-metric.metric-index 0) ≡ Some def = rw c.catalogue-catalogue.ensures at c.def.ensures in
    one_of inventory (λ (m : Numbered). is_of_class inventory m.1.class c.args.object) c.args.metrics.now c.loop-metric.metric-index def c.loop-metric-test.true at
    (ap (λ (t : List (List ℕ)). has_path_to def.class (get_or t c.args.object [])) (sym c.tree.ensures) ∙ sym c.has_class.ensures ∙ c.if-has_class.true)

pub loop-metric-preserved : goal.loop-metric-preserved
loop-metric-preserved c =
    let inventory = c.args.inventory.now in
    let def = c.def.result.now in
    let at : slice_get inventory.measures (get_or c.args.metrics.now c.loop-metric.metric-index 0) ≡ Some def = rw c.catalogue-catalogue.ensures at c.def.ensures in
    none_more inventory (λ (m : Numbered). is_of_class inventory m.1.class c.args.object) c.args.metrics.now c.loop-metric.metric-index def c.loop-metric-test.true at
    (ap (λ (t : List (List ℕ)). has_path_to def.class (get_or t c.args.object [])) (sym c.tree.ensures) ∙ sym c.has_class.ensures ∙ c.if-has_class.false) c.loop-metric.invariant
