use Rattle.std.proofs.Common.{◌∙◌, ◌<◌, sym, length, arith}
use Rattle.pm_asked.specs.Asked.{asks_for}
use Rattle.pm_meas.specs.declared.def.Def.{Def}
use Rattle.pm_jobs.proofs.StepLemmas.{one_passes, none_more}
use Rattle.pm_jobs.proofs.numbers.is_metric.Goals as goal

pub returns-then-asks_for : goal.returns-then-asks_for
returns-then-asks_for c =
    let lt : c.loop-metric.metric < length c.args.catalogue.now = omega (arith, c.len-metric-end.ensures.value, c.loop-metric-test.true) in
    one_passes (λ (def : Def). asks_for def c.args.text.now) c.args.catalogue.now c.loop-metric.metric c.def.result.now lt c.def.ensures
    (sym c.asks_for.ensures ∙ c.if-asks_for.true)

pub loop-metric-preserved : goal.loop-metric-preserved
loop-metric-preserved c =
    let lt : c.loop-metric.metric < length c.args.catalogue.now = omega (arith, c.len-metric-end.ensures.value, c.loop-metric-test.true) in
    none_more (λ (def : Def). asks_for def c.args.text.now) c.args.catalogue.now c.loop-metric.metric c.def.result.now lt c.def.ensures
    (sym c.asks_for.ensures ∙ c.if-asks_for.false) c.loop-metric.invariant
