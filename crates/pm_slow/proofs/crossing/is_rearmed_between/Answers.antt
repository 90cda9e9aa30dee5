use Rattle.std.proofs.Common.{◌&&◌, ◌||◌, ltb, get_or, ap, sym, ◌∙◌}
use Rattle.pm_history.specs.Crossed.{rearms}
use Rattle.pm_slow.proofs.LoopLemmas.{at_some-more}
use Rattle.pm_slow.proofs.crossing.is_rearmed_between.Goals as goal

pub loop-k-preserved : goal.loop-k-preserved
loop-k-preserved c =
    let high = c.args.high in
    let low = c.args.low in
    let after = c.args.after in
    let vs = c.args.values.now in
    let old = c.loop-k.invariant in
    let rearmed = c.rearms.ensures ∙ ap (rearms high low) c.value.ensures in
    let this = c.and-now.ensures ∙ (λ i. ltb after c.loop-k.k && rearmed i) in
    c.or-rearmed.ensures ∙ ((λ i. old i || this i) ∙ sym (at_some-more c.loop-k.k (λ k. ltb after k && rearms high low (get_or vs k 0))))
