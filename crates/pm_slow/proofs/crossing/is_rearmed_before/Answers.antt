use Rattle.std.proofs.Common.{◌&&◌, ◌||◌, not, leb, get_or, ap, sym, ◌∙◌}
use Rattle.pm_history.specs.Crossed.{is_rearmed_between}
use Rattle.pm_slow.proofs.LoopLemmas.{at_each-more}
use Rattle.pm_slow.proofs.crossing.is_rearmed_before.Goals as goal

pub loop-j-preserved : goal.loop-j-preserved
loop-j-preserved c =
    let high = c.args.high in
    let low = c.args.low in
    let end = c.args.end in
    let vs = c.args.values.now in
    let old = c.loop-j.invariant in
    let is_high = c.is_high.ensures ∙ ap (leb high) c.value.ensures in
    let between = c.is_rearmed_between.ensures in
    let this = c.or-now.ensures ∙ (λ i. not (is_high i) || between i) in
    c.and-rearmed.ensures ∙ ((λ i. old i && this i) ∙ sym (at_each-more c.loop-j.j (λ j. not (leb high (get_or vs j 0)) || is_rearmed_between high low vs j end)))
