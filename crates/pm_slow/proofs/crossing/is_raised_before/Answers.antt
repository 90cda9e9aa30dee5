use Rattle.std.proofs.Common.{◌&&◌, ◌||◌, ltb, leb, get_or, ap, sym, ◌∙◌}
use Rattle.pm_history.specs.Crossed.{stays_over}
use Rattle.pm_slow.proofs.LoopLemmas.{at_some-more}
use Rattle.pm_slow.proofs.crossing.is_raised_before.Goals as goal

pub loop-j-preserved : goal.loop-j-preserved
loop-j-preserved c =
    let high = c.args.high in
    let low = c.args.low in
    let end = c.args.end in
    let vs = c.args.values.now in
    let old = c.loop-j.invariant in
    let is_high = c.is_high.ensures ∙ ap (leb high) c.value.ensures in
    let is_over = c.is_over.ensures ∙ ap (ltb low) c.value-in-loop-j.ensures in
    let from = c.and-from.ensures ∙ (λ i. is_high i && is_over i) in
    let stays = c.stays_over.ensures in
    let this = c.and-now.ensures ∙ (λ i. from i && stays i) in
    c.or-raised.ensures ∙ ((λ i. old i || this i) ∙ sym (at_some-more c.loop-j.j (λ j. leb high (get_or vs j 0) && ltb low (get_or vs j 0) && stays_over low vs j end)))
