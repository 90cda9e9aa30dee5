use Rattle.std.proofs.Common.{◌&&◌, ◌||◌, not, ltb, get_or, ap, sym, ◌∙◌}
use Rattle.pm_slow.proofs.LoopLemmas.{at_each-more}
use Rattle.pm_slow.proofs.crossing.stays_over.Goals as goal

pub loop-k-preserved : goal.loop-k-preserved
loop-k-preserved c =
    let low = c.args.low in
    let after = c.args.after in
    let vs = c.args.values.now in
    let old = c.loop-k.invariant in
    let over = c.is_over.ensures ∙ ap (ltb low) c.value.ensures in
    let this = c.or-now.ensures ∙ (λ i. not (ltb after c.loop-k.k) || over i) in
    c.and-over.ensures ∙ ((λ i. old i && this i) ∙ sym (at_each-more c.loop-k.k (λ k. not (ltb after k) || ltb low (get_or vs k 0))))
