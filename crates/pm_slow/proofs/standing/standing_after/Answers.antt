use Rattle.std.proofs.Common.{◌+◌, ◌∙◌, ap, sym}
use Rattle.pm_history.specs.History.{size}
use Rattle.pm_history.specs.Standing.{standing_next, standing_after}
use Rattle.pm_history.proofs.HistoryLemmas.{history_of-more}
use Rattle.pm_slow.specs.Book.{terms_in}
use Rattle.pm_slow.proofs.standing.standing_after.Goals as goal

pub loop-place-preserved : goal.loop-place-preserved
loop-place-preserved c =
    let e = c.index-history-place.result in
    let T = terms_in c.args.book.now in
    let more = history_of-more c.args.history.now c.loop-place.place e c.loop-place-test.true c.index-history-place.is in
    let place = c.loop-place.invariant.place in
    let old = c.loop-place.invariant.standing in
    record {
      standing = c.standing_next-standing.ensures ∙ ((λ i. standing_next T c.args.side c.args.id.now (place i) (old i) e) ∙ sym (ap (λ h. standing_after T c.args.side h c.args.id.now) more));
      place = ap (λ n. n + 1) place ∙ sym (ap size more);
    }
