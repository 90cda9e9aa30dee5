use Rattle.std.proofs.Common.{◌≡◌, ◌+◌, ◌<◌, ◌≤◌, length, ◌∙◌, arith}
use Rattle.std.proofs.lemmas.Bool.Decides.{nat_tests}
use Rattle.pm_http.proofs.PieceLemmas.{still_front, moved-piece, plain_held}
use Rattle.pm_http.proofs.piece.read_piece.Goals as goal

pub returns-in-Ok-clause-moves : goal.returns-in-Ok-clause-moves
returns-in-Ok-clause-moves g c =
    let at = c.len-at.result in
    let most = c.piece_size-most.result in
    let size : at ≡ length c.args.head.now.items = omega (arith, c.len-at.ensures, c.args.head.now.ok.0) in
    let start = c.in-Ok.ensures.front ∙ still_front _ _ _ at most size c.widen.ensures.items in
    let some : 0 < c.in-Ok.count = grind (arith, nat_tests, c.in-Ok.count-test, c.in-Ok.count-is) in
    let few : c.in-Ok.count ≤ most = omega (arith, c.in-Ok.ensures.bound, c.widen.ensures.len) in
    let fits : at + c.in-Ok.count ≤ length c.take_after.new.buffer.items = omega (arith, c.in-Ok.ensures.bound, c.in-Ok.ensures.room, c.take_after.new.buffer.ok.0) in
    let plain = plain_held most c.args.feed.now.buffered _ (rw c.held.ensures.value at c.piece_size-most.ensures.within) (rw c.held.ensures.value at c.piece_size-most.ensures.plain) in
    λ told.
    moved-piece _ _ _ _ _ at c.in-Ok.count most _ start some few fits (c.in-Ok.ensures.told told).0 c.truncate-in-Ok.ensures.items plain
    (rw c.deref.ensures.value at c.kind_of.ensures)
