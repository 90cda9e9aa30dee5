use Rattle.std.proofs.Common.{◌<◌, ◌≡◌, ℕ, List, ◌++◌, length, IfOk, sym, ap, subst, ◌∙◌, arith}
use Rattle.pm_outside.specs.Feed.{left_to}
use Rattle.pm_http.specs.Piece.{Gathers, StepsHead}
use Rattle.pm_http.proofs.SeenLemmas.{seen_on}
use Rattle.pm_http.proofs.StepLemmas.{begun_on, moved, never_front}
use Rattle.pm_http.proofs.StopsLemmas.{fault_at_piece}
use Rattle.pm_http.proofs.head_end.read_on.Goals as goal

pub returns-in-Ok-clause-steps : goal.returns-in-Ok-clause-steps
returns-in-Ok-clause-steps g c =
    let few : length c.args.head.now.items < 16384 = omega (arith, c.requires.few, c.args.head.now.ok.0) in
    let at : c.len-at.result ≡ length c.args.head.now.items = omega (arith, c.len-at.ensures, c.reserve.ensures.len, c.args.head.now.ok.0) in
    let still = rw (c.deref-in-Ok.ensures.value, at) at c.is_begun.ensures in
    λ told all begun gathers.
    let moves = rw c.reserve.ensures.items at (c.in-Ok.ensures.moves told) in
    let steps = rw c.deref-in-Ok-2.ensures.value at c.judge.ensures.steps in
    steps all (left_to c.read_piece.new.feed (g.S.Source.left c.read_piece.new.source))
    (begun_on c.args.begun.now c.is_begun.result _ _ _ _ _ still begun moves) (moved all _ _ _ _ _ gathers few moves)

pub returns-in-Ok-clause-stands : goal.returns-in-Ok-clause-stands
returns-in-Ok-clause-stands g c = λ told. c.judge.ensures.stands _ (c.in-Ok.ensures.stands told)

pub returns-in-Ok-clause-begun : goal.returns-in-Ok-clause-begun
returns-in-Ok-clause-begun g c =
    let at : c.len-at.result ≡ length c.args.head.now.items = omega (arith, c.len-at.ensures, c.reserve.ensures.len, c.args.head.now.ok.0) in
    let still = rw (c.deref-in-Ok.ensures.value, at) at c.is_begun.ensures in
    λ told begun.
    let moves = rw c.reserve.ensures.items at (c.in-Ok.ensures.moves told) in
    begun_on c.args.begun.now c.is_begun.result _ _ _ _ _ still begun moves

pub returns-in-Ok-clause-seen : goal.returns-in-Ok-clause-seen
returns-in-Ok-clause-seen g c =
    λ told all seen gathers going.
    let moves = rw c.reserve.ensures.items at (c.in-Ok.ensures.moves told) in
    let same : c.deref-2.result.now ≡ c.args.head.now.items = c.deref-2.ensures.value ∙ c.reserve.ensures.items in
    let now = rw same at c.may_go_on.ensures.seen in
    seen_on _ _ _ _ _ _ (now c.if-not-may_go_on.false gathers.none seen) moves

pub returns-then-not-may_go_on-clause-steps : goal.returns-then-not-may_go_on-clause-steps
returns-then-not-may_go_on-clause-steps g c =
    let left = left_to c.args.feed.now (g.S.Source.left c.args.source.now) in
    let never = rw c.deref-2.ensures.value at (c.may_go_on.ensures.never c.if-not-may_go_on.true) in
    λ told all begun gathers.
    let split = gathers.split ∙ ap (λ (t : List ℕ). t ++ left) (sym c.reserve.ensures.items) in
    (split, never_front 16384 all c.reserve.new.self.items left split never)

pub returns-then-not-may_go_on-clause-shows : goal.returns-then-not-may_go_on-clause-shows
returns-then-not-may_go_on-clause-shows g c = rw c.deref-2.ensures.value at (c.may_go_on.ensures.never c.if-not-may_go_on.true)

pub returns-in-Err-clause-stops : goal.returns-in-Err-clause-stops
returns-in-Err-clause-stops g c =
    let few : length c.args.head.now.items < 16384 = omega (arith, c.requires.few, c.args.head.now.ok.0) in
    let same : c.deref-2.result.now ≡ c.args.head.now.items = c.deref-2.ensures.value ∙ c.reserve.ensures.items in
    let may = rw same at c.may_go_on.ensures.may in
    λ told all seen gathers.
    let begins = may c.if-not-may_go_on.false gathers.none seen c.in-Err.ensures.wanted in
    rw c.in-Err.ensures.fault (fault_at_piece all c.args.head.now.items _ _ gathers few begins (c.in-Err.ensures.stays told))

pub returns-then-is_err-clause-steps : goal.returns-then-is_err-clause-steps
returns-then-is_err-clause-steps g c =
    λ told all begun gathers.
    let left = left_to c.args.feed.now (g.S.Source.left c.args.source.now) in
    let same : c.deref.result.now ≡ c.args.head.now.items = c.deref.ensures.value ∙ c.reserve.ensures.items in
    let gathered = subst (λ (h : List ℕ). Gathers all h left) (sym same) gathers in
    subst (λ (h : List ℕ). IfOk c.out_of_room.result (StepsHead all h left c.out_of_room.new.fields)) c.deref.ensures.value (c.out_of_room.ensures.steps all left gathered)

pub returns-then-is_err-clause-stops : goal.returns-then-is_err-clause-stops
returns-then-is_err-clause-stops g c =
    λ told all seen gathers.
    let left = left_to c.args.feed.now (g.S.Source.left c.args.source.now) in
    let same : c.deref.result.now ≡ c.args.head.now.items = c.deref.ensures.value ∙ c.reserve.ensures.items in
    c.out_of_room.ensures.stops all left (subst (λ (h : List ℕ). Gathers all h left) (sym same) gathers)

pub returns-then-is_err-clause-stands : goal.returns-then-is_err-clause-stands
returns-then-is_err-clause-stands g c = λ told. c.out_of_room.ensures.stands c.args.feed.now.given c.requires.within
