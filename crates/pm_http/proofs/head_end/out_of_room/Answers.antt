use Rattle.pm_http.proofs.StepLemmas.{never_front}
use Rattle.pm_http.proofs.StopsLemmas.{memory_at_piece}
use Rattle.pm_http.proofs.head_end.out_of_room.Goals as goal

pub returns-then-may_grow-clause-stops : goal.returns-then-may_grow-clause-stops
returns-then-may_grow-clause-stops c =
    let may = rw c.if-may_grow.true at c.may_grow.ensures in
    λ all left g. memory_at_piece all c.args.head.now left g (λ none. may none c.requires.few)

pub returns-else-may_grow-clause-steps : goal.returns-else-may_grow-clause-steps
returns-else-may_grow-clause-steps c =
    let never = rw c.if-may_grow.false at c.may_grow.ensures in
    λ all left g. (g.split, never_front 16384 all c.args.head.now left g.split never)
