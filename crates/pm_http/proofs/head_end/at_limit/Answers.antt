use Rattle.pm_http.proofs.StepLemmas.{never_front, ends-Limit}
use Rattle.pm_http.proofs.head_end.at_limit.Goals as goal

pub returns-else-may_grow-clause-steps : goal.returns-else-may_grow-clause-steps
returns-else-may_grow-clause-steps c =
    let never = rw c.if-may_grow.false at c.may_grow.ensures in
    λ all left g. (g.split, never_front 16384 all c.args.head.now left g.split never)

pub returns-then-may_grow-clause-steps : goal.returns-then-may_grow-clause-steps
returns-then-may_grow-clause-steps c =
    let may = rw c.if-may_grow.true at c.may_grow.ensures in
    λ all left g. (g.split, ends-Limit all c.args.head.now left c.may_grow.new.fields g may)
