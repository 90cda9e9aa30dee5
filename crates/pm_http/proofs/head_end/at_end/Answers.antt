use Rattle.std.proofs.Common.{◌<◌, length, arith}
use Rattle.std.proofs.lemmas.Bool.Decides.{nat_tests}
use Rattle.pm_http.proofs.StepLemmas.{never_front, ends-Short}
use Rattle.pm_http.proofs.head_end.at_end.Goals as goal

pub returns-else-may_grow-clause-steps : goal.returns-else-may_grow-clause-steps
returns-else-may_grow-clause-steps c =
    let never = rw c.if-may_grow.false at c.may_grow.ensures in
    λ all left g. (g.split, never_front 16384 all c.args.head.now left g.split never)

pub returns-then-may_grow-clause-steps : goal.returns-then-may_grow-clause-steps
returns-then-may_grow-clause-steps c =
    let may = rw c.if-may_grow.true at c.may_grow.ensures in
    let some : 0 < length c.args.head.now = grind (arith, nat_tests, c.is_empty.ensures, c.if-is_empty.false) in
    λ all left g. (g.split, ends-Short all c.args.head.now left c.may_grow.new.fields g some may)
