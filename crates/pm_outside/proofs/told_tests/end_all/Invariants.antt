-- The connections that are done and those that are left are, in order, those of the call.
use Rattle.std.proofs.Common.{◌≡◌, ◌++◌}
use Rattle.pm_outside.proofs.told_tests.end_all.Given as goal

abbrev pub invariant-loop : goal.invariant-loop
invariant-loop g l =
    let now = g.D.Doors.state l.doors in
    let before = g.D.Doors.state l.fn.doors in
    g.D.Doors.IsTold → now.ended ++ now.left ≡ before.ended ++ before.left
