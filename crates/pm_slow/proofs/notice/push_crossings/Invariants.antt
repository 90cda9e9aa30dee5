use Rattle.std.proofs.Common.{◌≡◌, ◌++◌, map}
use Rattle.pm_history.specs.Notices.{Crossing}
use Rattle.pm_slow.specs.Seen.{notice_seen}
use Rattle.pm_slow.proofs.notice.push_crossings.Given as goal

abbrev pub invariant-loop-crossing : goal.invariant-loop-crossing
invariant-loop-crossing l = map notice_seen l.out.items ≡ map notice_seen l.initial.out.items ++ map Crossing l.yielded
