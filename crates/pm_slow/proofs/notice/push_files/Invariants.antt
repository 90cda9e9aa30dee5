use Rattle.std.proofs.Common.{◌≡◌, ◌++◌, map}
use Rattle.pm_history.specs.Notices.{FileReady}
use Rattle.pm_slow.specs.Seen.{notice_seen}
use Rattle.pm_slow.proofs.notice.push_files.Given as goal

abbrev pub invariant-loop-file : goal.invariant-loop-file
invariant-loop-file l = map notice_seen l.out.items ≡ map notice_seen l.initial.out.items ++ map FileReady l.yielded
