use Rattle.pm_bank.specs.Entries.{AreSound}
use Rattle.pm_bank.proofs.thread_tests.thousand.Given as goal

abbrev pub invariant-loop-i : goal.invariant-loop-i
invariant-loop-i l = AreSound 4 l.hits.items
