use Rattle.std.proofs.Common.{◌≡◌}
use Rattle.pm_bank.proofs.thread_tests.work.Given as goal

abbrev pub invariant-runs : goal.invariant-runs
invariant-runs l = (l.pass.bank ≡ l.bank.id) × (l.scratch ≡ 4)

abbrev pub invariant-events : goal.invariant-events
invariant-events l = l.pass.bank ≡ l.bank.id
