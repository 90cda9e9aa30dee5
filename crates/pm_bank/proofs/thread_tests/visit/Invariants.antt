use Rattle.std.proofs.Common.{◌≡◌}
use Rattle.pm_bank.proofs.thread_tests.visit.Given as goal

abbrev pub invariant-visits : goal.invariant-visits
invariant-visits l = l.pass.bank ≡ l.bank.id
