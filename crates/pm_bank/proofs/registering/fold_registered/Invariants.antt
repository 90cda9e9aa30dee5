use Rattle.pm_bank.specs.Registering.{IsRegistering}
use Rattle.pm_bank.proofs.registering.fold_registered.Given as goal

abbrev pub invariant-loop-i : goal.invariant-loop-i
invariant-loop-i l = IsRegistering l.i l.every l.initial.start l.hits l.start l.cells
