use Rattle.std.proofs.Common.{length}
use Rattle.pm_bank.specs.Run.{IsFolding}
use Rattle.pm_bank.proofs.run.fold_run.Given as goal

abbrev pub invariant-loop-i : goal.invariant-loop-i
invariant-loop-i l = IsFolding l.i (length l.initial.cells) l.hits l.cells
