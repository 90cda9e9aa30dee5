use Rattle.std.proofs.Common.{◌-◌}
use Rattle.pm_bank.proofs.run.lay_cell.Given as goal

abbrev pub ghosts-add : goal.ghosts-add
ghosts-add a = record { word = a.word; slot = a.slot; amount = a.amount }

abbrev pub ghosts-raise : goal.ghosts-raise
ghosts-raise a = record { word = 2; slot = a.slot; amount = a.greatest }

abbrev pub ghosts-lower : goal.ghosts-lower
ghosts-lower a = record { word = 3; slot = a.slot; amount = 4294967295 - a.least }
