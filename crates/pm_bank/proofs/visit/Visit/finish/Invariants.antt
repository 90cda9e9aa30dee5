use Rattle.std.proofs.Common.{◌∷◌, []}
use Rattle.pm_bank.proofs.visit.Visit.finish.Given as goal

abbrev pub ghosts-finish_one : goal.ghosts-finish_one
ghosts-finish_one a = record { hits = record { slot = a.slot; value = a.value } ∷ [] }
