use Rattle.std.proofs.Common.{◌∷◌, []}
use Rattle.pm_bank.proofs.pass.Pass.count.Given as goal

abbrev pub ghosts-count_one : goal.ghosts-count_one
ghosts-count_one a = record { hits = record { slot = a.slot; value = a.value } ∷ [] }
