use Rattle.pm_bank.specs.Registering.{registered}
use Rattle.pm_bank.proofs.pass.Pass.count_registered.Given as goal

abbrev pub ghosts-count_some : goal.ghosts-count_some
ghosts-count_some a = record { hits = registered a.every.now a.start.now a.hits.now }
