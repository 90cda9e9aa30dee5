use Rattle.pm_bank.proofs.pass.Pass.count_run.Given as goal

abbrev pub ghosts-count_hits : goal.ghosts-count_hits
ghosts-count_hits a = record { hits = a.hits.now }
