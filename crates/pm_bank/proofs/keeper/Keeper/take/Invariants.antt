use Rattle.pm_bank.proofs.keeper.Keeper.take.Given as goal

abbrev pub ghosts-take_leaves : goal.ghosts-take_leaves
ghosts-take_leaves a = record { cells = a.tally.now }
