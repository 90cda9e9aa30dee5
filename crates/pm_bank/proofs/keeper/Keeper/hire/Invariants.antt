use Rattle.pm_bank.proofs.keeper.Keeper.hire.Given as goal

abbrev pub ghosts-cut_off : goal.ghosts-cut_off
ghosts-cut_off a = record { quota = a.quota }
