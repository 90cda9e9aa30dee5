use Rattle.pm_bank.proofs.taking.take_slot.Given as goal

abbrev pub ghosts-take_word : goal.ghosts-take_word
ghosts-take_word a = record { word = a.word; slot = a.slot; amount = 0 }
