-- Which refusal of a collector each refusal of its journal is.
use Rattle.std.specs.Prelude.{◌≡◌}
use Rattle.pm_journal.specs.declared.error.JournalError.{JournalError}
use Rattle.pm_journal.specs.declared.error.JournalError.TheVariants as journal
use Rattle.pm_collect.specs.declared.error.CollectError.{CollectError}
use Rattle.pm_collect.specs.declared.error.CollectError.TheVariants.{StoreFault, Foreign, Garbled, StoreFull, Memory}

abbrev pub IsErrorOf : JournalError → CollectError → Type 0
IsErrorOf journal.StoreFault e = e ≡ StoreFault
IsErrorOf journal.Foreign e = e ≡ Foreign
IsErrorOf (journal.Garbled offset) e = e ≡ Garbled offset
IsErrorOf (journal.StoreFull length' need) e = e ≡ StoreFull length' need
IsErrorOf journal.Memory e = e ≡ Memory
