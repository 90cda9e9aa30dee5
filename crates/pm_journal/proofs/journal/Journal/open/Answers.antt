use Rattle.std.proofs.Common.{refl}
use Rattle.pm_journal.proofs.OpeningLemmas.{journal_opened, reading_is_not_ready}
use Rattle.pm_journal.proofs.TiedLemmas.{tied_opened}
use Rattle.pm_journal.proofs.journal.Journal.open.Goals as goal

pub returns-clause-opened : goal.returns-clause-opened
returns-clause-opened g c = λ told.
    let begun = c.in_ok-length.ensures.begun told in
    journal_opened c.args.limit _ _ _ begun.0 refl begun.1 reading_is_not_ready

pub returns-clause-tied : goal.returns-clause-tied
returns-clause-tied g c = λ told.
    let begun = c.in_ok-length.ensures.begun told in
    tied_opened (journal_opened c.args.limit _ _ _ begun.0 refl begun.1 reading_is_not_ready)
