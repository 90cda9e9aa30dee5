use Rattle.std.proofs.Common.{[], List, sym, subst}
use Rattle.pm_bank.specs.declared.view.Hit.{Hit}
use Rattle.pm_bank.specs.Entries.{AreSound}
use Rattle.pm_bank.proofs.RegisterLemmas.{registered-sound}
use Rattle.pm_bank.proofs.registering.count_some.Goals as goal

pub count_cells-requires-clause-sound : goal.count_cells-requires-clause-sound
count_cells-requires-clause-sound g c =
    subst (λ (l : List Hit). AreSound c.args.table.now.shared.key l) (sym c.requires.hits) (registered-sound c.args.table.now.shared.key c.args.every.now c.args.start.now [] c.args.hits.now c.requires.sound)
