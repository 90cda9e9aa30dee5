use Rattle.pm_inventory.proofs.DefaultLemmas.{text-added}
use Rattle.pm_inventory.proofs.default.add_measure.Goals as goal

pub returns-in-Ok : goal.returns-in-Ok
returns-in-Ok c = text-added c.args.catalogue.now c.add.new.self c.args.words.now c.in-Ok.ensures.added.1
