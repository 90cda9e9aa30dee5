use Rattle.pm_inventory.proofs.InventoryLawLemmas.{never-refused}
use Rattle.pm_inventory.proofs.inventory_law.never_refused.Goals as goal

pub returns : goal.returns
returns c = never-refused
