use Rattle.pm_inventory.proofs.InventoryLawLemmas.{one-inventory}
use Rattle.pm_inventory.proofs.inventory_law.one_inventory.Goals as goal

pub returns : goal.returns
returns c = one-inventory
