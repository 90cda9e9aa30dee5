use Rattle.pm_inventory.proofs.InventoryLawLemmas.{one-refusal}
use Rattle.pm_inventory.proofs.inventory_law.one_refusal.Goals as goal

pub returns : goal.returns
returns c = one-refusal
