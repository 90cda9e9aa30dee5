use Rattle.std.proofs.Common.{ℕ, sym, subst}
use Rattle.pm_inventory.specs.Inventory.{InventoryState}
use Rattle.pm_inventory.specs.InventoryReading.{EndsAt}
use Rattle.pm_inventory.proofs.inventory_reading.finish.Goals as goal

pub returns-then-line-eq1-clause-ends : goal.returns-then-line-eq1-clause-ends
returns-then-line-eq1-clause-ends c =
    let state : InventoryState = record { objects = c.args.tree; measures = c.args.catalogue } in
    subst (λ (n : ℕ). EndsAt state n c.read_default.result) (sym c.if-line-eq1.true) (c.read_default.ensures.ends state)
