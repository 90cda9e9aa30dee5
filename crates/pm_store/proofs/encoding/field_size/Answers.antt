use Rattle.std.proofs.Common.{◌≡◌, ◌<◌, ◌^◌, ℕ, List, length, subst, sym, ap, ◌∙◌}
use Rattle.pm_meas.specs.declared.cell.Cell.{Cell}
use Rattle.pm_store.specs.declared.item.Item1.{Item1}
use Rattle.pm_store.specs.declared.item.Item1.TheVariants.{Booked}
use Rattle.pm_store.specs.Item.{FieldsFit, field_bytes}
use Rattle.pm_store.proofs.encoding.field_size.Goals as goal

few : (item : Item1) (m t : ℕ) (cells : List (ℕ × Cell)) (cursors : List ℕ) → item ≡ Booked m t cells cursors
    → FieldsFit item → length cells < 2 ^ 16
few item m t cells cursors is fits = (subst FieldsFit is fits).1.0.0.0

pub booked_size-requires-clause-cells : goal.booked_size-requires-clause-cells
booked_size-requires-clause-cells c = few c.args.item.now _ _ c.in-Booked.cells c.in-Booked.cursors c.in-Booked.is c.requires

pub returns-in-Booked-clause-size : goal.returns-in-Booked-clause-size
returns-in-Booked-clause-size c = c.booked_size.ensures.size c.in-Booked.tick
    ∙ ap (λ (i : Item1). length (field_bytes i)) (sym c.in-Booked.is)
