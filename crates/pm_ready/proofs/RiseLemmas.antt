-- The classes of what is measured rise, in byte order of their names.
use Rattle.std.proofs.Common.{◌≡◌, ℕ, true, List, [], ◌∷◌, ◌++◌, refl}
use Rattle.std.specs.List.{filter}
use Rattle.pm_base.specs.declared.Class.{Class}
use Rattle.pm_base.specs.declared.Class.TheVariants.{ManagedElement, GnbCuCp, NrCellCu, GnbDu, NrCellDu}
use Rattle.pm_inventory.specs.Inventory.{InventoryState}
use Rattle.pm_asked.specs.Asked.{Numbered, same_class, measured_of, measured_asked}
use Rattle.pm_ready.specs.Shape.{classes_rise}

-- of each class some metrics are measured, or none
each : (inventory : InventoryState) (os : List ℕ) (a b c d e : List Numbered)
    → classes_rise (measured_of inventory os GnbCuCp a ++ (measured_of inventory os GnbDu b ++ (measured_of inventory os ManagedElement c
    ++ (measured_of inventory os NrCellCu d ++ (measured_of inventory os NrCellDu e ++ []))))) ≡ true
each inventory os [] [] [] [] [] = refl
each inventory os [] [] [] [] (z ∷ zs) = refl
each inventory os [] [] [] (y ∷ ys) [] = refl
each inventory os [] [] [] (y ∷ ys) (z ∷ zs) = refl
each inventory os [] [] (x ∷ xs) [] [] = refl
each inventory os [] [] (x ∷ xs) [] (z ∷ zs) = refl
each inventory os [] [] (x ∷ xs) (y ∷ ys) [] = refl
each inventory os [] [] (x ∷ xs) (y ∷ ys) (z ∷ zs) = refl
each inventory os [] (w ∷ ws) [] [] [] = refl
each inventory os [] (w ∷ ws) [] [] (z ∷ zs) = refl
each inventory os [] (w ∷ ws) [] (y ∷ ys) [] = refl
each inventory os [] (w ∷ ws) [] (y ∷ ys) (z ∷ zs) = refl
each inventory os [] (w ∷ ws) (x ∷ xs) [] [] = refl
each inventory os [] (w ∷ ws) (x ∷ xs) [] (z ∷ zs) = refl
each inventory os [] (w ∷ ws) (x ∷ xs) (y ∷ ys) [] = refl
each inventory os [] (w ∷ ws) (x ∷ xs) (y ∷ ys) (z ∷ zs) = refl
each inventory os (v ∷ vs) [] [] [] [] = refl
each inventory os (v ∷ vs) [] [] [] (z ∷ zs) = refl
each inventory os (v ∷ vs) [] [] (y ∷ ys) [] = refl
each inventory os (v ∷ vs) [] [] (y ∷ ys) (z ∷ zs) = refl
each inventory os (v ∷ vs) [] (x ∷ xs) [] [] = refl
each inventory os (v ∷ vs) [] (x ∷ xs) [] (z ∷ zs) = refl
each inventory os (v ∷ vs) [] (x ∷ xs) (y ∷ ys) [] = refl
each inventory os (v ∷ vs) [] (x ∷ xs) (y ∷ ys) (z ∷ zs) = refl
each inventory os (v ∷ vs) (w ∷ ws) [] [] [] = refl
each inventory os (v ∷ vs) (w ∷ ws) [] [] (z ∷ zs) = refl
each inventory os (v ∷ vs) (w ∷ ws) [] (y ∷ ys) [] = refl
each inventory os (v ∷ vs) (w ∷ ws) [] (y ∷ ys) (z ∷ zs) = refl
each inventory os (v ∷ vs) (w ∷ ws) (x ∷ xs) [] [] = refl
each inventory os (v ∷ vs) (w ∷ ws) (x ∷ xs) [] (z ∷ zs) = refl
each inventory os (v ∷ vs) (w ∷ ws) (x ∷ xs) (y ∷ ys) [] = refl
each inventory os (v ∷ vs) (w ∷ ws) (x ∷ xs) (y ∷ ys) (z ∷ zs) = refl

of_class : List Numbered → Class → List Numbered
of_class ms c = filter (λ (m : Numbered). same_class m.1.class c) ms

pub rise : (inventory : InventoryState) (ms : List Numbered) (os : List ℕ) → classes_rise (measured_asked inventory ms os) ≡ true
unfolding of_class
rise inventory ms os = each inventory os (of_class ms GnbCuCp) (of_class ms GnbDu) (of_class ms ManagedElement) (of_class ms NrCellCu) (of_class ms NrCellDu)
