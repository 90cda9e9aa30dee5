-- How many bytes lists of rows have.
use Rattle.std.proofs.Common.{◌≡◌, ℕ, suc, ◌+◌, ◌*◌, List, [], ◌∷◌, ◌++◌, length, refl, arith, length-append}
use Rattle.std.proofs.Math.Nat.{mul-suc}
use Rattle.std.specs.List.{flat_map}
use Rattle.std.specs.Int.{w64, to_be_bytes}
use Rattle.pm_meas.specs.declared.cell.Cell.{Cell}
use Rattle.pm_store.specs.declared.item.Item1.TheVariants.{Booked}
use Rattle.pm_store.specs.Item.{item_bytes}
use Rattle.pm_store.specs.Rows.{cell_bytes}

length-rows : {A : Type 0} (row : A → List ℕ) (size : ℕ) → ((a : A) → length (row a) ≡ size) → (xs : List A) → length (flat_map row xs) ≡ size * length xs
length-rows row size each [] = omega arith
length-rows row size each (x ∷ xs) =
    let own = each x in
    let rest = length-rows row size each xs in
    let both = length-append (row x) (flat_map row xs) in
    let product = mul-suc size (length xs) in
    omega (arith, own, rest, both, product)

pub length-booked : (moment tick : ℕ) (cells : List (ℕ × Cell)) (cursors : List ℕ)
    → length (item_bytes (Booked moment tick cells cursors)) ≡ 20 + 22 * length cells + 8 * length cursors
length-booked moment tick cells cursors =
    let of_cells = length-rows cell_bytes 22 (λ c. refl) cells in
    let of_cursors = length-rows (to_be_bytes w64) 8 (λ n. refl) cursors in
    let both = length-append (flat_map cell_bytes cells) (◌∷◌ (length cursors) (flat_map (to_be_bytes w64) cursors)) in
    omega (arith, of_cells, of_cursors, both)
