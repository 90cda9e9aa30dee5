-- Cells in range are small, and a row stays small where one is put in.
use Rattle.std.proofs.Common.{◌≡◌, ℕ, ◌*◌, ◌<◌, ◌≤◌, Bool, true, false, eqb, List, [], length, set, get_or, refl, sym, ap, subst, ◌∙◌, arith}
use Rattle.std.proofs.lemmas.Bool.{eqb-true, eq-eqb}
use Rattle.std.proofs.lemmas.Nat.{mul-le}
use Rattle.std.proofs.lemmas.List.{get_or-set_same, get_or-set_other, length-set}
use Rattle.pm_meas.specs.declared.cell.Cell.{Cell}
use Rattle.pm_meas.specs.declared.cell.TheConstants.{MAX_VALUE}
use Rattle.pm_meas.specs.Cell.{cell_of}
use Rattle.pm_items.specs.Permitted.{IsInRange}
use Rattle.pm_close.specs.Rows.{IsSmall, AreSmall}

pub in_range-small : (cell : Cell) → IsInRange cell → IsSmall cell
in_range-small cell is =
    let room = mul-le cell.n cell.max cell.n MAX_VALUE (omega arith) is.small in
    (is.few, omega (arith, is.total, room))

pub small-set : (row : List Cell) (slot : ℕ) (cell : Cell) → slot < length row → IsSmall cell → AreSmall row → AreSmall (set row slot cell)
small-set row slot cell in_row is all k lt = by (eqb k slot) refl
  where
    by : (b : Bool) → eqb k slot ≡ b → IsSmall (get_or (set row slot cell) k (cell_of []))
    by true same =
        let at = eqb-true k slot same in
        subst IsSmall (sym (ap (λ n. get_or (set row slot cell) n (cell_of [])) at ∙ get_or-set_same row slot cell (cell_of []) in_row)) is
    by false same =
        let apart : (k ≡ slot → ⊥) = λ at. differ (sym same ∙ eq-eqb k slot at) in
        subst IsSmall (sym (get_or-set_other row slot k cell (cell_of []) apart)) (all k (omega (arith, lt, length-set row slot cell)))
      where
        differ : false ≡ true → ⊥
        differ is = cc
