-- Stored cells fit where the cells of objects and metrics do.
use Rattle.std.proofs.Common.{◌≡◌, ℕ, zero, suc, ◌+◌, ◌<◌, ◌≤◌, ◌&&◌, ◌⊎◌, Bool, true, false, cond, eqb, leb, ltb, List, [], ◌∷◌, length, get_or, Option, Some, None, refl, sym, ap, ◌∙◌, subst, arith, inl, inr}
use Rattle.std.specs.Option.{is_some}
use Rattle.std.proofs.lemmas.Bool.{ne_eqb, eq-eqb, ltb-true, leb-true}
use Rattle.std.proofs.lemmas.List.Elements.{All-head, All-tail}
use Rattle.pm_meas.specs.declared.cell.Cell.{Cell}
use Rattle.pm_meas.specs.Cell.{cell_of}
use Rattle.pm_inventory.specs.Inventory.{InventoryState, SlotKey, key_of, slot_number, slots}
use Rattle.pm_inventory.specs.Slot.{event_slots}
use Rattle.pm_inventory.specs.SlotNames.{AreDistinct}
use Rattle.pm_items.specs.Permitted.{Rules, IsInRange, CellsFit}
use Rattle.pm_store.specs.Rows.{rise_from, are_rising}
use Rattle.pm_store.specs.Stored.{cell_at, cell_among}
use Rattle.pm_replay.specs.Cells.{FitsSlot, AllFit}
use Rattle.pm_replay.specs.Rules.{AreRules}
use Rattle.pm_replay.proofs.RowLemmas.{both_true}
use Rattle.pm_replay.proofs.KeyLemmas.{number-at}

at-fits : (width : ℕ) (cells : List (ℕ × Cell)) (slot : ℕ) → AllFit width cells → (cell_at cells slot ≡ cell_of []) ⊎ IsInRange (cell_at cells slot)
at-fits width [] slot all = inl refl
at-fits width (c ∷ cs) slot all = by (eqb c.0 slot) (at-fits width cs slot (All-tail (FitsSlot width) c cs all))
  where
    by : (b : Bool) → ((cell_at cs slot ≡ cell_of []) ⊎ IsInRange (cell_at cs slot))
        → (cond b c.1 (cell_at cs slot) ≡ cell_of []) ⊎ IsInRange (cond b c.1 (cell_at cs slot))
    by true rest = inr (All-head (FitsSlot width) c cs all).1
    by false rest = rest

pub fit-permits : (inventory : InventoryState) (rules : Rules) (cells : List (ℕ × Cell)) → AreRules inventory rules → AllFit (length (slots inventory)) cells
    → CellsFit rules (λ object metric. cell_among cells (slot_number inventory object metric))
fit-permits inventory rules cells are all object metric = by (slot_number inventory object metric) refl
  where
    by : (o : Option ℕ) → slot_number inventory object metric ≡ o
        → (cell_among cells o ≡ cell_of []) ⊎ ((rules.is_slot object metric ≡ true) × IsInRange (cell_among cells o))
    by None is = inl refl
    by (Some slot) is =
        elim (at-fits (length (slots inventory)) cells slot all) [
          | inl none ↦ inl none
          | inr in_range ↦ inr (are.slots object metric ∙ ap is_some is, in_range)
        ]

-- ---- back

record StandsApart (least : ℕ) (c : ℕ × Cell) (cells : List (ℕ × Cell)) : Type 0 where
  later : least ≤ c.0
  some : 0 < c.1.n
  there : cell_at cells c.0 ≡ c.1

rising-at : (least : ℕ) (cells : List (ℕ × Cell)) (k : ℕ) (d : ℕ × Cell) → rise_from least cells ≡ true → k < length cells
    → StandsApart least (get_or cells k d) cells
rising-at least [] k d rise lt = absurd (omega (arith, lt))
rising-at least (c ∷ cs) zero d rise lt =
    let parts = both_true (leb least c.0 && ltb 0 c.1.n) (rise_from (c.0 + 1) cs) rise in
    let own = both_true (leb least c.0) (ltb 0 c.1.n) parts.0 in
    record { later = leb-true least c.0 own.0; some = ltb-true 0 c.1.n own.1; there = ap (λ b. cond b c.1 (cell_at cs c.0)) (eq-eqb c.0 c.0 refl) }
rising-at least (c ∷ cs) (suc k) d rise lt =
    let parts = both_true (leb least c.0 && ltb 0 c.1.n) (rise_from (c.0 + 1) cs) rise in
    let own = both_true (leb least c.0) (ltb 0 c.1.n) parts.0 in
    let le = leb-true least c.0 own.0 in
    let rest = rising-at (c.0 + 1) cs k d parts.1 (omega (arith, lt)) in
    let behind = rest.later in
    let slot = (get_or cs k d).0 in
    let other : eqb c.0 slot ≡ false = ne_eqb c.0 slot (λ same. omega (arith, same, behind)) in
    record {
      later = omega (arith, le, behind);
      some = rest.some;
      there = ap (λ b. cond b c.1 (cell_at cs slot)) other ∙ rest.there;
    }

pub permits-fit : (inventory : InventoryState) (rules : Rules) (cells : List (ℕ × Cell)) → AreDistinct (event_slots inventory) → are_rising cells ≡ true
    → ((k : ℕ) (d : ℕ × Cell) → k < length cells → (get_or cells k d).0 < length (slots inventory))
    → CellsFit rules (λ object metric. cell_among cells (slot_number inventory object metric)) → AllFit (length (slots inventory)) cells
permits-fit inventory rules cells distinct rise within fits k d lt =
    let c = get_or cells k d in
    let key : SlotKey = get_or (slots inventory) c.0 (key_of 0 0) in
    let apart = rising-at 0 cells k d rise lt in
    let number = number-at inventory c.0 (key_of 0 0) distinct (within k d lt) in
    let same : cell_among cells (slot_number inventory key.object key.metric) ≡ c.1 = ap (cell_among cells) number ∙ apart.there in (
      within k d lt,
      elim (fits key.object key.metric) [
        | inl none ↦
            let empty : c.1.n ≡ 0 = ap (λ (x : Cell). x.n) (sym same ∙ none) in
            let some = apart.some in
            absurd (omega (arith, empty, some))
        | inr in_range ↦ subst IsInRange same in_range.1
      ],
    )
