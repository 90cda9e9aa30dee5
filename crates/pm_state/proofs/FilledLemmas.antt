-- The cells with values, with their slots, are the cells of all slots.
use Rattle.std.proofs.Common.{◌≡◌, ℕ, ◌+◌, ◌<◌, ◌≤◌, ◌&&◌, Bool, true, false, cond, eqb, ltb, List, [], ◌∷◌, length, map, Option, Some, None, refl, sym, ap, ◌∙◌, arith}
use Rattle.std.specs.List.{position_from}
use Rattle.std.proofs.lemmas.Bool.{ne_eqb, eq-eqb, eqb-true}
use Rattle.std.proofs.Common.{lt-ltb}
use Rattle.pm_meas.specs.declared.cell.Cell.{Cell}
use Rattle.pm_meas.specs.Cell.{cell_of}
use Rattle.pm_inventory.specs.Inventory.{InventoryState, SlotKey, is_slot_of, slot_number, slots}
use Rattle.pm_history.specs.History.{History}
use Rattle.pm_items.specs.Items.{open_values, open_cells}
use Rattle.pm_batch.specs.OpenTick.{open_cell}
use Rattle.pm_store.specs.Stored.{cell_at, cell_among}
use Rattle.pm_state.specs.Filled.{filled, filled_from}
use Rattle.pm_state.specs.Stands.{OnlySlots}

pair : (a b : Bool) → (a && b) ≡ true → (a ≡ true) × (b ≡ true)
pair true b is = (refl, is)
pair false b is = cc

-- a slot before the first has no cell
at-before : (k slot : ℕ) (cells : List Cell) → slot < k → cell_at (filled_from k cells) slot ≡ cell_of []
at-before k slot [] lt = refl
at-before k slot (c ∷ cs) lt = by (ltb 0 c.n) (at-before (k + 1) slot cs (omega (arith, lt)))
  where
    by : (b : Bool) → cell_at (filled_from (k + 1) cs) slot ≡ cell_of []
        → cell_at (cond b ((k, c) ∷ filled_from (k + 1) cs) (filled_from (k + 1) cs)) slot ≡ cell_of []
    by true rest = rw (ne_eqb k slot (λ same. omega (arith, same, lt))) rest
    by false rest = rest

empty : (values : List ℕ) → ltb 0 (length values) ≡ false → cell_of values ≡ cell_of []
empty [] none = refl
empty (v ∷ vs) none =
    let some : ltb 0 (length (v ∷ vs)) ≡ true = lt-ltb _ _ (omega arith) in
    absurd (apart (sym some ∙ none))
  where
    apart : true ≡ false → ⊥
    apart same = cc

-- a place that is found is not before the first
from-first : {K : Type 0} (t : K → Bool) (k : ℕ) (keys : List K) (slot : ℕ) → position_from t k keys ≡ Some slot → k ≤ slot
from-first t k [] slot is = absurd (cc (is))
from-first t k (key ∷ keys) slot is = by (t key) is (from-first t (k + 1) keys slot)
  where
    by : (b : Bool) → cond b (Some k) (position_from t (k + 1) keys) ≡ Some slot → (position_from t (k + 1) keys ≡ Some slot → k + 1 ≤ slot)
        → k ≤ slot
    by true is rest = let same : k ≡ slot = cc in omega (arith, same)
    by false is rest = let le = rest is in omega (arith, le)

past : (k : ℕ) (c : Cell) (rest : List (ℕ × Cell)) (place : Option ℕ) → ((slot : ℕ) → place ≡ Some slot → k + 1 ≤ slot)
    → cell_among ((k, c) ∷ rest) place ≡ cell_among rest place
past k c rest None after = refl
past k c rest (Some slot) after = rw (ne_eqb k slot (λ same. omega (arith, same, after slot refl))) refl

-- ---- each object and metric

own-key : (h : History) (object metric : ℕ) (key : SlotKey) → is_slot_of object metric key ≡ true → open_cell h key ≡ open_cells h object metric
own-key h object metric key is =
    let both = pair (eqb key.object object) (eqb key.metric metric) is in
    let o = eqb-true key.object object both.0 in
    let m = eqb-true key.metric metric both.1 in
    λ i. open_cells h (o i) (m i)

among : (h : History) (object metric k : ℕ) (keys : List SlotKey)
    → (position_from (is_slot_of object metric) k keys ≡ None → open_values object metric h ≡ [])
    → cell_among (filled_from k (map (open_cell h) keys)) (position_from (is_slot_of object metric) k keys) ≡ open_cells h object metric
among h object metric k [] none = ap cell_of (sym (none refl))
among h object metric k (key ∷ keys) none =
    by (is_slot_of object metric key) refl none (λ other. among h object metric (k + 1) keys other)
  where
    cells : List Cell
    cells = map (open_cell h) keys

    here : (b : Bool) → ltb 0 (open_cell h key).n ≡ b → is_slot_of object metric key ≡ true
        → cell_at (cond b ((k, open_cell h key) ∷ filled_from (k + 1) cells) (filled_from (k + 1) cells)) k ≡ open_cells h object metric
    here true some is = rw (eq-eqb k k refl) (own-key h object metric key is)
    here false none is =
        at-before (k + 1) k cells (omega arith) ∙ (sym (empty (open_values key.object key.metric h) none) ∙ own-key h object metric key is)

    there : (b : Bool) → cell_among (filled_from (k + 1) cells) (position_from (is_slot_of object metric) (k + 1) keys) ≡ open_cells h object metric
        → cell_among (cond b ((k, open_cell h key) ∷ filled_from (k + 1) cells) (filled_from (k + 1) cells)) (position_from (is_slot_of object metric) (k + 1) keys)
        ≡ open_cells h object metric
    there true rest =
        past k (open_cell h key) (filled_from (k + 1) cells) (position_from (is_slot_of object metric) (k + 1) keys)
        (λ slot is. from-first (is_slot_of object metric) (k + 1) keys slot is)
        ∙ rest
    there false rest = rest

    by : (b : Bool) → is_slot_of object metric key ≡ b
        → (cond b (Some k) (position_from (is_slot_of object metric) (k + 1) keys) ≡ None → open_values object metric h ≡ [])
        → ((position_from (is_slot_of object metric) (k + 1) keys ≡ None → open_values object metric h ≡ [])
        → cell_among (filled_from (k + 1) cells) (position_from (is_slot_of object metric) (k + 1) keys) ≡ open_cells h object metric)
        → cell_among (cond (ltb 0 (open_cell h key).n) ((k, open_cell h key) ∷ filled_from (k + 1) cells) (filled_from (k + 1) cells))
        (cond b (Some k) (position_from (is_slot_of object metric) (k + 1) keys)) ≡ open_cells h object metric
    by true is none rest = here (ltb 0 (open_cell h key).n) refl is
    by false is none rest = there (ltb 0 (open_cell h key).n) (rest none)

-- The cells that a store keeps of a tick are those of its item.
pub filled-is : (inventory : InventoryState) (h : History) → OnlySlots inventory h
    → (λ object metric. cell_among (filled (map (open_cell h) (slots inventory))) (slot_number inventory object metric)) ≡ open_cells h
filled-is inventory h only = λ i object metric. among h object metric 0 (slots inventory) (only object metric) i
