-- A tick without events.
use Rattle.std.proofs.Common.{◌≡◌, ◌+◌, ◌%◌, ℕ, Bool, true, cond, List, [], ◌∷◌, ◌++◌, length, map, replicate, take, drop, refl, sym, ◌∙◌, ap, subst, arith}
use Rattle.std.proofs.Math.Nat.{zero-mod}
use Rattle.std.proofs.lemmas.List.{length-map, append-nil, take_all, drop_all}
use Rattle.pm_meas.specs.Cell.{cell_of}
use Rattle.pm_inventory.specs.Inventory.{InventoryState, SlotKey, slots}
use Rattle.pm_inventory.specs.Slot.{Slot, slot_of_key, event_slots}
use Rattle.pm_inventory.specs.SlotNames.{AreDistinct}
use Rattle.pm_history.specs.declared.entry.Entry.{Entry}
use Rattle.pm_history.specs.History.{History, Start, ◌▷◌}
use Rattle.pm_history.specs.Value.{value_where}
use Rattle.pm_items.specs.Items.{ends_tick, open_values}
use Rattle.pm_batch.specs.declared.phase.Phase.{Phase}
use Rattle.pm_batch.specs.declared.open_tick.OpenTick.{OpenTick}
use Rattle.pm_batch.specs.OpenCounts.{one_if, is_event_of, is_registered_event, open_events, open_registered}
use Rattle.pm_batch.specs.Entries.{registers_each}
use Rattle.pm_batch.specs.Phases.{begun, first_phase}
use Rattle.pm_batch.specs.OpenTick.{IsTickOf, open_cell, open_phase, TickStands}

-- the same cell of each slot
alike : {A B : Type 0} (f : A → B) (x : B) (xs : List A) → ((a : A) → x ≡ f a) → replicate (length xs) x ≡ map f xs
alike f x [] each = refl
alike f x (a ∷ xs) each = ap (λ y. y ∷ replicate (length xs) x) (each a) ∙ ap (λ ys. f a ∷ ys) (alike f x xs each)

-- No event came yet in what is open.
pub record IsAnew (h : History) : Type 0 where
  pub values : (object metric : ℕ) → open_values object metric h ≡ []
  pub events : (object metric : ℕ) → open_events object metric h ≡ 0
  pub registered : open_registered h ≡ 0

pub start-anew : IsAnew Start
start-anew = record { values = λ object metric. refl; events = λ object metric. refl; registered = refl }

pub ended-anew : (h : History) (e : Entry) → ends_tick h e ≡ true → IsAnew (h ▷ e)
ended-anew h e is = record {
  values = λ object metric. ap (λ (b : Bool). cond b [] (open_values object metric h ++ value_where object metric (λ tick. true) e)) is;
  events = λ object metric. ap (λ (b : Bool). cond b 0 (open_events object metric h + one_if (is_event_of object metric e))) is;
  registered = ap (λ (b : Bool). cond b 0 (open_registered h + one_if (is_registered_event e))) is;
}

pub anew-phase : (inventory : InventoryState) (h : History) (key : SlotKey) → IsAnew h → record { seen = 0; each = registers_each inventory key } ≡ open_phase inventory h key
anew-phase inventory h key anew =
    let each = registers_each inventory key in
    ap (λ (n : ℕ). record { seen = n; each = each }) (sym (zero-mod each) ∙ ap (λ (n : ℕ). n % each) (sym (anew.events key.object key.metric)))

-- phases that begin anew
begun-are : (inventory : InventoryState) (h : History) (phases : List Phase) (keys : List SlotKey) → IsAnew h → map (λ (p : Phase). p.each) phases ≡ map (registers_each inventory) keys → map begun phases ≡ map (open_phase inventory h) keys
begun-are inventory h [] [] anew each = refl
begun-are inventory h [] (key ∷ keys) anew each = absurd (cc (each))
begun-are inventory h (p ∷ phases) [] anew each = absurd (cc (each))
begun-are inventory h (p ∷ phases) (key ∷ keys) anew each =
    let own : p.each ≡ registers_each inventory key = cc in
    let others : map (λ (p : Phase). p.each) phases ≡ map (registers_each inventory) keys = cc in
    ap (λ (l : List Phase). begun p ∷ l) (begun-are inventory h phases keys anew others)
    ∙ ap (λ (n : ℕ). record { seen = 0; each = n } ∷ map (open_phase inventory h) keys) own
    ∙ ap (λ (x : Phase). x ∷ map (open_phase inventory h) keys) (anew-phase inventory h key anew)

first-are : (inventory : InventoryState) (h : History) (keys : List SlotKey) → IsAnew h → map first_phase (map (slot_of_key inventory) keys) ≡ map (open_phase inventory h) keys
first-are inventory h [] anew = refl
first-are inventory h (key ∷ keys) anew =
    ap (λ (l : List Phase). first_phase (slot_of_key inventory key) ∷ l) (first-are inventory h keys anew)
    ∙ ap (λ (x : Phase). x ∷ map (open_phase inventory h) keys) (anew-phase inventory h key anew)

each-are : (inventory : InventoryState) (h : History) (keys : List SlotKey) → map (λ (p : Phase). p.each) (map (open_phase inventory h) keys) ≡ map (registers_each inventory) keys
each-are inventory h [] = refl
each-are inventory h (key ∷ keys) = ap (λ (ns : List ℕ). registers_each inventory key ∷ ns) (each-are inventory h keys)

cells-are : (h : History) (keys : List SlotKey) (n : ℕ) → n ≡ length keys → IsAnew h → replicate n (cell_of []) ≡ map (open_cell h) keys
cells-are h keys n is anew = ap (λ (m : ℕ). replicate m (cell_of [])) is ∙ alike (open_cell h) (cell_of []) keys (λ key. ap cell_of (sym (anew.values key.object key.metric)))

-- A tick of an inventory that begins anew.
pub clear-stands : (inventory : InventoryState) (h : History) (old new : OpenTick) → IsAnew h → IsTickOf inventory old → length old.cells.items ≡ length old.phases.items → new.cells.items ≡ replicate (length old.cells.items) (cell_of []) → new.phases.items ≡ map begun old.phases.items → new.registered ≡ 0 → TickStands inventory h new
clear-stands inventory h old new anew made wide cells phases registered =
    let keys = slots inventory in
    let many : length old.cells.items ≡ length keys = omega (arith, wide, ap length made.each, length-map old.phases.items (λ (p : Phase). p.each), length-map keys (registers_each inventory)) in
    let are : new.phases.items ≡ map (open_phase inventory h) keys = phases ∙ begun-are inventory h old.phases.items keys anew made.each in
    record {
      made = record { each = ap (map (λ (p : Phase). p.each)) are ∙ each-are inventory h keys; distinct = made.distinct };
      cells = cells ∙ cells-are h keys (length old.cells.items) many anew;
      phases = are;
      registered = registered ∙ sym anew.registered;
    }

-- A tick that was made for the slots of an inventory.
pub new-stands : (inventory : InventoryState) (table : List Slot) (tick : OpenTick) → table ≡ event_slots inventory → AreDistinct table → tick.cells.items ≡ replicate (length table) (cell_of []) → tick.phases.items ≡ map first_phase table → tick.registered ≡ 0 → TickStands inventory Start tick
new-stands inventory table tick is distinct cells phases registered =
    let keys = slots inventory in
    let many : length table ≡ length keys = ap length is ∙ length-map keys (slot_of_key inventory) in
    let are : tick.phases.items ≡ map (open_phase inventory Start) keys = phases ∙ ap (map first_phase) is ∙ first-are inventory Start keys start-anew in
    record {
      made = record { each = ap (map (λ (p : Phase). p.each)) are ∙ each-are inventory Start keys; distinct = subst AreDistinct is distinct };
      cells = cells ∙ cells-are Start keys (length table) many start-anew;
      phases = are;
      registered = registered;
    }

-- What a slice that was lent puts back.
pub put_back : {A : Type 0} (old new : List A) (len : ℕ) → length new ≡ length old → len ≡ length old → take len (new ++ drop (length new) old) ≡ new
put_back old new len many is =
    ap (λ l. take len (new ++ l)) (drop_all (length new) old (omega (arith, many))) ∙ ap (take len) (append-nil new) ∙ take_all len new (omega (arith, many, is))
