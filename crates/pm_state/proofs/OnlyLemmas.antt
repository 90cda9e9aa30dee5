-- Only slots have events, after each entry.
use Rattle.std.proofs.Common.{◌≡◌, ℕ, zero, suc, ◌+◌, ◌<◌, ◌≤◌, ◌&&◌, Bool, true, false, cond, eqb, List, [], ◌∷◌, ◌++◌, length, get_or, Some, None, refl, ap, ◌∙◌, arith}
use Rattle.std.specs.List.{position_from}
use Rattle.std.proofs.lemmas.List.Elements.{All-head, All-tail}
use Rattle.pm_meas.specs.declared.cell.TheConstants.{MAX_VALUE}
use Rattle.pm_inventory.specs.Inventory.{InventoryState, SlotKey, key_of, is_slot_of, slot_number, slots}
use Rattle.pm_events.specs.declared.hit.Hit.{Hit}
use Rattle.pm_history.specs.declared.entry.Entry.{Entry}
use Rattle.pm_history.specs.declared.entry.Entry.TheVariants.{Boot, Now, Event, JobMade, JobState, JobDeleted, MonitorMade, MonitorState, MonitorDeleted, Subscribed, Unsubscribed}
use Rattle.pm_history.specs.History.{History, ◌▷◌}
use Rattle.pm_history.specs.Value.{value_where}
use Rattle.pm_items.specs.Items.{ends_tick, open_values}
use Rattle.pm_batch.specs.Laws.{is_event}
use Rattle.pm_batch.specs.Reading.{AreOfSlots}
use Rattle.pm_batch.specs.Entries.{key_at, entry_after, with_batch}
use Rattle.pm_state.specs.Stands.{OnlySlots}

-- an entry that ends what was open leaves nothing
pub only-ended : (inventory : InventoryState) (h : History) (e : Entry) → ends_tick h e ≡ true → OnlySlots inventory (h ▷ e)
only-ended inventory h e ends object metric none = ap (λ b. cond b [] (open_values object metric h ++ value_where object metric (λ tick. true) e)) ends

no-value : (object metric : ℕ) (e : Entry) → is_event e ≡ false → value_where object metric (λ tick. true) e ≡ []
no-value object metric (Boot moment) other = refl
no-value object metric (Now moment) other = refl
no-value object metric (Event moment o m value registered) other = absurd (cc (other))
no-value object metric (JobMade moment id body) other = refl
no-value object metric (JobState moment id unlocked) other = refl
no-value object metric (JobDeleted moment id) other = refl
no-value object metric (MonitorMade moment id body) other = refl
no-value object metric (MonitorState moment id unlocked) other = refl
no-value object metric (MonitorDeleted moment id) other = refl
no-value object metric (Subscribed moment id port path) other = refl
no-value object metric (Unsubscribed moment id) other = refl

-- values that an entry which ends nothing adds
adds : (object metric : ℕ) (h : History) (e : Entry) → ends_tick h e ≡ false → open_values object metric h ≡ []
    → value_where object metric (λ tick. true) e ≡ [] → open_values object metric (h ▷ e) ≡ []
adds object metric h e goes_on old new =
    ap (λ b. cond b [] (open_values object metric h ++ value_where object metric (λ tick. true) e)) goes_on ∙ (λ i. old i ++ new i)

pub only-stays : (inventory : InventoryState) (h : History) (e : Entry) → ends_tick h e ≡ false → is_event e ≡ false → OnlySlots inventory h
    → OnlySlots inventory (h ▷ e)
only-stays inventory h e goes_on other only object metric none = adds object metric h e goes_on (only object metric none) (no-value object metric e other)

-- where other key passes, that at a place doesn't
none-at : (t : SlotKey → Bool) (k : ℕ) (keys : List SlotKey) (place : ℕ) (d : SlotKey) → position_from t k keys ≡ None → place < length keys
    → t (get_or keys place d) ≡ false
none-at t k [] place d none lt = absurd (omega (arith, lt))
none-at t k (key ∷ keys) place d none lt = by (t key) refl none place lt (none-at t (k + 1) keys)
  where
    by : (b : Bool) → t key ≡ b → cond b (Some k) (position_from t (k + 1) keys) ≡ None → (place : ℕ) → place < length (key ∷ keys)
        → ((place : ℕ) (d : SlotKey) → position_from t (k + 1) keys ≡ None → place < length keys → t (get_or keys place d) ≡ false)
        → t (get_or (key ∷ keys) place d) ≡ false
    by true is none place lt rest = absurd (cc (none))
    by false is none zero lt rest = is
    by false is none (suc place) lt rest = rest place d none (omega (arith, lt))

of-slot : (inventory : InventoryState) (h : History) (moment object metric : ℕ) (hit : Hit) → hit.slot < length (slots inventory)
    → slot_number inventory object metric ≡ None → value_where object metric (λ tick. true) (entry_after inventory h moment hit) ≡ []
of-slot inventory h moment object metric hit lt none =
    let other = none-at (is_slot_of object metric) 0 (slots inventory) hit.slot (key_of 0 0) none lt in
    rw-pair (eqb (key_at inventory hit.slot).object object) (eqb (key_at inventory hit.slot).metric metric) _ hit.value other
  where
    rw-pair : (a b r : Bool) (value : ℕ) → (a && b) ≡ false → cond (a && b && r && true) (value ∷ []) [] ≡ []
    rw-pair true true r value is = absurd (cc (is))
    rw-pair true false r value is = refl
    rw-pair false b r value is = refl

pub only-batch : (inventory : InventoryState) (h : History) (moment : ℕ) (hits : List Hit) → AreOfSlots (length (slots inventory)) hits
    → OnlySlots inventory h → OnlySlots inventory (with_batch inventory h moment hits)
only-batch inventory h moment [] all only = only
only-batch inventory h moment (hit ∷ hits) all only =
    only-batch inventory (h ▷ entry_after inventory h moment hit) moment hits
    (All-tail (λ (x : Hit). (x.slot < length (slots inventory)) × (x.value ≤ MAX_VALUE)) hit hits all)
    (λ object metric none. adds object metric h (entry_after inventory h moment hit) refl (only object metric none)
    (of-slot inventory h moment object metric hit (All-head (λ (x : Hit). (x.slot < length (slots inventory)) × (x.value ≤ MAX_VALUE)) hit hits all).0 none))
