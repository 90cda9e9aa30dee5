-- The entries of a batch in a history.
use Rattle.std.proofs.Common.{◌≡◌, ◌+◌, ◌%◌, ◌<◌, ◌≤◌, ℕ, Bool, true, false, cond, List, [], ◌∷◌, ◌++◌, Option, Some, None, Result, Ok, Err, map, refl, sym, ◌∙◌, ap, subst, arith, nat_le}
use Rattle.std.specs.List.{AllByRecursion}
use Rattle.std.proofs.lemmas.Bool.{leb-true}
use Rattle.std.proofs.lemmas.List.{append-nil}
use Rattle.pm_base.specs.Lines.{lines_of}
use Rattle.std.proofs.Math.Dec.{eqb}
use Rattle.pm_items.proofs.OpenLemmas.{open-is}
use Rattle.pm_base.specs.Moment.{IsMoment, tick_of}
use Rattle.pm_base.specs.declared.code.Code.{Code}
use Rattle.pm_base.specs.declared.code.Code.TheVariants.{E3, E4}
use Rattle.pm_meas.specs.Cell.{cell_of}
use Rattle.pm_inventory.specs.Inventory.{InventoryState, SlotKey, slots}
use Rattle.pm_inventory.specs.Slot.{Slot, slot_place, event_slots}
use Rattle.pm_events.specs.BatchLine.{LineValue, hit_in_slot, hit_of, read_hit, batch_line}
use Rattle.pm_events.specs.declared.hit.Hit.{Hit}
use Rattle.pm_history.specs.declared.entry.Entry.{Entry}
use Rattle.pm_history.specs.declared.entry.Entry.TheVariants.{Event}
use Rattle.pm_history.specs.History.{History, Start, ◌▷◌, grown, size, last_moment, IsHistory, is_cut}
use Rattle.pm_history.specs.Value.{value_where, values_where}
use Rattle.pm_items.specs.Items.{ends_tick, open_values}
use Rattle.pm_items.specs.Unstored.{AreUnstored}
use Rattle.pm_batch.specs.declared.open_tick.OpenTick.{OpenTick}
use Rattle.pm_batch.specs.Reading.{Refusal, with_line, read_lines, read_batch}
use Rattle.pm_batch.specs.OpenCounts.{one_if, is_event_of, is_registered_event, open_events, open_registered}
use Rattle.pm_batch.specs.Entries.{entry_after, entries_of, registers_each}
use Rattle.pm_batch.specs.OpenTick.{open_cell, open_phase, TickStands}
use Rattle.pm_batch.specs.OpenEvents.{EventsStand}
use Rattle.pm_batch.specs.declared.open_events.OpenEvents.{OpenEvents}
use Rattle.pm_batch.specs.Answer.{is_over_full, within_tick, batch_answer, entries_in, batch_entries}
use Rattle.pm_batch.specs.Laws.{is_event, EndsAtMoment}

-- The value of a hit that a line gives is in range.
in-slot : (v : LineValue) (place : Option ℕ) (hit : Hit) → hit_in_slot v place ≡ Ok hit → hit.value ≤ 1048575
in-slot v None hit is = absurd (cc (is))
in-slot v (Some slot) hit is = by (nat_le v.value 1048575) refl is where
  by : (b : Bool) → nat_le v.value 1048575 ≡ b → cond b (Ok (record { slot = slot; value = v.value })) (Err E3) ≡ Ok hit → hit.value ≤ 1048575
  by true small same =
      let own : record { slot = slot; value = v.value } ≡ hit = cc in
      subst (λ (h : Hit). h.value ≤ 1048575) own (leb-true v.value 1048575 small)
  by false small same = absurd (cc (same))

of-line : (slots : List Slot) (v : Option LineValue) (hit : Hit) → hit_of slots v ≡ Ok hit → hit.value ≤ 1048575
of-line slots None hit is = absurd (cc (is))
of-line slots (Some v) hit is = in-slot v (slot_place slots v.object v.metric) hit is

abbrev AreInRange : List Hit → Type 0
AreInRange hits = AllByRecursion (λ (hit : Hit). hit.value ≤ 1048575) hits

lines-sound : (table : List Slot) (before : ℕ) (lines : List (List ℕ)) (hits : List Hit) → read_lines table before lines ≡ Ok hits → AreInRange hits
lines-sound table before [] hits is = let none : [] ≡ hits = cc in subst AreInRange none tt
lines-sound table before (line ∷ lines) hits is =
    by (read_hit table line) (read_lines table (before + 1) lines) refl (lines-sound table (before + 1) lines) is where
      by : (r : Result Hit Code) (others : Result (List Hit) Refusal) → read_hit table line ≡ r → ((more : List Hit) → others ≡ Ok more → AreInRange more) → with_line (before + 1) r others ≡ Ok hits → AreInRange hits
      by (Ok hit) (Ok more) own rest whole =
          let all : hit ∷ more ≡ hits = cc in
          subst AreInRange all (of-line table (batch_line line) hit own, rest more refl)
      by (Ok hit) (Err refusal) own rest whole = absurd (cc (whole))
      by (Err code) others own rest whole = absurd (cc (whole))

-- The hits of an answer.
answer-sound : (inventory : InventoryState) (h : History) (moment : ℕ) (body : List ℕ) (hits : List Hit) → batch_answer inventory h moment body ≡ Ok hits → AreInRange hits
answer-sound inventory h moment body hits is = by (read_batch (event_slots inventory) body) refl is where
  full : (more : List Hit) (b : Bool) → cond {A = Result (List Hit) Refusal} b (Err (record { line = 0; code = E4 })) (Ok more) ≡ Ok hits → more ≡ hits
  full more true same = absurd (cc (same))
  full more false same = cc

  by : (r : Result (List Hit) Refusal) → read_batch (event_slots inventory) body ≡ r → within_tick inventory h moment r ≡ Ok hits → AreInRange hits
  by (Ok more) read whole = lines-sound (event_slots inventory) 0 (lines_of body) hits (read ∙ ap (λ (l : List Hit). Ok l) (full more (is_over_full inventory h moment more) whole))
  by (Err refusal) read whole = absurd (cc (whole))

entries-unstored : (inventory : InventoryState) (h : History) (moment : ℕ) (hits : List Hit) → IsMoment moment → 0 < size h → last_moment h ≡ moment → AreInRange hits → AreUnstored h (entries_of inventory h moment hits)
entries-unstored inventory h moment [] is some last small = tt
entries-unstored inventory h moment (hit ∷ hits) is some last small = (
  record { follows = record { moment = is; value = small.0; later = omega (arith, last); beside = λ opens. (some, sym last) }; without = refl },
  entries-unstored inventory (h ▷ entry_after inventory h moment hit) moment hits is (omega (arith, some)) refl small.1,
)

last-in_range : (h : History) → IsHistory h → 0 < size h → IsMoment (last_moment h)
last-in_range Start is some = absurd (omega (arith, some))
last-in_range (h ▷ e) is some = is.1.moment

pub batch-unstored : (inventory : InventoryState) (h : History) (moment : ℕ) (body : List ℕ) → EndsAtMoment moment h → AreUnstored h (batch_entries inventory h moment body)
batch-unstored inventory h moment body ends = by (batch_answer inventory h moment body) refl where
  by : (r : Result (List Hit) Refusal) → batch_answer inventory h moment body ≡ r → AreUnstored h (entries_in inventory h moment r)
  by (Ok hits) is = entries-unstored inventory h moment hits (subst IsMoment ends.moment_is (last-in_range h ends.history ends.some)) ends.some ends.moment_is (answer-sound inventory h moment body hits is)
  by (Err refusal) is = tt

-- A history with entries that may come next.
grown-history : (h : History) (es : List Entry) → IsHistory h → AreUnstored h es → IsHistory (grown h es)
grown-history h [] is unstored = is
grown-history h (e ∷ es) is unstored = grown-history (h ▷ e) es (is, unstored.0.follows) unstored.1

entries-last : (inventory : InventoryState) (h : History) (moment : ℕ) (hits : List Hit) → last_moment h ≡ moment → 0 < size h → (last_moment (grown h (entries_of inventory h moment hits)) ≡ moment) × (0 < size (grown h (entries_of inventory h moment hits)))
entries-last inventory h moment [] last some = (last, some)
entries-last inventory h moment (hit ∷ hits) last some = entries-last inventory (h ▷ entry_after inventory h moment hit) moment hits refl (omega (arith, some))

pub batch-follows : (inventory : InventoryState) (h : History) (moment : ℕ) (body : List ℕ) → EndsAtMoment moment h → EndsAtMoment moment (grown h (batch_entries inventory h moment body))
batch-follows inventory h moment body ends =
    let after = by (batch_answer inventory h moment body) in
    record {
      history = grown-history h (batch_entries inventory h moment body) ends.history (batch-unstored inventory h moment body ends);
      some = after.1;
      moment_is = after.0;
    } where
      by : (r : Result (List Hit) Refusal) → (last_moment (grown h (entries_in inventory h moment r)) ≡ moment) × (0 < size (grown h (entries_in inventory h moment r)))
      by (Ok hits) = entries-last inventory h moment hits ends.moment_is ends.some
      by (Err refusal) = (ends.moment_is, ends.some)

-- An entry that leaves what is open.
value-none : (object metric : ℕ) (e : Entry) → is_event e ≡ false → value_where object metric (λ tick. true) e ≡ []
value-none object metric (Event moment o m value registered) is = absurd (cc (is))
value-none object metric e is = refl

event-none : (object metric : ℕ) (e : Entry) → is_event e ≡ false → is_event_of object metric e ≡ false
event-none object metric (Event moment o m value registered) is = absurd (cc (is))
event-none object metric e is = refl

registered-none : (e : Entry) → is_event e ≡ false → is_registered_event e ≡ false
registered-none (Event moment o m value registered) is = absurd (cc (is))
registered-none e is = refl

same-map : {K A : Type 0} (f g : K → A) (keys : List K) → ((k : K) → f k ≡ g k) → map f keys ≡ map g keys
same-map f g [] each = refl
same-map f g (k ∷ keys) each = ap (λ y. y ∷ map f keys) (each k) ∙ ap (λ ys. g k ∷ ys) (same-map f g keys each)

pub stands-stay : (inventory : InventoryState) (h : History) (e : Entry) (tick : OpenTick) → ends_tick h e ≡ false → is_event e ≡ false → TickStands inventory h tick → TickStands inventory (h ▷ e) tick
stands-stay inventory h e tick goes_on other stands =
    let values = λ (object : ℕ) (metric : ℕ).
    sym (ap (λ (b : Bool). cond b [] (open_values object metric h ++ value_where object metric (λ t. true) e)) goes_on
    ∙ ap (λ (vs : List ℕ). open_values object metric h ++ vs) (value-none object metric e other)
    ∙ append-nil (open_values object metric h)) in
    let events = λ (object : ℕ) (metric : ℕ).
    sym (ap (λ (b : Bool). cond b 0 (open_events object metric h + one_if (is_event_of object metric e))) goes_on
    ∙ ap (λ (b : Bool). open_events object metric h + one_if b) (event-none object metric e other)
    ∙ plus-none (open_events object metric h)) in
    record {
      made = stands.made;
      cells = stands.cells ∙ same-map (open_cell h) (open_cell (h ▷ e)) (slots inventory) (λ key. ap cell_of (values key.object key.metric));
      phases = stands.phases ∙ same-map (open_phase inventory h) (open_phase inventory (h ▷ e)) (slots inventory) (λ key. ap (λ (n : ℕ). record { seen = n % registers_each inventory key; each = registers_each inventory key }) (events key.object key.metric));
      registered =
          stands.registered
          ∙ sym (ap (λ (b : Bool). cond b 0 (open_registered h + one_if (is_registered_event e))) goes_on
          ∙ ap (λ (b : Bool). open_registered h + one_if b) (registered-none e other)
          ∙ plus-none (open_registered h));
    } where
      plus-none : (n : ℕ) → n + 0 ≡ n
      plus-none n = omega arith

pub events-stay : (inventory : InventoryState) (h : History) (e : Entry) (hits : List Hit) (events : OpenEvents) → ends_tick h e ≡ false → is_event e ≡ false → EventsStand inventory h hits events → EventsStand inventory (h ▷ e) hits events
events-stay inventory h e hits events goes_on other stands = record {
  slots = stands.slots;
  tick = stands-stay inventory h e events.tick goes_on other stands.tick;
  batch = stands.batch;
}

-- The cells of the tick of the last moment.
pub tick-cells : (inventory : InventoryState) (h : History) (tick : OpenTick) → IsHistory h → is_cut h (tick_of (last_moment h)) ≡ false → TickStands inventory h tick → tick.cells.items ≡ map (λ (key : SlotKey). cell_of (values_where key.object key.metric (λ t. eqb t (tick_of (last_moment h))) h)) (slots inventory)
tick-cells inventory h tick is whole stands =
    stands.cells
    ∙ same-map (open_cell h) (λ (key : SlotKey). cell_of (values_where key.object key.metric (λ t. eqb t (tick_of (last_moment h))) h)) (slots inventory)
    (λ key. ap cell_of (sym (open-is key.object key.metric h is whole)))
