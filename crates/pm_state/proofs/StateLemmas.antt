-- What a state stands for, after each entry.
use Rattle.std.proofs.Common.{◌≡◌, ℕ, ◌+◌, ◌<◌, ◌≤◌, Bool, true, false, cond, ltb, List, [], ◌∷◌, Option, Some, None, Ok, Err, length, map, lt-ltb, le-ltb, refl, sym, ap, ◌∙◌, subst, arith}
use Rattle.std.specs.Option.{is_some}
use Rattle.pm_base.specs.Moment.{IsMoment, tick_of}
use Rattle.pm_history.specs.declared.entry.Side.{Side}
use Rattle.pm_history.specs.declared.entry.Side.TheVariants.{Job, Monitor}
use Rattle.pm_history.specs.declared.entry.Entry.{Entry}
use Rattle.pm_history.specs.declared.entry.Entry.TheVariants.{Boot, Now, Event}
use Rattle.pm_history.specs.Entry.{moment_of, change_of}
use Rattle.pm_history.specs.History.{History, Start, ◌▷◌, grown, size, last_moment, IsHistory}
use Rattle.pm_history.specs.Standing.{ids_next, ids_after}
use Rattle.pm_inventory.specs.Inventory.{InventoryState, slots, slot_number, inventory_text}
use Rattle.pm_items.specs.Unstored.{AreUnstored}
use Rattle.pm_items.specs.Items.{Booked, item_of, ends_tick, is_later, open_cells}
use Rattle.pm_jobs.specs.State.{JobsState}
use Rattle.pm_jobs.specs.Stands.{Stands}
use Rattle.pm_jobs.proofs.StandsLemmas.{all_stay}
use Rattle.std.proofs.lemmas.List.{length-map}
use Rattle.pm_inventory.specs.Slot.{slot_of_key}
use Rattle.pm_events.specs.declared.hit.Hit.{Hit}
use Rattle.pm_batch.specs.declared.open_events.OpenEvents.{OpenEvents}
use Rattle.pm_batch.specs.Answer.{batch_answer, batch_entries, entries_in}
use Rattle.pm_batch.specs.Entries.{entry_after, entries_of, with_batch}
use Rattle.pm_batch.specs.Laws.{is_event, EndsAtMoment}
use Rattle.pm_batch.specs.OpenEvents.{EventsStand, ReadsBatch}
use Rattle.pm_batch.specs.Reading.{AreOfSlots, Tells}
use Rattle.pm_batch.proofs.LawLemmas.{events-stay, batch-follows, batch-unstored}
use Rattle.pm_base.specs.declared.code.Code.{Code}
use Rattle.pm_meas.specs.declared.cell.Cell.{Cell}
use Rattle.pm_ledger.specs.Stored.{HasText}
use Rattle.pm_store.specs.declared.item.Item1.TheVariants as stored
use Rattle.pm_store.specs.Stored.{cell_among}
use Rattle.pm_batch.specs.declared.batch_error.BatchError.{BatchError}
use Rattle.pm_batch.specs.declared.batch_error.BatchError.TheVariants.{Refused}
use Rattle.pm_batch.specs.OpenTick.{open_cell}
use Rattle.pm_state.specs.Given.{refused_at}
use Rattle.pm_state.specs.Filled.{filled}
use Rattle.pm_state.proofs.FilledLemmas.{filled-is}
use Rattle.pm_state.specs.Opening.{opening_in, AddsOpening, AddsAt}
use Rattle.pm_state.specs.ChangeItem.{IsChangeAt, AreChangesAt}
use Rattle.pm_state.specs.Stands.{OnlySlots}
use Rattle.pm_state.specs.Step.{events_by, events_given}
use Rattle.pm_state.proofs.OnlyLemmas.{only-stays, only-batch}

-- ---- jobs and monitors

-- An entry does nothing to them.
pub record DoesNothing (e : Entry) : Type 0 where
  pub none : (side : Side) (id : List ℕ) → change_of side id e ≡ None
  pub ids : (side : Side) (ids : List (List ℕ)) → ids_next side ids e ≡ ids

pub jobs-stay : (inventory : InventoryState) (jobs : JobsState) (h : History) (e : Entry) → DoesNothing e → Stands inventory jobs h
    → Stands inventory jobs (h ▷ e)
jobs-stay inventory jobs h e nothing is = record {
  of_jobs = record {
    listed = is.of_jobs.listed ∙ sym (nothing.ids Job (ids_after Job h));
    each = all_stay inventory Job h e jobs.jobs (nothing.none Job) is.of_jobs.each;
  };
  of_monitors = record {
    listed = is.of_monitors.listed ∙ sym (nothing.ids Monitor (ids_after Monitor h));
    each = all_stay inventory Monitor h e jobs.monitors (nothing.none Monitor) is.of_monitors.each;
  };
}

boot-nothing : (moment : ℕ) → DoesNothing (Boot moment)
boot-nothing moment = record { none = none; ids = ids }
  where
    none : (side : Side) (id : List ℕ) → change_of side id (Boot moment) ≡ None
    none Job id = refl
    none Monitor id = refl

    ids : (side : Side) (ids : List (List ℕ)) → ids_next side ids (Boot moment) ≡ ids
    ids Job is = refl
    ids Monitor is = refl

now-nothing : (moment : ℕ) → DoesNothing (Now moment)
now-nothing moment = record { none = none; ids = ids }
  where
    none : (side : Side) (id : List ℕ) → change_of side id (Now moment) ≡ None
    none Job id = refl
    none Monitor id = refl

    ids : (side : Side) (ids : List (List ℕ)) → ids_next side ids (Now moment) ≡ ids
    ids Job is = refl
    ids Monitor is = refl

pub opening-jobs : (inventory : InventoryState) (jobs : JobsState) (h : History) (last moment : ℕ) → Stands inventory jobs h
    → Stands inventory jobs (h ▷ opening_in last moment)
opening-jobs inventory jobs h last moment is = by (ltb (last + 86400) moment)
  where
    by : (b : Bool) → Stands inventory jobs (h ▷ cond b (Boot moment) (Now moment))
    by true = jobs-stay inventory jobs h (Boot moment) (boot-nothing moment) is
    by false = jobs-stay inventory jobs h (Now moment) (now-nothing moment) is

-- None, where there is nothing yet but a Boot.
pub first-jobs : (inventory : InventoryState) (moment : ℕ) → Stands inventory (record { jobs = []; monitors = [] }) (Start ▷ Boot moment)
first-jobs inventory moment = record { of_jobs = record { listed = refl; each = tt }; of_monitors = record { listed = refl; each = tt } }

-- ---- what a request begins with

pub opening-moment : (last moment : ℕ) → moment_of (opening_in last moment) ≡ moment
opening-moment last moment = by (ltb (last + 86400) moment)
  where
    by : (b : Bool) → moment_of (cond b (Boot moment) (Now moment)) ≡ moment
    by true = refl
    by false = refl

later-item : (h : History) (moment : ℕ) → is_some (item_of h (Now moment)) ≡ is_later h moment
later-item h moment = by (is_later h moment)
  where
    by : (b : Bool) → is_some (cond b (Some (Booked moment (tick_of (last_moment h)) (open_cells h))) None) ≡ b
    by true = refl
    by false = refl

ends-if : (h : History) (moment : ℕ) (b : Bool) → ends_tick h (cond b (Boot moment) (Now moment)) ≡ is_some (item_of h (cond b (Boot moment) (Now moment)))
ends-if h moment true = refl
ends-if h moment false = sym (later-item h moment)

-- It ends what was open exactly where it has an item.
pub adds-ends : (inventory : InventoryState) (h : History) (last moment : ℕ) (item : Option (List ℕ))
    → AddsOpening inventory h (opening_in last moment) item → ends_tick h (opening_in last moment) ≡ is_some item
adds-ends inventory h last moment None adds = ends-if h moment (ltb (last + 86400) moment) ∙ ap is_some adds.1
adds-ends inventory h last moment (Some bytes) adds = ends-if h moment (ltb (last + 86400) moment) ∙ ap is_some adds.is

pub adds-history : (inventory : InventoryState) (h : History) (e : Entry) (item : Option (List ℕ)) → AddsOpening inventory h e item
    → IsHistory (h ▷ e)
adds-history inventory h e None adds = adds.0
adds-history inventory h e (Some bytes) adds = adds.history

-- ---- all but what jobs and monitors are

-- The history goes on to this moment, and the events are those of its open tick.
pub record GoesOn (inventory : InventoryState) (h : History) (moment : ℕ) (events : OpenEvents) : Type 0 where
  pub history : IsHistory h
  pub begun : 0 < size h
  pub last : moment ≡ last_moment h
  pub events_stand : EventsStand inventory h [] events
  pub only : OnlySlots inventory h

change-goes-on : (inventory : InventoryState) (h : History) (moment : ℕ) (events : OpenEvents) (e : Entry) → IsMoment moment
    → IsChangeAt moment e → GoesOn inventory h moment events → GoesOn inventory (h ▷ e) moment events
change-goes-on inventory h moment events e is at on = record {
  history = (
    on.history,
    record {
      moment = subst IsMoment (sym at.moment_is) is;
      value = omega (arith, at.value);
      later = omega (arith, at.moment_is, on.last);
      beside = λ no_opening. (on.begun, at.moment_is ∙ on.last);
    },
  );
  begun = omega arith;
  last = sym at.moment_is;
  events_stand = events-stay inventory h e [] events (at.goes_on h) at.no_event on.events_stand;
  only = only-stays inventory h e (at.goes_on h) at.no_event on.only;
}

pub changes-go-on : (inventory : InventoryState) (h : History) (moment : ℕ) (events : OpenEvents) (es : List Entry) → IsMoment moment
    → AreChangesAt moment es → GoesOn inventory h moment events → GoesOn inventory (grown h es) moment events
changes-go-on inventory h moment events [] is all on = on
changes-go-on inventory h moment events (e ∷ es) is all on =
    changes-go-on inventory (h ▷ e) moment events es is all.1 (change-goes-on inventory h moment events e is all.0 on)

-- ---- events

event-nothing : (moment object metric value : ℕ) (registered : Bool) → DoesNothing (Event moment object metric value registered)
event-nothing moment object metric value registered = record { none = none; ids = ids }
  where
    none : (side : Side) (id : List ℕ) → change_of side id (Event moment object metric value registered) ≡ None
    none Job id = refl
    none Monitor id = refl

    ids : (side : Side) (ids : List (List ℕ)) → ids_next side ids (Event moment object metric value registered) ≡ ids
    ids Job is = refl
    ids Monitor is = refl

batch-jobs : (inventory : InventoryState) (jobs : JobsState) (h : History) (moment : ℕ) (hits : List Hit) → Stands inventory jobs h
    → Stands inventory jobs (with_batch inventory h moment hits)
batch-jobs inventory jobs h moment [] is = is
batch-jobs inventory jobs h moment (hit ∷ hits) is =
    batch-jobs inventory jobs (h ▷ entry_after inventory h moment hit) moment hits
    (jobs-stay inventory jobs h (entry_after inventory h moment hit) (event-nothing moment _ _ _ _) is)

-- What a batch that is taken leaves.
pub record Takes (inventory : InventoryState) (h : History) (body : List ℕ) (jobs : JobsState) (moment : ℕ) (events : OpenEvents) : Type 0 where
  pub on : GoesOn inventory (grown h (events_given inventory h body).entries) moment events
  pub stands : Stands inventory jobs (grown h (events_given inventory h body).entries)
  pub unstored : AreUnstored h (events_given inventory h body).entries

pub taken : (inventory : InventoryState) (h : History) (body : List ℕ) (jobs : JobsState) (hits : List Hit) (events events' : OpenEvents)
    (moment : ℕ) → GoesOn inventory h moment events → Stands inventory jobs h
    → batch_answer inventory h (last_moment h) body ≡ Ok hits → AreOfSlots (length (slots inventory)) hits
    → EventsStand inventory (with_batch inventory h (last_moment h) hits) [] events' → Takes inventory h body jobs moment events'
taken inventory h body jobs hits events events' moment on stands answer sound after =
    let m = last_moment h in
    let ends = batch-follows inventory h m body (record { history = on.history; some = on.begun; moment_is = refl }) in
    let entries : batch_entries inventory h m body ≡ entries_of inventory h m hits = ap (entries_in inventory h m) answer in
    let given : (events_given inventory h body).entries ≡ entries_of inventory h m hits = ap (λ a. (events_by inventory h body a).entries) answer in
    let there = subst (λ es. EndsAtMoment m (grown h es)) entries ends in
    record {
      on = subst (λ es. GoesOn inventory (grown h es) moment events') (sym given) (record {
        history = there.history;
        begun = there.some;
        last = on.last ∙ sym there.moment_is;
        events_stand = after;
        only = only-batch inventory h m hits sound on.only;
      });
      stands = subst (λ es. Stands inventory jobs (grown h es)) (sym given) (batch-jobs inventory jobs h m hits stands);
      unstored =
          subst (AreUnstored h) (entries ∙ sym given)
          (batch-unstored inventory h m body (record { history = on.history; some = on.begun; moment_is = refl }));
    }

-- The hits that are read are of the slots of the inventory.
pub read-sound : (inventory : InventoryState) (h : History) (events : OpenEvents) (hits : List Hit) → EventsStand inventory h hits events
    → AreOfSlots (length (slots inventory)) hits
read-sound inventory h events hits stand =
    let many : length events.slots ≡ length (slots inventory) = ap length stand.slots ∙ length-map (slots inventory) (slot_of_key inventory) in
    subst (λ n. AreOfSlots n hits) many (subst (AreOfSlots (length events.slots)) stand.batch events.of_slots)

-- ---- refusals of a batch

-- A refusal is that of what was read.
pub refused-is : (inventory : InventoryState) (h : History) (body : List ℕ) (e : BatchError) (line : ℕ) (code : Code) → e ≡ Refused line code
    → Tells e (batch_answer inventory h (last_moment h) body) → events_given inventory h body ≡ record { reply = refused_at code line; entries = [] }
refused-is inventory h body e line code is tells =
    let answer : batch_answer inventory h (last_moment h) body ≡ Err (record { line = line; code = code }) = subst (λ x. Tells x (batch_answer inventory h (last_moment h) body)) is tells in
    ap (events_by inventory h body) answer

pub of-refusal : (inventory : InventoryState) (h : History) (moment : ℕ) (body : List ℕ) (error : BatchError) (events : OpenEvents)
    → ReadsBatch inventory h moment body (Err error) events → Tells error (batch_answer inventory h moment body) × EventsStand inventory h [] events
of-refusal inventory h moment body error events reads = reads

-- ---- what a request begins with, and its bytes

pub boot-adds : (inventory : InventoryState) (h : History) (last moment : ℕ) (bytes : List ℕ) → IsHistory h → last ≡ last_moment h → IsMoment moment
    → last ≤ moment → last + 86400 < moment → HasText (stored.Boot moment 1 (inventory_text inventory)) bytes → AddsAt inventory h moment (Some bytes)
boot-adds inventory h last moment bytes history is range later far text =
    let test : ltb (last_moment h + 86400) moment ≡ true = lt-ltb _ _ (omega (arith, is, far)) in
    rw test (record {
      history = (history, record { moment = range; value = omega arith; later = omega (arith, is, later); beside = λ other. absurd (cc (other)) });
      item = stored.Boot moment 1 (inventory_text inventory);
      text = text;
      over = refl;
      is = refl;
    })

pub later-is : (h : History) (moment : ℕ) → 0 < size h → tick_of (last_moment h) < tick_of moment → is_later h moment ≡ true
later-is Start moment some lt = refl
later-is (h ▷ e) moment some lt = lt-ltb _ _ lt

pub not-later-is : (h : History) (moment : ℕ) → 0 < size h → tick_of moment ≤ tick_of (last_moment h) → is_later h moment ≡ false
not-later-is Start moment some le = absurd (omega (arith, some))
not-later-is (h ▷ e) moment some le = le-ltb _ _ le

now-follows : (h : History) (last moment : ℕ) → IsHistory h → last ≡ last_moment h → IsMoment moment → last ≤ moment → IsHistory (h ▷ Now moment)
now-follows h last moment history is range later =
    (history, record { moment = range; value = omega arith; later = omega (arith, is, later); beside = λ other. absurd (cc (other)) })

pub booked-adds : (inventory : InventoryState) (h : History) (last moment : ℕ) (cells : List Cell) (cursors bytes : List ℕ) → IsHistory h → 0 < size h
    → last ≡ last_moment h → IsMoment moment → last ≤ moment → moment ≤ last + 86400 → tick_of last < tick_of moment
    → cells ≡ map (open_cell h) (slots inventory) → OnlySlots inventory h → HasText (stored.Booked moment (tick_of last) (filled cells) cursors) bytes
    → AddsAt inventory h moment (Some bytes)
booked-adds inventory h last moment cells cursors bytes history some is range later near lt are only text =
    let test : ltb (last_moment h + 86400) moment ≡ false = le-ltb _ _ (omega (arith, is, near)) in
    let passes = later-is h moment some (subst (λ m. tick_of m < tick_of moment) is lt) in
    rw test (record {
      history = now-follows h last moment history is range later;
      item = stored.Booked moment (tick_of last) (filled cells) cursors;
      text = text;
      over = tt;
      is = ap (λ b. cond b (Some (Booked moment (tick_of (last_moment h)) (open_cells h))) None) passes
          ∙ (λ i. Some (Booked moment (tick_of (sym is i)) (sym item-cells i)));
    })
  where
    item-cells : (λ object metric. cell_among (filled cells) (slot_number inventory object metric)) ≡ open_cells h
    item-cells = ap (λ cs. λ object metric. cell_among (filled cs) (slot_number inventory object metric)) are ∙ filled-is inventory h only

pub same-adds : (inventory : InventoryState) (h : History) (last moment : ℕ) → IsHistory h → 0 < size h → last ≡ last_moment h → IsMoment moment
    → last ≤ moment → moment ≤ last + 86400 → tick_of moment ≤ tick_of last → AddsAt inventory h moment None
same-adds inventory h last moment history some is range later near le =
    let test : ltb (last_moment h + 86400) moment ≡ false = le-ltb _ _ (omega (arith, is, near)) in
    let stays = not-later-is h moment some (subst (λ m. tick_of moment ≤ tick_of m) is le) in
    rw test (now-follows h last moment history is range later, ap (λ b. cond b (Some (Booked moment (tick_of (last_moment h)) (open_cells h))) None) stays)

opening-no-event : (last moment : ℕ) → is_event (opening_in last moment) ≡ false
opening-no-event last moment = by (ltb (last + 86400) moment)
  where
    by : (b : Bool) → is_event (cond b (Boot moment) (Now moment)) ≡ false
    by true = refl
    by false = refl

-- One that ends nothing leaves the events of the open tick.
pub opening-goes-on : (inventory : InventoryState) (h : History) (last moment : ℕ) (events : OpenEvents) → ends_tick h (opening_in last moment) ≡ false
    → EventsStand inventory h [] events → OnlySlots inventory h
    → EventsStand inventory (h ▷ opening_in last moment) [] events × OnlySlots inventory (h ▷ opening_in last moment)
opening-goes-on inventory h last moment events goes_on stand only = (
  events-stay inventory h (opening_in last moment) [] events goes_on (opening-no-event last moment) stand,
  only-stays inventory h (opening_in last moment) goes_on (opening-no-event last moment) only,
)
