-- A batch that is read where a tick stands for a history.
use Rattle.std.proofs.Common.{◌≡◌, ◌+◌, ℕ, Bool, true, false, cond, List, Result, Ok, Err, map, sym, ◌∙◌, ap, arith, inl, inr}
use Rattle.std.proofs.lemmas.Bool.{cases_lt, lt-ltb, le-ltb}
use Rattle.pm_base.specs.declared.code.Code.TheVariants.{E4}
use Rattle.pm_inventory.specs.Inventory.{InventoryState}
use Rattle.pm_inventory.specs.Slot.{Slot, event_slots}
use Rattle.pm_events.specs.declared.hit.Hit.{Hit}
use Rattle.pm_history.specs.History.{History}
use Rattle.pm_batch.specs.declared.phase.Phase.{Phase}
use Rattle.pm_batch.specs.declared.open_tick.OpenTick.{OpenTick}
use Rattle.pm_batch.specs.Reading.{Refusal, read_batch, AreOfSlots}
use Rattle.pm_batch.specs.OpenCounts.{open_registered}
use Rattle.pm_batch.specs.Entries.{with_batch}
use Rattle.pm_batch.specs.Phases.{registered_by}
use Rattle.pm_batch.specs.OpenTick.{TickStands, SameTick, HasRoom, width}
use Rattle.pm_batch.specs.Answer.{is_over_full, within_tick, batch_answer}
use Rattle.pm_batch.proofs.TickLemmas.{registered-with}

-- The same tick, whatever was tried out, stands for the same.
pub same-stands : (inventory : InventoryState) (h : History) (old new : OpenTick) → SameTick old new → TickStands inventory h old → TickStands inventory h new
same-stands inventory h old new same stands = record {
  made = record { each = ap (map (λ (p : Phase). p.each)) same.phases ∙ stands.made.each; distinct = stands.made.distinct };
  cells = same.cells ∙ stands.cells;
  phases = same.phases ∙ stands.phases;
  registered = same.registered ∙ stands.registered;
}

-- how many events are registered then
many : (inventory : InventoryState) (h : History) (moment : ℕ) (hits : List Hit) (tick : OpenTick) → TickStands inventory h tick → AreOfSlots (width tick) hits → open_registered (with_batch inventory h moment hits) ≡ tick.registered + registered_by tick.phases.items hits
many inventory h moment hits tick stands sound =
    registered-with inventory h moment hits tick.phases.items stands.made.distinct stands.phases sound
    ∙ ap (λ (n : ℕ). n + registered_by tick.phases.items hits) (sym stands.registered)

answered : (inventory : InventoryState) (h : History) (moment : ℕ) (table : List Slot) (body : List ℕ) (hits : List Hit) → table ≡ event_slots inventory → read_batch table body ≡ Ok hits → batch_answer inventory h moment body ≡ within_tick inventory h moment (Ok hits)
answered inventory h moment table body hits is read = ap (within_tick inventory h moment) (ap (λ (t : List Slot). read_batch t body) (sym is) ∙ read)

-- There is room.
pub answer-room : (inventory : InventoryState) (h : History) (moment : ℕ) (table : List Slot) (body : List ℕ) (hits : List Hit) (tick : OpenTick) → table ≡ event_slots inventory → read_batch table body ≡ Ok hits → TickStands inventory h tick → AreOfSlots (width tick) hits → HasRoom tick hits → batch_answer inventory h moment body ≡ Ok hits
answer-room inventory h moment table body hits tick is read stands sound room =
    let fits : is_over_full inventory h moment hits ≡ false = le-ltb 1073741824 (open_registered (with_batch inventory h moment hits)) (omega (arith, room, many inventory h moment hits tick stands sound)) in
    let over : Result (List Hit) Refusal = Err (record { line = 0; code = E4 }) in
    answered inventory h moment table body hits is read ∙ ap (λ (b : Bool). cond b over (Ok hits)) fits

-- There is none.
pub answer-full : (inventory : InventoryState) (h : History) (moment : ℕ) (table : List Slot) (body : List ℕ) (hits : List Hit) (tick : OpenTick) → table ≡ event_slots inventory → read_batch table body ≡ Ok hits → TickStands inventory h tick → AreOfSlots (width tick) hits → (HasRoom tick hits → ⊥) → batch_answer inventory h moment body ≡ Err (record { line = 0; code = E4 })
answer-full inventory h moment table body hits tick is read stands sound none =
    let total = open_registered (with_batch inventory h moment hits) in
    let full : is_over_full inventory h moment hits ≡ true =
    elim (cases_lt 1073741824 total) [
      | inl more ↦ lt-ltb 1073741824 total more
      | inr fits ↦ absurd (none (omega (arith, fits, many inventory h moment hits tick stands sound)))
    ] in
    let over : Result (List Hit) Refusal = Err (record { line = 0; code = E4 }) in
    answered inventory h moment table body hits is read ∙ ap (λ (b : Bool). cond b over (Ok hits)) full
