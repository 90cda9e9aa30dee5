-- What a request begins with, and what comes of the ticks that it ends.
use Rattle.std.proofs.Common.{◌≡◌, ℕ, ◌+◌, ◌<◌, ◌≤◌, Bool, true, false, List, Option, Some, None, lt-ltb, le-ltb, sym, subst, ◌∙◌, arith}
use Rattle.pm_base.specs.Moment.{tick_of}
use Rattle.pm_history.specs.History.{History, ◌▷◌, last_moment, IsHistory}
use Rattle.pm_inventory.specs.Inventory.{InventoryState}
use Rattle.pm_items.specs.Items.{ends_tick}
use Rattle.pm_items.specs.Unstored.{IsUnstored}
use Rattle.pm_jobs.specs.State.{JobsState}
use Rattle.pm_close.specs.DueReports.{ended_by}
use Rattle.pm_state.specs.declared.closing.Closing.{Closing}
use Rattle.pm_state.specs.declared.closing.Ended.{Ended}
use Rattle.pm_state.specs.declared.opening.Prepared.{Prepared}
use Rattle.pm_state.specs.declared.state.State.{State}
use Rattle.pm_state.specs.Closing.{ClosingStands, IsEnd}
use Rattle.pm_notice.specs.Planned.{subscriptions_of}
use Rattle.pm_notice.specs.StandFor.{cursors_of}
use Rattle.pm_state.specs.Opening.{is_boot, opening_in, moment_after, AddsAt, KeepsCursors}
use Rattle.pm_state.specs.Stands.{EndsWith, IsOpening, IsPrepared}
use Rattle.pm_state.proofs.ClosingLemmas.{ended-is}
use Rattle.pm_state.proofs.StateLemmas.{adds-ends, adds-history}

pub far-is : (last last' moment : ℕ) → last ≡ last' → last + 86400 < moment → is_boot last' moment ≡ true
far-is last last' moment is far = lt-ltb _ _ (omega (arith, is, far))

pub near-is : (last last' moment : ℕ) → last ≡ last' → moment ≤ last + 86400 → is_boot last' moment ≡ false
near-is last last' moment is near = le-ltb _ _ (omega (arith, is, near))

-- The entry may come next.
pub ended-history : (state : State) (h : History) (moment : ℕ) (boot : Bool) (bytes : List ℕ) → is_boot (last_moment h) moment ≡ boot
    → AddsAt state.inventory h moment (Some bytes) → IsHistory (h ▷ ended_by boot moment)
ended-history state h moment boot bytes is adds =
    subst (λ (b : Bool). IsHistory (h ▷ ended_by b moment)) is
    (subst (λ e. IsHistory (h ▷ e)) (sym (ended-is (last_moment h) moment)) (adds-history state.inventory h (opening_in (last_moment h) moment) (Some bytes) adds))

-- A Boot, or a Now in a later tick.
pub opening-ends : (state : State) (h : History) (moment : ℕ) (boot : Bool) (bytes : List ℕ) (ended : Ended) (prepared : Prepared)
    → is_boot (last_moment h) moment ≡ boot → AddsAt state.inventory h moment (Some bytes)
    → KeepsCursors (cursors_of (subscriptions_of state.subs)) (Some bytes)
    → IsEnd state.inventory state.jobs h boot moment state.closing ended
    → prepared.moment ≡ moment → prepared.item ≡ Some bytes → prepared.ended ≡ Some ended → IsOpening state h moment prepared
opening-ends state h moment boot bytes ended prepared is adds served end at item ends = record {
  at = at;
  adds = subst (AddsAt state.inventory h moment) (sym item) adds;
  served = subst (KeepsCursors (cursors_of (subscriptions_of state.subs))) (sym item) served;
  ends = rw ends (
    adds-ends state.inventory h (last_moment h) moment (Some bytes) adds,
    subst (λ (b : Bool). IsEnd state.inventory state.jobs h b moment state.closing ended) (sym is) end,
  );
}

-- A request that ends nothing.
pub opening-stays : (state : State) (h : History) (moment : ℕ) (prepared : Prepared) → AddsAt state.inventory h moment None
    → prepared.moment ≡ moment → prepared.item ≡ None → prepared.ended ≡ None → IsOpening state h moment prepared
opening-stays state h moment prepared adds at item ends = record {
  at = at;
  adds = subst (AddsAt state.inventory h moment) (sym item) adds;
  served = subst (KeepsCursors (cursors_of (subscriptions_of state.subs))) (sym item) tt;
  ends = rw ends (adds-ends state.inventory h (last_moment h) moment None adds);
}

-- The moment is that after the last one.
pub prepared-at : (state : State) (h : History) (moment at last : ℕ) (prepared : Prepared) → last ≡ last_moment h → at ≡ moment_after last moment
    → IsOpening state h at prepared → IsPrepared state h moment prepared
prepared-at state h moment at last prepared is at-is opening =
    let same : at ≡ moment_after (last_moment h) moment = subst (λ l. at ≡ moment_after l moment) is at-is in
    subst (λ m. IsOpening state h m prepared) same opening

pub ticks-rise : (a b : ℕ) → a ≤ b → tick_of a ≤ tick_of b
ticks-rise a b le = omega (arith, le)

-- ---- what is entered

pub ends-none : (state : State) (h : History) (moment : ℕ) (o : Option Ended) → o ≡ None → EndsWith state h moment o
    → ends_tick h (opening_in (last_moment h) moment) ≡ false
ends-none state h moment None is ends = ends
ends-none state h moment (Some ended) is ends = absurd (cc (is))

pub ends-some : (state : State) (h : History) (moment : ℕ) (o : Option Ended) (ended : Ended) → o ≡ Some ended → EndsWith state h moment o
    → (ends_tick h (opening_in (last_moment h) moment) ≡ true)
    × IsEnd state.inventory state.jobs h (is_boot (last_moment h) moment) moment state.closing ended
ends-some state h moment o ended is ends = subst (EndsWith state h moment) is ends

-- It ends nothing, and so has no item.
pub none-unstored : (inventory : InventoryState) (h : History) (moment : ℕ) (item : Option (List ℕ))
    → AddsAt inventory h moment item → ends_tick h (opening_in (last_moment h) moment) ≡ false → IsUnstored h (opening_in (last_moment h) moment)
none-unstored inventory h moment None adds goes_on = record { follows = adds.0.1; without = adds.1 }
none-unstored inventory h moment (Some bytes) adds goes_on =
    absurd (apart (sym (adds-ends inventory h (last_moment h) moment (Some bytes) adds) ∙ goes_on))
  where
    apart : true ≡ false → ⊥
    apart same = cc

-- What ends is enacted.
pub closing-entered : (inventory : InventoryState) (jobs : JobsState) (h : History) (moment : ℕ) (new : Closing)
    → ClosingStands inventory jobs (h ▷ ended_by (is_boot (last_moment h) moment) moment) new
    → ClosingStands inventory jobs (h ▷ opening_in (last_moment h) moment) new
closing-entered inventory jobs h moment new stand = subst (λ e. ClosingStands inventory jobs (h ▷ e) new) (ended-is (last_moment h) moment) stand
