-- What a state stands for.
use Rattle.std.specs.Prelude.{ℕ, ◌≡◌, ◌<◌, ◌⊎◌, true, false, List, [], Option, Some, None}
use Rattle.pm_base.specs.Moment.{tick_of}
use Rattle.pm_inventory.specs.Inventory.{InventoryState, slot_number}
use Rattle.pm_history.specs.History.{History, grown, size, last_moment, IsHistory}
use Rattle.pm_items.specs.Items.{open_values, ends_tick}
use Rattle.pm_jobs.specs.Stands.{Stands}
use Rattle.pm_batch.specs.OpenEvents.{EventsStand}
use Rattle.pm_notice.specs.Planned.{subscriptions_of}
use Rattle.pm_notice.specs.StandFor.{StandFor, cursors_of}
use Rattle.pm_http.specs.declared.reply.Reply.{Reply}
use Rattle.pm_state.specs.declared.state.State.{State}
use Rattle.pm_state.specs.declared.closing.Ended.{Ended}
use Rattle.pm_state.specs.declared.opening.Prepared.{Prepared}
use Rattle.pm_state.specs.Closing.{ClosingStands, IsEnd, MayEnact}
use Rattle.pm_state.specs.Opening.{is_boot, opening_in, moment_after, AddsAt, KeepsCursors}
use Rattle.pm_state.specs.Given.{no_memory}
use Rattle.pm_state.specs.Step.{events_given}

-- Only slots have events in the open tick.
abbrev pub OnlySlots : InventoryState → History → Type 0
OnlySlots inventory h = (object metric : ℕ) → slot_number inventory object metric ≡ None → open_values object metric h ≡ []

-- A state stands for a history: it has its last moment, its jobs and monitors, its subscriptions, the events of its open tick, and what
-- ends with it. The cursors of the subscriptions are no part of a history.
pub record StateStands (h : History) (state : State) : Type 0 where
  pub history : IsHistory h
  pub begun : 0 < size h
  pub last : state.last ≡ last_moment h
  pub jobs : Stands state.inventory state.jobs h
  pub subs : StandFor (subscriptions_of state.subs) h (cursors_of (subscriptions_of state.subs))
  pub events : EventsStand state.inventory h [] state.events
  pub only : OnlySlots state.inventory h
  pub closing : ClosingStands state.inventory state.jobs h state.closing

-- A batch is given its reply, and its events are counted; or there is no memory, and none is.
abbrev pub GivesEvents : InventoryState → History → List ℕ → Reply → State → Type 0
GivesEvents inventory h body reply new =
    ((reply ≡ no_memory) × StateStands h new)
    ⊎ ((reply ≡ (events_given inventory h body).reply) × StateStands (grown h (events_given inventory h body).entries) new)

-- ---- with what a request begins

-- What comes of the ticks that an entry at a moment ends, if it ends some.
abbrev pub EndsWith : State → History → ℕ → Option Ended → Type 0
EndsWith state h moment None = ends_tick h (opening_in (last_moment h) moment) ≡ false
EndsWith state h moment (Some ended) =
    (ends_tick h (opening_in (last_moment h) moment) ≡ true)
    × IsEnd state.inventory state.jobs h (is_boot (last_moment h) moment) moment state.closing ended

-- It is what a request begins with at a moment that isn't before the last one.
pub record IsOpening (state : State) (h : History) (moment : ℕ) (prepared : Prepared) : Type 0 where
  pub at : prepared.moment ≡ moment
  pub adds : AddsAt state.inventory h moment prepared.item
  pub served : KeepsCursors (cursors_of (subscriptions_of state.subs)) prepared.item
  pub ends : EndsWith state h moment prepared.ended

-- The same at any moment.
abbrev pub IsPrepared : State → History → ℕ → Prepared → Type 0
IsPrepared state h moment prepared = IsOpening state h (moment_after (last_moment h) moment) prepared

-- What comes of the ticks that end may be enacted; where none ends, the moment lies in the open one. No history is asked for.
abbrev pub MayEnd : State → ℕ → Option Ended → Type 0
MayEnd state moment None = tick_of moment ≡ tick_of state.last
MayEnd state moment (Some ended) = MayEnact state.closing (tick_of moment) ended

abbrev pub MayEnter : State → Prepared → Type 0
MayEnter state prepared = MayEnd state prepared.moment prepared.ended
