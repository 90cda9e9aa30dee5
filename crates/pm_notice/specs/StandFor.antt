-- Subscriptions stand for a history: who is subscribed, where notices go, and the cursors, which are no part of a history.
use Rattle.std.specs.Prelude.{ℕ, zero, suc, ◌≡◌, ◌∷◌, List, map, [], slice_get, unwrap_or}
use Rattle.std.specs.Option.{option_map}
use Rattle.pm_history.specs.declared.entry.Entry.{Entry}
use Rattle.pm_history.specs.declared.entry.Entry.TheVariants.{Subscribed, Unsubscribed}
use Rattle.pm_history.specs.History.{History, ◌▷◌}
use Rattle.pm_items.specs.Subscribed as history
use Rattle.pm_notice.specs.declared.subscription.Subscription.{Subscription}
use Rattle.pm_notice.specs.declared.subscription.SubPlan.{SubPlan}
use Rattle.pm_notice.specs.declared.subscription.SubPlan.TheVariants.{New, Same, Deleted}
use Rattle.pm_notice.specs.Plan.{subscription_under}

-- Where the notices of a subscription go.
abbrev pub destination : Subscription → history.Subscription
destination s = record { port = s.port; path = s.path }

abbrev pub ids_of : List Subscription → List (List ℕ)
ids_of subs = map (λ s. s.id) subs

abbrev pub cursors_of : List Subscription → List ℕ
cursors_of subs = map (λ s. s.cursor) subs

-- These are the subscriptions of the history, in byte order of id, with these cursors.
pub record StandFor (subs : List Subscription) (h : History) (cursors : List ℕ) : Type 0 where
  pub ids : ids_of subs ≡ history.subscribers_after h
  pub destinations : (id : List ℕ) → option_map destination (subscription_under id subs) ≡ history.subscribed_after h id
  pub served : cursors_of subs ≡ cursors

-- The subscriptions, where the cursor of the one at a place is set.
abbrev pub with_cursor : ℕ → ℕ → List Subscription → List Subscription
with_cursor place cursor [] = []
with_cursor zero cursor (s ∷ ss) = record s { cursor = cursor } ∷ ss
with_cursor (suc place) cursor (s ∷ ss) = s ∷ with_cursor place cursor ss

-- The id of the subscription at a place.
abbrev pub id_at : List Subscription → ℕ → List ℕ
id_at subs place = unwrap_or (option_map (λ s. s.id) (slice_get subs place)) []

-- The history with the entry of a plan.
abbrev pub planned : List Subscription → SubPlan → ℕ → History → History
planned subs (New s) moment h = h ▷ Subscribed moment s.id s.port s.path
planned subs Same moment h = h
planned subs (Deleted place) moment h = h ▷ Unsubscribed moment (id_at subs place)

-- An entry that says nothing of subscriptions.
abbrev pub IsOfOthers : Entry → Type 0
IsOfOthers (Subscribed moment id port path) = ⊥
IsOfOthers (Unsubscribed moment id) = ⊥
IsOfOthers _ = Unit {0}

-- Subscriptions stand for a history with such an entry as they stood for it before.
abbrev pub OthersStay : Type 0
OthersStay =
    (subs : List Subscription) (h : History) (cursors : List ℕ) (e : Entry) → IsOfOthers e → StandFor subs h cursors → StandFor subs (h ▷ e) cursors
