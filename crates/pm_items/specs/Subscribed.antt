-- Who is subscribed after a history.
use Rattle.std.specs.Prelude.{ℕ, ◌≡◌, List, [], if◌then◌else◌, Option, Some, None}
use Rattle.std.specs.Str.{bytes_eq}
use Rattle.pm_history.specs.declared.entry.Entry.{Entry}
use Rattle.pm_history.specs.declared.entry.Entry.TheVariants.{Subscribed, Unsubscribed}
use Rattle.pm_history.specs.History.{History, Start, ◌▷◌, IsHistory}
use Rattle.pm_history.specs.Standing.{with_id, without_id}
use Rattle.pm_items.specs.Items.{items_of}

-- Where the notices of a subscription go.
pub record Subscription : Type 0 where
  pub port : ℕ
  pub path : List ℕ

-- The subscription under an id after an entry, where this one was there before it.
abbrev pub subscribed_next : List ℕ → Option Subscription → Entry → Option Subscription
subscribed_next id old (Subscribed moment name port path) =
    if bytes_eq name id then Some (record { port = port; path = path }) else old
subscribed_next id old (Unsubscribed moment name) = if bytes_eq name id then None else old
subscribed_next id old _ = old

-- The subscription under an id: the last one that was made there, until it is removed.
abbrev pub subscribed_after : History → List ℕ → Option Subscription
subscribed_after Start id = None
subscribed_after (h ▷ e) id = subscribed_next id (subscribed_after h id) e

-- The ids of subscriptions, after an entry.
abbrev pub subscribers_next : List (List ℕ) → Entry → List (List ℕ)
subscribers_next ids (Subscribed moment id port path) = with_id id ids
subscribers_next ids (Unsubscribed moment id) = without_id id ids
subscribers_next ids _ = ids

-- The ids of the subscriptions, in byte order.
abbrev pub subscribers_after : History → List (List ℕ)
subscribers_after Start = []
subscribers_after (h ▷ e) = subscribers_next (subscribers_after h) e

-- Histories with the same items have the same subscriptions.
abbrev pub SameSubscriptions : Type 0
SameSubscriptions =
    (g h : History) → IsHistory g → IsHistory h → items_of g ≡ items_of h
    → ((id : List ℕ) → subscribed_after g id ≡ subscribed_after h id) × (subscribers_after g ≡ subscribers_after h)
