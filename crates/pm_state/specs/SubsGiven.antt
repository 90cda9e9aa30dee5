-- What a request on a subscription is given (TS 28.532; the replies are this project's own).
use Rattle.std.specs.Prelude.{ℕ, ◌≡◌, ◌≤◌, ◌⊎◌, ◌++◌, List, [], ◌∷◌, codes, decimal, option_map, unwrap_or, Result, Ok, Err}
use Rattle.pm_inventory.specs.Inventory.{InventoryState}
use Rattle.pm_history.specs.declared.entry.Entry.{Entry}
use Rattle.pm_history.specs.declared.entry.Entry.TheVariants.{Subscribed, Unsubscribed}
use Rattle.pm_history.specs.History.{History, last_moment}
use Rattle.pm_http.specs.declared.reply.Reply.{Reply}
use Rattle.pm_notice.specs.declared.error.SubError.{SubError}
use Rattle.pm_notice.specs.declared.subscription.Subscription.{Subscription}
use Rattle.pm_notice.specs.declared.subscription.SubPlan.{SubPlan}
use Rattle.pm_notice.specs.declared.subscription.SubPlan.TheVariants.{New, Same, Deleted}
use Rattle.pm_notice.specs.declared.subscriptions.Subscriptions.{Subscriptions}
use Rattle.pm_notice.specs.Plan.{subscription_under, enacted, code_of}
use Rattle.pm_notice.specs.Planned.{IsPlanOf}
use Rattle.pm_notice.specs.StandFor.{StandFor, cursors_of, id_at}
use Rattle.pm_state.specs.declared.subscribing.SubChange.{SubChange}
use Rattle.pm_state.specs.ChangeItem.{AreItemsOf}
use Rattle.pm_state.specs.Given.{Given, ok, refused, gives_refusal, no_memory}

-- ---- what is given

-- The body that tells a cursor.
abbrev pub cursor_body : ℕ → List ℕ
cursor_body cursor = codes "{\"cursor\":" ++ decimal cursor ++ codes "}"

-- The cursor of the subscription under an id.
abbrev pub cursor_under : List Subscription → List ℕ → ℕ
cursor_under subs id = unwrap_or (option_map (λ (s : Subscription). s.cursor) (subscription_under id subs)) 0

-- The reply to what is planned.
abbrev pub sub_reply : List Subscription → List ℕ → SubPlan → Reply
sub_reply subs id (New s) = ok 201 (cursor_body s.cursor)
sub_reply subs id Same = ok 200 (cursor_body (cursor_under subs id))
sub_reply subs id (Deleted place) = ok 204 []

-- Its entries.
abbrev pub sub_entries : List Subscription → ℕ → SubPlan → List Entry
sub_entries subs moment (New s) = Subscribed moment s.id s.port s.path ∷ []
sub_entries subs moment Same = []
sub_entries subs moment (Deleted place) = Unsubscribed moment (id_at subs place) ∷ []

-- What a request on the subscription of an id is given: what is planned, or a refusal.
abbrev pub sub_given : List Subscription → ℕ → List ℕ → Result SubPlan SubError → Given
sub_given subs moment id (Ok plan) = record { reply = sub_reply subs id plan; entries = sub_entries subs moment plan }
sub_given subs moment id (Err e) = gives_refusal (code_of e)

-- The cursors then: those of the subscriptions that exist.
abbrev pub sub_cursors : List Subscription → Result SubPlan SubError → List ℕ
sub_cursors subs (Ok plan) = cursors_of (enacted plan subs)
sub_cursors subs (Err e) = cursors_of subs

-- It is given by the subscriptions that stand for a history, with these cursors; and these are the cursors then.
pub record OverSubs (g : History) (cursors id : List ℕ) (plan : List Subscription → Result SubPlan SubError) (given : Given) (next : List ℕ)
    : Type 0 where
  pub subs : List Subscription
  pub stand : StandFor subs g cursors
  pub given_is : given ≡ sub_given subs (last_moment g) id (plan subs)
  pub next_is : next ≡ sub_cursors subs (plan subs)

-- What is given leaves the cursors.
abbrev pub Leaves : List ℕ → List ℕ → Type 0 → Type 0
Leaves cursors next Is = Is × (next ≡ cursors)

-- ---- what is planned

-- A new subscription begins at a number of notices at most.
abbrev pub BeginsWithin : ℕ → SubPlan → Type 0
BeginsWithin total (New s) = s.cursor ≤ total
BeginsWithin total Same = Unit {0}
BeginsWithin total (Deleted place) = Unit {0}

-- A change is what was planned over these subscriptions, which fits them as they are now, with its reply and the bytes of its item.
pub record IsSubChange (subs : List Subscription) (now : Subscriptions) (moment : ℕ) (id : List ℕ) (plan : Result SubPlan SubError)
    (change : SubChange) : Type 0 where
  pub planned : plan ≡ Ok change.plan
  pub fits : IsPlanOf now change.plan
  pub reply : change.reply ≡ sub_reply subs id change.plan
  pub item : (inventory : InventoryState) → AreItemsOf inventory change.item (sub_entries subs moment change.plan)

-- The reply is the refusal that this is. Want of memory says nothing.
pub record IsSubRefusal (plan : Result SubPlan SubError) (reply : Reply) : Type 0 where
  pub error : SubError
  pub refused_by : plan ≡ Err error
  pub reply_is : reply ≡ refused (code_of error)

abbrev pub IsSubAnswer : List Subscription → Subscriptions → ℕ → List ℕ → Result SubPlan SubError → Result SubChange Reply → Type 0
IsSubAnswer subs now moment id plan (Ok change) = IsSubChange subs now moment id plan change
IsSubAnswer subs now moment id plan (Err reply) = (reply ≡ no_memory) ⊎ IsSubRefusal plan reply
