-- What a route asks of the state.
use Rattle.std.specs.Prelude.{ℕ, ◌≡◌, ◌≤◌, List, length, Result}
use Rattle.pm_inventory.specs.Inventory.{InventoryState}
use Rattle.pm_batch.specs.declared.batch.TheConstants.{MOST_BODY}
use Rattle.pm_history.specs.History.{History, last_moment}
use Rattle.pm_state.specs.Given.{Given}
use Rattle.pm_state.specs.Changes.{change_given, look_given}
use Rattle.pm_state.specs.FilesGiven.{IsListGiven, IsFileGiven}
use Rattle.pm_state.specs.Step.{OverJobs, events_given}
use Rattle.pm_state.specs.SubsGiven.{OverSubs, Leaves, sub_given, sub_cursors}
use Rattle.pm_notice.specs.declared.error.SubError.{SubError}
use Rattle.pm_notice.specs.declared.subscription.Subscription.{Subscription}
use Rattle.pm_notice.specs.declared.subscription.SubPlan.{SubPlan}
use Rattle.pm_notice.specs.Plan.{plan_to_make, plan_to_remove}
use Rattle.pm_notify.specs.Kept.{notices_of}
use Rattle.pm_engine.specs.declared.wish.Wish.{Wish}
use Rattle.pm_engine.specs.declared.wish.Wish.TheVariants.{Change, Look, Subscribe, Unsubscribe, Events, Files, File}

-- What is planned for a request on the subscription of an id is given, over these subscriptions.
abbrev pub IsSubGiven : List Subscription → ℕ → List ℕ → Result SubPlan SubError → Given → List ℕ → Type 0
IsSubGiven subs moment id plan given next = (given ≡ sub_given subs moment id plan) × (next ≡ sub_cursors subs plan)

-- A subscription, which begins at the number of notices; and its end.
abbrev pub SubscribesBy : InventoryState → History → List ℕ → List ℕ → List ℕ → Given → List ℕ → Type 0
SubscribesBy inventory g cursors id body given next =
    OverSubs g cursors id (λ subs. plan_to_make subs id body (length (notices_of inventory g))) given next

abbrev pub UnsubscribesBy : History → List ℕ → List ℕ → Given → List ℕ → Type 0
UnsubscribesBy g cursors id given next = OverSubs g cursors id (λ subs. plan_to_remove subs id) given next

-- What it is given over a history and cursors; and the cursors then.
abbrev pub IsWishGiven : InventoryState → History → List ℕ → Wish → Given → List ℕ → Type 0
IsWishGiven inventory g cursors (Change side ask) given next =
    Leaves cursors next (OverJobs inventory g (λ jobs. change_given inventory jobs (last_moment g) side ask) given)
IsWishGiven inventory g cursors (Look side id) given next = Leaves cursors next (OverJobs inventory g (λ jobs. look_given jobs side id.now) given)
IsWishGiven inventory g cursors (Subscribe id body) given next = SubscribesBy inventory g cursors id.now body.now given next
IsWishGiven inventory g cursors (Unsubscribe id) given next = UnsubscribesBy g cursors id.now given next
IsWishGiven inventory g cursors (Events body) given next = Leaves cursors next (given ≡ events_given inventory g body.now)
IsWishGiven inventory g cursors (Files query) given next = Leaves cursors next (IsListGiven inventory g query.now given)
IsWishGiven inventory g cursors (File name) given next = Leaves cursors next (IsFileGiven inventory g name.now given)

-- A batch is at most as long as a body may be.
abbrev pub IsShort : Wish → Type 0
IsShort (Events body) = length body.now ≤ MOST_BODY
IsShort _ = Unit {0}
