-- What a change of the subscriptions does, and which rule refuses it (this project's own).
use Rattle.std.specs.Prelude.{ℕ, ◌&&◌, ◌==◌, Bool, List, [], ◌∷◌, length, find, position, nat_lt, remove, if◌then◌else◌, Option, Some, None, Result, Ok, Err}
use Rattle.std.specs.Str.{bytes_eq}
use Rattle.std.specs.Ordering.{nat_cmp, match_ordering}
use Rattle.std.specs.Cmp.Lexicographic.{slice_cmp}
use Rattle.pm_base.specs.declared.code.Code.{Code}
use Rattle.pm_base.specs.declared.code.Code.TheVariants as code
use Rattle.pm_form.specs.Form.{Read, text_says}
use Rattle.pm_form.specs.Names.{job_id}
use Rattle.pm_notice.specs.Consumer.{Consumer, consumer_form, is_consumer}
use Rattle.pm_notice.specs.declared.subscription.Subscription.{Subscription}
use Rattle.pm_notice.specs.declared.subscription.SubPlan.{SubPlan}
use Rattle.pm_notice.specs.declared.subscription.SubPlan.TheVariants.{New, Same, Deleted}
use Rattle.pm_notice.specs.declared.subscription.Outcome.{Outcome}
use Rattle.pm_notice.specs.declared.subscription.Outcome.TheVariants as done
use Rattle.pm_notice.specs.declared.error.SubError.{SubError}
use Rattle.pm_notice.specs.declared.error.SubError.TheVariants.{P1, P2, P3, P4, Memory}

abbrev pub code_of : SubError → Code
code_of P1 = code.P1
code_of P2 = code.P2
code_of P3 = code.P3
code_of P4 = code.P4
code_of Memory = code.MEM

-- How many subscriptions may exist.
abbrev pub MOST_SUBSCRIPTIONS : ℕ
MOST_SUBSCRIPTIONS = 8

-- Whether a subscription has this id.
abbrev pub has_id : List ℕ → Subscription → Bool
has_id id s = bytes_eq s.id id

-- The subscription under an id.
abbrev pub subscription_under : List ℕ → List Subscription → Option Subscription
subscription_under id subs = find (has_id id) subs

-- Whether its notices go where the consumer says.
abbrev pub goes_to : Consumer → Subscription → Bool
goes_to c s = s.port == c.port && bytes_eq s.path c.path

-- A subscription is made of a consumer, where this one exists under the id.
abbrev pub plan_beside : List Subscription → List ℕ → ℕ → Consumer → Option Subscription → Result SubPlan SubError
plan_beside subs id cursor c (Some s) = if goes_to c s then Ok Same else Err P4
plan_beside subs id cursor c None =
    if nat_lt (length subs) MOST_SUBSCRIPTIONS
    then Ok (New (record { id = id; port = c.port; path = c.path; cursor = cursor }))
    else Err P1

abbrev pub plan_of_body : List Subscription → List ℕ → ℕ → Read Consumer → Result SubPlan SubError
plan_of_body subs id cursor (Ok c) = plan_beside subs id cursor c (subscription_under id subs)
plan_of_body subs id cursor (Err e) = Err P3

-- A subscription is made: the id and the body are right, none of the id exists with other content, and fewer than eight exist where
-- none of the id does.
abbrev pub plan_to_make : List Subscription → List ℕ → List ℕ → ℕ → Result SubPlan SubError
plan_to_make subs id body cursor =
    if job_id id then plan_of_body subs id cursor (text_says consumer_form body) else Err P3

-- A new subscription: fewer than eight exist.
abbrev pub plan_new : List Subscription → List ℕ → ℕ → List ℕ → ℕ → Result SubPlan SubError
plan_new subs id port path cursor =
    if nat_lt (length subs) MOST_SUBSCRIPTIONS
    then Ok (New (record { id = id; port = port; path = path; cursor = cursor }))
    else Err P1

-- One that a store tells: what it says is right, and none of the id exists.
abbrev pub plan_anew : List Subscription → List ℕ → ℕ → List ℕ → ℕ → Option Subscription → Result SubPlan SubError
plan_anew subs id port path cursor (Some s) = Err P4
plan_anew subs id port path cursor None = plan_new subs id port path cursor

abbrev pub plan_of_stored : List Subscription → List ℕ → ℕ → List ℕ → ℕ → Result SubPlan SubError
plan_of_stored subs id port path cursor =
    if job_id id && is_consumer port path
    then plan_anew subs id port path cursor (subscription_under id subs)
    else Err P3

abbrev pub plan_at : Option ℕ → Result SubPlan SubError
plan_at (Some place) = Ok (Deleted place)
plan_at None = Err P2

-- A subscription is removed: one of the id exists.
abbrev pub plan_to_remove : List Subscription → List ℕ → Result SubPlan SubError
plan_to_remove subs id = plan_at (position (has_id id) subs)

-- Subscriptions in byte order of id, with one more.
abbrev pub with_subscription : Subscription → List Subscription → List Subscription
with_subscription s [] = s ∷ []
with_subscription s (x ∷ xs) =
    match_ordering (slice_cmp nat_cmp s.id x.id) (s ∷ (x ∷ xs)) (x ∷ xs) (x ∷ with_subscription s xs)

-- The subscriptions after a plan.
abbrev pub enacted : SubPlan → List Subscription → List Subscription
enacted (New s) subs = with_subscription s subs
enacted Same subs = subs
enacted (Deleted place) subs = remove subs place

abbrev pub outcome_of : SubPlan → Outcome
outcome_of (New s) = done.New
outcome_of Same = done.Same
outcome_of (Deleted place) = done.Deleted
