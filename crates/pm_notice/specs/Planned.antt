-- Which plans fit subscriptions.
use Rattle.std.specs.Prelude.{◌≡◌, ◌<◌, List, length, vec_capacity, None, Result, Ok, Err}
use Rattle.pm_notice.specs.declared.subscription.Subscription.{Subscription}
use Rattle.pm_notice.specs.declared.subscription.SubPlan.{SubPlan}
use Rattle.pm_notice.specs.declared.subscription.SubPlan.TheVariants.{New, Same, Deleted}
use Rattle.pm_notice.specs.declared.subscriptions.Subscriptions.{Subscriptions}
use Rattle.pm_notice.specs.declared.error.SubError.{SubError}
use Rattle.pm_notice.specs.declared.error.SubError.TheVariants.{P1, P2, P3, P4, Memory}
use Rattle.pm_notice.specs.Plan.{subscription_under, MOST_SUBSCRIPTIONS}

-- The subscriptions, in byte order of id.
abbrev pub subscriptions_of : Subscriptions → List Subscription
subscriptions_of s = s.items.items

-- What is made doesn't exist and has room, and what is deleted exists. The plan of subscriptions fits them until they change.
abbrev pub IsPlanOf : Subscriptions → SubPlan → Type 0
IsPlanOf subs (New s) =
    (subscription_under s.id (subscriptions_of subs) ≡ None)
    × (length (subscriptions_of subs) < MOST_SUBSCRIPTIONS)
    × (length (subscriptions_of subs) < vec_capacity subs.items)
IsPlanOf subs Same = Unit {0}
IsPlanOf subs (Deleted place) = place < length (subscriptions_of subs)

-- The answer is this plan or this refusal, unless there was too little memory.
abbrev pub Answers : Result SubPlan SubError → Result SubPlan SubError → Type 0
Answers (Ok plan) says = says ≡ Ok plan
Answers (Err P1) says = says ≡ Err P1
Answers (Err P2) says = says ≡ Err P2
Answers (Err P3) says = says ≡ Err P3
Answers (Err P4) says = says ≡ Err P4
Answers (Err Memory) says = Unit {0}
