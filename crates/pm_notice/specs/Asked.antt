-- What is asked, and what is planned for it.
use Rattle.std.specs.Prelude.{◌≡◌, true, List, Result}
use Rattle.pm_form.specs.Names.{job_id}
use Rattle.pm_notice.specs.declared.subscription.Subscription.{Subscription}
use Rattle.pm_notice.specs.declared.subscription.SubAsk.{SubAsk}
use Rattle.pm_notice.specs.declared.subscription.SubAsk.TheVariants.{Make, Remove}
use Rattle.pm_notice.specs.declared.subscription.SubPlan.{SubPlan}
use Rattle.pm_notice.specs.declared.error.SubError.{SubError}
use Rattle.pm_notice.specs.Plan.{plan_to_make, plan_to_remove}

abbrev pub plan_of : List Subscription → SubAsk → Result SubPlan SubError
plan_of subs (Make id body cursor) = plan_to_make subs id.now body.now cursor
plan_of subs (Remove id) = plan_to_remove subs id.now

-- What is asked may take memory: it is a subscription under a right id.
abbrev pub MayWantMemory : SubAsk → Type 0
MayWantMemory (Make id body cursor) = job_id id.now ≡ true
MayWantMemory (Remove id) = ⊥
