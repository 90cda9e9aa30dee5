-- What items keep, once a plan is enacted.
use Rattle.std.proofs.Common.{ℕ, zero, suc, Bool, List, [], ◌∷◌}
use Rattle.std.specs.List.{insert, remove, AllByRecursion}
use Rattle.pm_history.specs.declared.entry.Side.{Side}
use Rattle.pm_history.specs.declared.entry.Side.TheVariants.{Job, Monitor}
use Rattle.pm_inventory.specs.Inventory.{InventoryState}
use Rattle.pm_jobs.specs.declared.plan.Plan.{Plan}
use Rattle.pm_jobs.specs.declared.plan.Plan.TheVariants.{Make, Same, Move, Already, Delete}
use Rattle.pm_jobs.specs.declared.standing.Standing.{Standing}
use Rattle.pm_jobs.specs.State.{JobsState}
use Rattle.pm_jobs.specs.Stands.{Keeps, AllKeep}
use Rattle.pm_jobs.specs.Plan.{moved_at, jobs_after, IsOver}
use Rattle.pm_jobs.proofs.StandsLemmas.{moved-keeps}

module _ (inventory : InventoryState) where
  put : (side : Side) (items : List Standing) (place : ℕ) (s : Standing) → AllByRecursion (Keeps inventory side) items → Keeps inventory side s
      → AllByRecursion (Keeps inventory side) (insert items place s)
  put side items zero s all own = (own, all)
  put side [] (suc place) s all own = (own, all)
  put side (t ∷ ts) (suc place) s all own = (all.0, put side ts place s all.1 own)

  moved : (side : Side) (items : List Standing) (moment : ℕ) (unlocked : Bool) (place : ℕ) → AllByRecursion (Keeps inventory side) items
      → AllByRecursion (Keeps inventory side) (moved_at moment unlocked place items)
  moved side [] moment unlocked place all = all
  moved side (s ∷ ss) moment unlocked zero all = (moved-keeps inventory side s moment unlocked all.0, all.1)
  moved side (s ∷ ss) moment unlocked (suc place) all = (all.0, moved side ss moment unlocked place all.1)

  without : (side : Side) (items : List Standing) (place : ℕ) → AllByRecursion (Keeps inventory side) items
      → AllByRecursion (Keeps inventory side) (remove items place)
  without side [] zero all = tt
  without side [] (suc place) all = tt
  without side (s ∷ ss) zero all = all.1
  without side (s ∷ ss) (suc place) all = (all.0, without side ss place all.1)

  pub keep_after : (jobs : JobsState) (plan : Plan) → AllKeep inventory jobs → IsOver inventory plan → AllKeep inventory (jobs_after jobs plan)
  keep_after jobs (Make Job place s) all over = record { of_jobs = put Job jobs.jobs place s all.of_jobs over.keeps; of_monitors = all.of_monitors }
  keep_after jobs (Make Monitor place s) all over = record { of_jobs = all.of_jobs; of_monitors = put Monitor jobs.monitors place s all.of_monitors over.keeps }
  keep_after jobs Same all over = all
  keep_after jobs (Move Job place unlocked moment) all over = record { of_jobs = moved Job jobs.jobs moment unlocked place all.of_jobs; of_monitors = all.of_monitors }
  keep_after jobs (Move Monitor place unlocked moment) all over = record { of_jobs = all.of_jobs; of_monitors = moved Monitor jobs.monitors moment unlocked place all.of_monitors }
  keep_after jobs Already all over = all
  keep_after jobs (Delete Job place moment) all over = record { of_jobs = without Job jobs.jobs place all.of_jobs; of_monitors = all.of_monitors }
  keep_after jobs (Delete Monitor place moment) all over = record { of_jobs = all.of_jobs; of_monitors = without Monitor jobs.monitors place all.of_monitors }
