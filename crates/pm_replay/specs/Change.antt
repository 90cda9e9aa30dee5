-- What a change that is stored does to jobs and monitors.
use Rattle.std.specs.Prelude.{ℕ, ◌≡◌, List, [], ◌∷◌}
use Rattle.pm_history.specs.declared.entry.Entry.{Entry}
use Rattle.pm_inventory.specs.Inventory.{InventoryState}
use Rattle.pm_jobs.specs.declared.plan.Plan.{Plan}
use Rattle.pm_jobs.specs.declared.plan.Plan.TheVariants.{Make}
use Rattle.pm_jobs.specs.Plan.{Suits, IsOver, entries_of}
use Rattle.pm_jobs.specs.State.{JobsState}

-- The plan may be enacted on the jobs, and is this entry.
pub record IsPlanOf (inventory : InventoryState) (jobs : JobsState) (e : Entry) (plan : Plan) : Type 0 where
  pub suits : Suits jobs plan
  pub over : IsOver inventory plan
  pub entry : entries_of jobs plan ≡ e ∷ []

-- The plan puts in what was made with this body.
abbrev pub Makes : List ℕ → Plan → Type 0
Makes body (Make side place s) = s.body ≡ body
Makes body plan = ⊥
