-- What stands, as a contract sees it: the jobs and the monitors, each in byte order of id.
use Rattle.std.specs.Prelude.{ℕ, ◌+◌, ◌≡◌, true, false, List, [], ◌∷◌, map, IsSome}
use Rattle.std.specs.List.{list_any, sum_by, AllByRecursion}
use Rattle.std.specs.Str.{bytes_eq}
use Rattle.pm_form.specs.Names.{job_id}
use Rattle.pm_history.specs.declared.entry.Side.{Side}
use Rattle.pm_history.specs.declared.entry.Side.TheVariants.{Job, Monitor}
use Rattle.pm_jobs.specs.declared.standing.Standing.{Standing}
use Rattle.pm_jobs.specs.Asked.{asked_of}

pub record JobsState : Type 0 where
  pub jobs : List Standing
  pub monitors : List Standing

-- Those of a side.
abbrev pub on : Side → JobsState → List Standing
on Job state = state.jobs
on Monitor state = state.monitors

-- The same, with others on a side.
abbrev pub with_on : Side → List Standing → JobsState → JobsState
with_on Job items state = record { jobs = items; monitors = state.monitors }
with_on Monitor items state = record { jobs = state.jobs; monitors = items }

abbrev pub ids : List Standing → List (List ℕ)
ids items = map (λ (s : Standing). s.id) items

abbrev pub ids_on : Side → JobsState → List (List ℕ)
ids_on side state = ids (on side state)

abbrev pub load_of : List Standing → ℕ
load_of items = sum_by (λ (s : Standing). s.load) items

-- The load of all that stand.
abbrev pub load_on : JobsState → ℕ
load_on state = load_of state.jobs + load_of state.monitors

-- No two are the same.
abbrev pub AreApart : List (List ℕ) → Type 0
AreApart [] = Unit {0}
AreApart (i ∷ is) = (list_any (bytes_eq i) is ≡ false) × AreApart is

-- An item has an id of its form, and was made with a text that says a body of its side.
abbrev pub IsItem : Side → Standing → Type 0
IsItem side s = (job_id s.id ≡ true) × IsSome (asked_of side s.body)

abbrev pub AreItems : Side → List Standing → Type 0
AreItems side items = AllByRecursion (IsItem side) items

-- The items of a side, of different ids.
pub record IsSide (side : Side) (items : List Standing) : Type 0 where
  pub apart : AreApart (ids items)
  pub each : AreItems side items
