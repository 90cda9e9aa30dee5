-- Which jobs and monitors stand for a history. Nothing speaks of the places of makings, which differ in histories of the same items.
use Rattle.std.specs.Prelude.{ℕ, ◌≡◌, Bool, true, List, map, Some, None}
use Rattle.std.specs.List.{AllByRecursion}
use Rattle.std.specs.Option.{option_map}
use Rattle.pm_history.specs.declared.entry.Side.{Side}
use Rattle.pm_history.specs.declared.entry.Side.TheVariants.{Job, Monitor}
use Rattle.pm_history.specs.History.{History}
use Rattle.pm_history.specs.Standing as history
use Rattle.pm_inventory.specs.Inventory.{InventoryState}
use Rattle.pm_form.specs.Names.{job_id}
use Rattle.pm_asked.specs.Body.{Threshold}
use Rattle.pm_asked.specs.Asked.{Numbered, metrics_asked, keeps_up, keeps_down, terms_of}
use Rattle.pm_jobs.specs.declared.standing.Standing.{Standing}
use Rattle.pm_jobs.specs.declared.standing.Limit.{Limit}
use Rattle.pm_jobs.specs.Asked.{Asked, asked_of, metrics_of, objects_of}
use Rattle.pm_jobs.specs.Rules.{is_period, load_asked, body_refusal}
use Rattle.pm_jobs.specs.State.{JobsState, ids}

-- ---- what an item keeps of what its body asks for

abbrev pub numbers : List Numbered → List ℕ
numbers metrics = map (λ (m : Numbered). m.0) metrics

-- A threshold as given, with the numbers of its metrics.
pub record Bound : Type 0 where
  pub metrics : List ℕ
  pub up : Bool
  pub down : Bool
  pub value : ℕ
  pub hysteresis : ℕ

abbrev pub bound_of : Limit → Bound
bound_of limit = record { metrics = limit.metrics.items; up = limit.up; down = limit.down; value = limit.value; hysteresis = limit.hysteresis }

abbrev pub bound_asked : InventoryState → Threshold → Bound
bound_asked inventory threshold = record {
  metrics = numbers (metrics_asked inventory threshold.metrics);
  up = keeps_up threshold.directions;
  down = keeps_down threshold.directions;
  value = threshold.value;
  hysteresis = threshold.hysteresis;
}

-- What an item keeps is what is asked for.
pub record Fits (inventory : InventoryState) (asked : Asked) (s : Standing) : Type 0 where
  pub granularity : s.granularity ≡ asked.granularity
  pub period : is_period asked.granularity ≡ true
  pub reporting : s.reporting ≡ asked.reporting
  pub metrics : s.metrics.items ≡ numbers (metrics_of inventory asked)
  pub objects : s.objects.items ≡ objects_of inventory asked
  pub limits : map bound_of s.limits.items ≡ map (bound_asked inventory) asked.thresholds
  pub load : s.load ≡ load_asked inventory asked

-- What an item keeps is what its body asks for, which breaks no rule by itself; and its id is one.
pub record Keeps (inventory : InventoryState) (side : Side) (s : Standing) : Type 0 where
  pub named : job_id s.id ≡ true
  pub asked : Asked
  pub says : asked_of side s.body ≡ Some asked
  pub permitted : body_refusal inventory side asked ≡ None
  pub fits : Fits inventory asked s

-- All items keep what their bodies ask for.
pub record AllKeep (inventory : InventoryState) (jobs : JobsState) : Type 0 where
  pub of_jobs : AllByRecursion (Keeps inventory Job) jobs.jobs
  pub of_monitors : AllByRecursion (Keeps inventory Monitor) jobs.monitors

-- ---- histories

-- What a history says of what stands under an id, but for the place of its making.
pub record Told : Type 0 where
  pub body : List ℕ
  pub unlocked : Bool
  pub changed : ℕ
  pub armed : ℕ

abbrev pub told : history.Standing → Told
told s = record { body = s.body; unlocked = s.unlocked; changed = s.changed; armed = s.armed }

abbrev pub told_of : Standing → Told
told_of s = record { body = s.body; unlocked = s.unlocked; changed = s.changed; armed = s.armed }

-- An item is what stands under its id after a history, and keeps what its body asks for.
pub record StandsFor (inventory : InventoryState) (side : Side) (h : History) (s : Standing) : Type 0 where
  pub told : option_map told (history.standing_after (terms_of inventory) side h s.id) ≡ Some (told_of s)
  pub keeps : Keeps inventory side s

-- The items of a side are all that stand, in byte order of id.
pub record SideStands (inventory : InventoryState) (side : Side) (items : List Standing) (h : History) : Type 0 where
  pub listed : ids items ≡ history.ids_after side h
  pub each : AllByRecursion (StandsFor inventory side h) items

-- These jobs and monitors, over an inventory, are those that stand after a history.
pub record Stands (inventory : InventoryState) (jobs : JobsState) (h : History) : Type 0 where
  pub of_jobs : SideStands inventory Job jobs.jobs h
  pub of_monitors : SideStands inventory Monitor jobs.monitors h
