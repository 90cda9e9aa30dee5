-- What the reports of a job are made of, as the program holds it.
use Rattle.std.specs.Prelude.{ℕ, ◌*◌, ◌≡◌, Bool, true, false, ◌&&◌, List, [], ◌∷◌, map, slice_index_or, Option, Some, None}
use Rattle.std.specs.List.{list_all, AllByRecursion}
use Rattle.pm_base.specs.Class.{class_name}
use Rattle.pm_inventory.specs.Inventory.{InventoryState}
use Rattle.pm_history.specs.declared.entry.Side.TheVariants.{Job}
use Rattle.pm_history.specs.declared.metric.Metric.{Metric}
use Rattle.pm_history.specs.Terms.{Terms, Measured, reporting}
use Rattle.pm_asked.specs.Asked as asked
use Rattle.pm_form.specs.Lists.{each_fits}
use Rattle.pm_form.specs.Names.{job_id}
use Rattle.pm_file.specs.ReportForm.{object_name, element_name, type_form}
use Rattle.pm_file.specs.Agreement.{is_some_list, text_before, is_granularity}
use Rattle.pm_file.specs.Numbers.{metric_text}
use Rattle.pm_jobs.specs.declared.standing.Standing.{Standing}
use Rattle.pm_jobs.specs.Rules.{is_reporting}
use Rattle.pm_jobs.specs.Stands.{Keeps}
use Rattle.pm_ready.specs.Files.{element_of}
use Rattle.pm_ready.specs.Measured.{measured_of}
use Rattle.pm_ready.specs.declared.shape.Shape.{Shape}

-- The terms that speak of reports; the others are none of a report's.
abbrev pub terms_of : Shape → Terms
terms_of s = record { granularity = s.granularity; parts = s.parts; unlocked = false; measured = map measured_of s.measured.items; watched = [] }

-- Whether an object has a name.
abbrev pub is_named : InventoryState → ℕ → Bool
is_named inventory object = object_name (slice_index_or inventory.objects object [])

-- A group of a report can be made of it: it is of some metrics and of some objects, and all have names.
pub record HasNames (inventory : InventoryState) (m : Measured) : Type 0 where
  pub metrics : is_some_list m.metrics ≡ true
  pub objects : is_some_list m.objects ≡ true
  pub types : each_fits type_form.fits (map (metric_text inventory) (map (λ (k : Metric). k.number) m.metrics)) ≡ true
  pub names : list_all (is_named inventory) m.objects ≡ true

-- Each class comes after the one before it, in byte order of their names.
abbrev pub classes_rise : List Measured → Bool
classes_rise [] = true
classes_rise (m ∷ []) = true
classes_rise (m ∷ n ∷ ms) = text_before (class_name m.class) (class_name n.class) && classes_rise (n ∷ ms)

-- Reports can be made of a job of this id that asks for this.
pub record CanReport (inventory : InventoryState) (id : List ℕ) (t : Terms) : Type 0 where
  pub named : job_id id ≡ true
  pub sender : element_name (element_of inventory) ≡ true
  pub period : is_granularity (60 * t.granularity) ≡ true
  pub length : is_reporting (60 * t.granularity) (reporting t) ≡ true
  pub some : is_some_list t.measured ≡ true
  pub rise : classes_rise t.measured ≡ true
  pub each : AllByRecursion (HasNames inventory) t.measured

-- Two ask for the same reports.
pub record AskSame (one other : Terms) : Type 0 where
  pub granularity : one.granularity ≡ other.granularity
  pub parts : one.parts ≡ other.parts
  pub measured : one.measured ≡ other.measured

-- It is what the reports of a job are made of; there is one of each job that keeps what its body asks for.
abbrev pub IsShapeOf : InventoryState → Standing → Option Shape → Type 0
IsShapeOf inventory job (Some s) = CanReport inventory job.id (terms_of s) × (Keeps inventory Job job → AskSame (terms_of s) (asked.terms_of inventory Job job.body))
IsShapeOf inventory job None = Keeps inventory Job job → ⊥
