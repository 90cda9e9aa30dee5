-- What a body asks for over an inventory (TS 28.622; families and the load are this project's own).
use Rattle.std.specs.Prelude.{ℕ, ◌+◌, ◌-◌, ◌*◌, ◌/◌, ◌||◌, Bool, true, false, List, [], ◌∷◌, length, map, filter, Option, Some, None, slice_index_or}
use Rattle.std.specs.List.{list_any, flat_map, enumerate_from, sum_by}
use Rattle.std.specs.Str.{bytes_eq}
use Rattle.pm_base.specs.declared.class.Class.{Class}
use Rattle.pm_base.specs.declared.class.TheConstants.{CLASSES}
use Rattle.pm_base.specs.Class.{class_name}
use Rattle.pm_dn.specs.Containment.{has_path_to}
use Rattle.pm_dn.specs.Tree.{is_under, numbers_where}
use Rattle.pm_meas.specs.Catalogue.{family_of}
use Rattle.pm_meas.specs.declared.def.Def.{Def}
use Rattle.pm_meas.specs.declared.kind.Kind.{Kind}
use Rattle.pm_meas.specs.declared.kind.Kind.TheVariants.{Cc, Gauge, Der, Si}
use Rattle.pm_inventory.specs.Inventory.{InventoryState}
use Rattle.pm_history.specs.declared.entry.Side.{Side}
use Rattle.pm_history.specs.declared.entry.Side.TheVariants.{Job, Monitor}
use Rattle.pm_history.specs.declared.metric.Metric.{Metric}
use Rattle.pm_history.specs.Terms.{Terms, Measured, Watched}
use Rattle.pm_asked.specs.Body.{Directions, Up, Down, UpAndDown, Threshold, JobBody, MonitorBody}
use Rattle.pm_asked.specs.BodyReading.{job_body, monitor_body}

-- A metric with its number.
abbrev pub Numbered : Type 0
Numbered = ℕ × Def

-- Whether a text is the name of a metric, or its family.
abbrev pub asks_for : Def → List ℕ → Bool
asks_for def text = bytes_eq text def.name || bytes_eq text (family_of def.name)

-- The metrics that texts ask for, in catalogue order.
abbrev pub metrics_asked : InventoryState → List (List ℕ) → List Numbered
metrics_asked inventory texts =
    filter (λ (metric : Numbered). list_any (asks_for metric.1) texts) (enumerate_from 0 inventory.measures)

-- Whether an object is named singly, or lies in the subtree of a root.
abbrev pub is_asked : List (List ℕ) → List (List ℕ) → List ℕ → Bool
is_asked objects roots name = list_any (bytes_eq name) objects || list_any (λ root. is_under root name) roots

-- The objects that are named singly or by the subtrees of roots, in tree order.
abbrev pub objects_asked : InventoryState → List (List ℕ) → List (List ℕ) → List ℕ
objects_asked inventory objects roots = numbers_where (is_asked objects roots) inventory.objects

-- Whether an object is of a class.
abbrev pub is_of_class : InventoryState → Class → ℕ → Bool
is_of_class inventory class object = has_path_to class (slice_index_or inventory.objects object [])

-- The measured objects of a metric: those asked for that are of its class.
abbrev pub measured_objects : InventoryState → List ℕ → Class → List ℕ
measured_objects inventory objects class = filter (is_of_class inventory class) objects

abbrev pub same_class : Class → Class → Bool
same_class a b = bytes_eq (class_name a) (class_name b)

abbrev pub metric_of : Numbered → Metric
metric_of metric = record { number = metric.0; reduce = metric.1.reduce }

-- What is measured of a class, if anything.
abbrev pub measured_of : InventoryState → List ℕ → Class → List Numbered → List Measured
measured_of inventory objects class [] = []
measured_of inventory objects class (m ∷ ms) =
    record { class = class; metrics = map metric_of (m ∷ ms); objects = measured_objects inventory objects class } ∷ []

-- What is measured, by class in byte order of its name.
abbrev pub measured_asked : InventoryState → List Numbered → List ℕ → List Measured
measured_asked inventory metrics objects =
    flat_map
    (λ class. measured_of inventory objects class (filter (λ (metric : Numbered). same_class metric.1.class class) metrics))
    CLASSES

-- The hysteresis that counts: on a cumulative counter it is 0.
abbrev pub margin : Kind → ℕ → ℕ
margin Cc hysteresis = 0
margin Gauge hysteresis = hysteresis
margin (Der n) hysteresis = hysteresis
margin Si hysteresis = hysteresis

abbrev pub keeps_up : Directions → Bool
keeps_up Up = true
keeps_up Down = false
keeps_up UpAndDown = true

abbrev pub keeps_down : Directions → Bool
keeps_down Up = false
keeps_down Down = true
keeps_down UpAndDown = true

-- A threshold on one metric.
abbrev pub watched_of : InventoryState → List ℕ → ℕ × Threshold → Numbered → Watched
watched_of inventory objects threshold metric = record {
  threshold = threshold.0;
  metric = metric_of metric;
  objects = measured_objects inventory objects metric.1.class;
  value = threshold.1.value;
  hysteresis = threshold.1.hysteresis;
  high = threshold.1.value + margin metric.1.kind threshold.1.hysteresis;
  low = threshold.1.value - margin metric.1.kind threshold.1.hysteresis;
  up = keeps_up threshold.1.directions;
  down = keeps_down threshold.1.directions;
}

-- What is watched, by threshold and by metric in catalogue order.
abbrev pub watched_asked : InventoryState → List ℕ → List Threshold → List Watched
watched_asked inventory objects thresholds =
    flat_map
    (λ (threshold : ℕ × Threshold). map (watched_of inventory objects threshold) (metrics_asked inventory threshold.1.metrics))
    (enumerate_from 0 thresholds)

-- A granularity period in seconds, in ticks.
abbrev pub ticks_of : ℕ → ℕ
ticks_of seconds = seconds / 60

abbrev pub job_terms : InventoryState → JobBody → Terms
job_terms inventory body = record {
  granularity = ticks_of body.granularity;
  parts = body.reporting / ticks_of body.granularity;
  unlocked = body.unlocked;
  measured = measured_asked inventory (metrics_asked inventory body.metrics) (objects_asked inventory body.objects body.roots);
  watched = [];
}

abbrev pub monitor_terms : InventoryState → MonitorBody → Terms
monitor_terms inventory body = record {
  granularity = ticks_of body.granularity;
  parts = 0;
  unlocked = body.unlocked;
  measured = [];
  watched = watched_asked inventory (objects_asked inventory body.objects body.roots) body.thresholds;
}

-- What nothing that is a body asks for.
abbrev pub no_terms : Terms
no_terms = record { granularity = 0; parts = 0; unlocked = false; measured = []; watched = [] }

abbrev pub or_no_terms : {B : Type 0} → (B → Terms) → Option B → Terms
or_no_terms terms None = no_terms
or_no_terms terms (Some body) = terms body

-- What the text of a body asks for: what the definitions over histories take as `terms`.
unfoldable pub terms_of : InventoryState → Side → List ℕ → Terms
terms_of inventory Job text = or_no_terms (job_terms inventory) (job_body text)
terms_of inventory Monitor text = or_no_terms (monitor_terms inventory) (monitor_body text)

-- ---- the load

-- The pairs of a metric and a measured object.
abbrev pub pairs : InventoryState → List Numbered → List ℕ → ℕ
pairs inventory metrics objects =
    sum_by (λ (metric : Numbered). length (measured_objects inventory objects metric.1.class)) metrics

-- The objects that some metric measures.
abbrev pub objects_measured : InventoryState → List Numbered → List ℕ → List ℕ
objects_measured inventory metrics objects =
    filter (λ object. list_any (λ (metric : Numbered). is_of_class inventory metric.1.class object) metrics) objects

-- The load of a job or a monitor, by its granularity period in seconds, its metrics and its objects.
abbrev pub load : InventoryState → ℕ → List Numbered → List ℕ → ℕ
load inventory granularity metrics objects =
    (16 * length (objects_measured inventory metrics objects) + pairs inventory metrics objects) * (86400 / granularity)
