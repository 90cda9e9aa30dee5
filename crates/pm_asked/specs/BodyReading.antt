-- What a JSON tree says as the body of a job or a monitor (this project's own).
use Rattle.std.specs.Prelude.{◌≡◌, ℕ, ◌&&◌, Bool, true, false, List, [], ◌∷◌, length, codes, if◌then◌else◌, nat_le, Option, Some, None, option_map, option_and_then, IsUtf8}
use Rattle.std.specs.List.{list_any}
use Rattle.std.specs.Str.{bytes_eq, is_utf8}
use Rattle.serde_json.specs.Data.{Data, Items, no_items, item, Members, no_members, member}
use Rattle.serde_json.specs.Find.{get_member, as_object, as_array, as_str, as_number, as_u64}
use Rattle.serde_json.specs.Read.{read}
use Rattle.pm_asked.specs.Body.{MOST_NAMED, MOST_METRICS, MOST_THRESHOLDS, MOST_PERIOD, MOST_THRESHOLD, Directions, Up, Down, UpAndDown, Threshold, JobBody, MonitorBody, job_tree, monitor_tree, IsJobBody, IsMonitorBody}

-- A tree is that of a body where it has no other keys, and each value is of its type and within its range.

-- Whether each key is one of these.
abbrev pub has_only : List (List ℕ) → Members → Bool
has_only keys no_members = true
has_only keys (member k d ms) = list_any (bytes_eq k) keys && has_only keys ms

-- A whole number of at most so much.
abbrev pub number_of : ℕ → Data → Option ℕ
number_of most d = option_and_then (λ n. if nat_le n most then Some n else None) (option_and_then as_u64 (as_number d))

-- The texts of items.
abbrev pub texts_of : Items → Option (List (List ℕ))
texts_of no_items = Some []
texts_of (item d ds) = option_and_then (λ t. option_map (λ ts. t ∷ ts) (texts_of ds)) (as_str d)

-- A list of so many texts.
abbrev pub list_of : ℕ → ℕ → Data → Option (List (List ℕ))
list_of least most d =
    option_and_then
    (λ ts. if nat_le least (length ts) && nat_le (length ts) most then Some ts else None)
    (option_and_then texts_of (as_array d))

abbrev pub state_of : Data → Option Bool
state_of d =
    option_and_then
    (λ t. if bytes_eq t (codes "UNLOCKED") then Some true else (if bytes_eq t (codes "LOCKED") then Some false else None))
    (as_str d)

abbrev pub directions_of : Data → Option Directions
directions_of d =
    option_and_then
    (λ t. if bytes_eq t (codes "UP") then Some Up
    else (if bytes_eq t (codes "DOWN") then Some Down else (if bytes_eq t (codes "UP_AND_DOWN") then Some UpAndDown else None)))
    (as_str d)

-- The value of a key that may lack, read so; or else this.
abbrev pub value_or : {A : Type 0} → A → (Data → Option A) → Option Data → Option A
value_or otherwise reads None = Some otherwise
value_or otherwise reads (Some d) = reads d

abbrev pub state_in : Members → Option Bool
state_in ms = value_or true state_of (get_member (codes "administrativeState") ms)

abbrev pub names_in : List ℕ → Members → Option (List (List ℕ))
names_in key ms = value_or [] (list_of 0 MOST_NAMED) (get_member key ms)

abbrev pub metrics_in : Members → Option (List (List ℕ))
metrics_in ms = option_and_then (list_of 1 MOST_METRICS) (get_member (codes "performanceMetrics") ms)

abbrev pub number_in : ℕ → List ℕ → Members → Option ℕ
number_in most key ms = option_and_then (number_of most) (get_member key ms)

abbrev pub job_keys : List (List ℕ)
job_keys =
    codes "administrativeState"
    ∷ codes "granularityPeriod"
    ∷ codes "objectInstances"
    ∷ codes "performanceMetrics"
    ∷ codes "reportingPeriod"
    ∷ codes "rootObjectInstances"
    ∷ []

abbrev pub job_members : Members → Option JobBody
job_members ms =
    option_and_then
    (λ unlocked. option_and_then
    (λ granularity. option_and_then
    (λ objects. option_and_then
    (λ metrics. option_and_then
    (λ reporting. option_map
    (λ roots. record {
      unlocked = unlocked;
      granularity = granularity;
      objects = objects;
      metrics = metrics;
      reporting = reporting;
      roots = roots;
    })
    (names_in (codes "rootObjectInstances") ms))
    (number_in MOST_PERIOD (codes "reportingPeriod") ms))
    (metrics_in ms))
    (names_in (codes "objectInstances") ms))
    (number_in MOST_PERIOD (codes "granularityPeriod") ms))
    (state_in ms)

-- What a tree says as a job's body, if it is one.
abbrev pub job_of : Data → Option JobBody
job_of tree = option_and_then (λ ms. if has_only job_keys ms then job_members ms else None) (as_object tree)

abbrev pub threshold_keys : List (List ℕ)
threshold_keys =
    codes "hysteresis" ∷ codes "performanceMetrics" ∷ codes "thresholdDirection" ∷ codes "thresholdValue" ∷ []

abbrev pub threshold_members : Members → Option Threshold
threshold_members ms =
    option_and_then
    (λ metrics. option_and_then
    (λ directions. option_and_then
    (λ value. option_map
    (λ hysteresis. record {
      metrics = metrics;
      directions = directions;
      value = value;
      hysteresis = hysteresis;
    })
    (value_or 0 (number_of value) (get_member (codes "hysteresis") ms)))
    (number_in MOST_THRESHOLD (codes "thresholdValue") ms))
    (option_and_then directions_of (get_member (codes "thresholdDirection") ms)))
    (metrics_in ms)

abbrev pub threshold_of : Data → Option Threshold
threshold_of tree = option_and_then (λ ms. if has_only threshold_keys ms then threshold_members ms else None) (as_object tree)

abbrev pub thresholds_of : Items → Option (List Threshold)
thresholds_of no_items = Some []
thresholds_of (item d ds) = option_and_then (λ t. option_map (λ ts. t ∷ ts) (thresholds_of ds)) (threshold_of d)

-- A list of 1 to `MOST_THRESHOLDS` thresholds.
abbrev pub threshold_list_of : Data → Option (List Threshold)
threshold_list_of d =
    option_and_then
    (λ ts. if nat_le 1 (length ts) && nat_le (length ts) MOST_THRESHOLDS then Some ts else None)
    (option_and_then thresholds_of (as_array d))

abbrev pub monitor_keys : List (List ℕ)
monitor_keys =
    codes "administrativeState"
    ∷ codes "monitorGranularityPeriod"
    ∷ codes "objectInstances"
    ∷ codes "rootObjectInstances"
    ∷ codes "thresholdInfoList"
    ∷ []

abbrev pub monitor_members : Members → Option MonitorBody
monitor_members ms =
    option_and_then
    (λ unlocked. option_and_then
    (λ granularity. option_and_then
    (λ objects. option_and_then
    (λ roots. option_map
    (λ thresholds. record {
      unlocked = unlocked;
      granularity = granularity;
      objects = objects;
      roots = roots;
      thresholds = thresholds;
    })
    (option_and_then threshold_list_of (get_member (codes "thresholdInfoList") ms)))
    (names_in (codes "rootObjectInstances") ms))
    (names_in (codes "objectInstances") ms))
    (number_in MOST_PERIOD (codes "monitorGranularityPeriod") ms))
    (state_in ms)

-- What a tree says as a monitor's body, if it is one.
abbrev pub monitor_of : Data → Option MonitorBody
monitor_of tree = option_and_then (λ ms. if has_only monitor_keys ms then monitor_members ms else None) (as_object tree)

-- The tree of a text. Bytes that aren't UTF-8 are no JSON.
abbrev pub tree_of : List ℕ → Option Data
tree_of text = if is_utf8 text then read text else None

-- What a text says as a body.
abbrev pub job_body : List ℕ → Option JobBody
job_body text = option_and_then job_of (tree_of text)

abbrev pub monitor_body : List ℕ → Option MonitorBody
monitor_body text = option_and_then monitor_of (tree_of text)

-- Only UTF-8 says a body.
abbrev pub BodiesAreText : Type 0
BodiesAreText =
    ((text : List ℕ) (body : JobBody) → job_body text ≡ Some body → IsUtf8 text)
    × ((text : List ℕ) (body : MonitorBody) → monitor_body text ≡ Some body → IsUtf8 text)

-- The tree of a body within its ranges says that body.
abbrev pub BodiesReadBack : Type 0
BodiesReadBack =
    ((body : JobBody) → IsJobBody body → job_of (job_tree body) ≡ Some body)
    × ((body : MonitorBody) → IsMonitorBody body → monitor_of (monitor_tree body) ≡ Some body)
