-- What the bodies of jobs and monitors say: attributes of PerfMetricJob and ThresholdMonitor of TS 28.622, in this project's own JSON.
use Rattle.std.specs.Prelude.{◌≤◌, ℕ, Bool, true, false, List, [], ◌∷◌, length, codes}
use Rattle.std.specs.List.{AllByRecursion}
use Rattle.serde_json.specs.Data.{Data, number, string, array, object, Items, no_items, item, no_members, member, unsigned}
use Rattle.serde_json.specs.Written.{compact_text}

-- Which crossings are kept.
pub data Directions : Type 0 where
  Up : Directions
  Down : Directions
  UpAndDown : Directions

pub record Threshold : Type 0 where
  pub metrics : List (List ℕ)
  pub directions : Directions
  pub value : ℕ
  pub hysteresis : ℕ

-- The granularity period is in seconds, the reporting period in minutes. Metrics are names or families; objects and roots are the
-- texts of distinguished names, all as given and in order. `unlocked` is the state as made.
pub record JobBody : Type 0 where
  pub unlocked : Bool
  pub granularity : ℕ
  pub objects : List (List ℕ)
  pub metrics : List (List ℕ)
  pub reporting : ℕ
  pub roots : List (List ℕ)

pub record MonitorBody : Type 0 where
  pub unlocked : Bool
  pub granularity : ℕ
  pub objects : List (List ℕ)
  pub roots : List (List ℕ)
  pub thresholds : List Threshold

-- ---- the tree of a body: all keys, in byte order

abbrev pub text_items : List (List ℕ) → Items
text_items [] = no_items
text_items (t ∷ ts) = item (string t) (text_items ts)

abbrev pub state_text : Bool → List ℕ
state_text true = codes "UNLOCKED"
state_text false = codes "LOCKED"

abbrev pub directions_text : Directions → List ℕ
directions_text Up = codes "UP"
directions_text Down = codes "DOWN"
directions_text UpAndDown = codes "UP_AND_DOWN"

abbrev pub job_tree : JobBody → Data
job_tree body =
    object
    (member (codes "administrativeState") (string (state_text body.unlocked))
    (member (codes "granularityPeriod") (number (unsigned body.granularity))
    (member (codes "objectInstances") (array (text_items body.objects))
    (member (codes "performanceMetrics") (array (text_items body.metrics))
    (member (codes "reportingPeriod") (number (unsigned body.reporting))
    (member (codes "rootObjectInstances") (array (text_items body.roots)) no_members))))))

abbrev pub threshold_tree : Threshold → Data
threshold_tree threshold =
    object
    (member (codes "hysteresis") (number (unsigned threshold.hysteresis))
    (member (codes "performanceMetrics") (array (text_items threshold.metrics))
    (member (codes "thresholdDirection") (string (directions_text threshold.directions))
    (member (codes "thresholdValue") (number (unsigned threshold.value)) no_members))))

abbrev pub threshold_items : List Threshold → Items
threshold_items [] = no_items
threshold_items (t ∷ ts) = item (threshold_tree t) (threshold_items ts)

abbrev pub monitor_tree : MonitorBody → Data
monitor_tree body =
    object
    (member (codes "administrativeState") (string (state_text body.unlocked))
    (member (codes "monitorGranularityPeriod") (number (unsigned body.granularity))
    (member (codes "objectInstances") (array (text_items body.objects))
    (member (codes "rootObjectInstances") (array (text_items body.roots))
    (member (codes "thresholdInfoList") (array (threshold_items body.thresholds)) no_members)))))

-- The canonical text of a body.
abbrev pub job_text : JobBody → List ℕ
job_text body = compact_text (job_tree body)

abbrev pub monitor_text : MonitorBody → List ℕ
monitor_text body = compact_text (monitor_tree body)

-- ---- bodies within their ranges

-- The most objects and the most roots, metrics and thresholds that a body names.
abbrev pub MOST_NAMED : ℕ
MOST_NAMED = 256

abbrev pub MOST_METRICS : ℕ
MOST_METRICS = 64

abbrev pub MOST_THRESHOLDS : ℕ
MOST_THRESHOLDS = 16

-- The greatest period, and the greatest value of a threshold: 2 ^ 32 - 1, and 2 ^ 53 - 1.
abbrev pub MOST_PERIOD : ℕ
MOST_PERIOD = 4294967295

abbrev pub MOST_THRESHOLD : ℕ
MOST_THRESHOLD = 9007199254740991

abbrev pub AreMetrics : List (List ℕ) → Type 0
AreMetrics metrics = (1 ≤ length metrics) × (length metrics ≤ MOST_METRICS)

pub record IsJobBody (body : JobBody) : Type 0 where
  pub granularity : body.granularity ≤ MOST_PERIOD
  pub objects : length body.objects ≤ MOST_NAMED
  pub metrics : AreMetrics body.metrics
  pub reporting : body.reporting ≤ MOST_PERIOD
  pub roots : length body.roots ≤ MOST_NAMED

pub record IsThreshold (threshold : Threshold) : Type 0 where
  pub metrics : AreMetrics threshold.metrics
  pub value : threshold.value ≤ MOST_THRESHOLD
  pub hysteresis : threshold.hysteresis ≤ threshold.value

pub record IsMonitorBody (body : MonitorBody) : Type 0 where
  pub granularity : body.granularity ≤ MOST_PERIOD
  pub objects : length body.objects ≤ MOST_NAMED
  pub roots : length body.roots ≤ MOST_NAMED
  pub least : 1 ≤ length body.thresholds
  pub most : length body.thresholds ≤ MOST_THRESHOLDS
  pub each : AllByRecursion IsThreshold body.thresholds
