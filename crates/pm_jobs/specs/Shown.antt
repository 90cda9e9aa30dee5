-- The body of what exists, as it is shown: with its id, its state of now, and an operational state that is always ENABLED (attributes of
-- PerfMetricJob and ThresholdMonitor of TS 28.622, in this project's own JSON).
use Rattle.std.specs.Prelude.{ℕ, Bool, List, Option, None, codes, option_and_then}
use Rattle.std.specs.Option.{option_map}
use Rattle.pm_history.specs.declared.entry.Side.{Side}
use Rattle.pm_history.specs.declared.entry.Side.TheVariants.{Job, Monitor}
use Rattle.serde_json.specs.Data.{Data, number, string, array, object, no_members, member, unsigned}
use Rattle.serde_json.specs.Written.{compact_text}
use Rattle.pm_asked.specs.Body.{JobBody, MonitorBody, text_items, state_text, threshold_items}
use Rattle.pm_asked.specs.BodyReading.{job_body, monitor_body}
use Rattle.pm_jobs.specs.declared.standing.Standing.{Standing}
use Rattle.pm_jobs.specs.declared.plan.Plan.{Plan}
use Rattle.pm_jobs.specs.declared.plan.Plan.TheVariants.{Make, Same, Move, Already, Delete}
use Rattle.pm_jobs.specs.Rules.{standing_at}
use Rattle.pm_jobs.specs.State.{JobsState, on}

abbrev pub job_shown : List ℕ → JobBody → Data
job_shown id body =
    object
    (member (codes "administrativeState") (string (state_text body.unlocked))
    (member (codes "granularityPeriod") (number (unsigned body.granularity))
    (member (codes "jobId") (string id)
    (member (codes "objectInstances") (array (text_items body.objects))
    (member (codes "operationalState") (string (codes "ENABLED"))
    (member (codes "performanceMetrics") (array (text_items body.metrics))
    (member (codes "reportingPeriod") (number (unsigned body.reporting))
    (member (codes "rootObjectInstances") (array (text_items body.roots)) no_members))))))))

abbrev pub monitor_shown : List ℕ → MonitorBody → Data
monitor_shown id body =
    object
    (member (codes "administrativeState") (string (state_text body.unlocked))
    (member (codes "monitorGranularityPeriod") (number (unsigned body.granularity))
    (member (codes "monitorId") (string id)
    (member (codes "objectInstances") (array (text_items body.objects))
    (member (codes "operationalState") (string (codes "ENABLED"))
    (member (codes "rootObjectInstances") (array (text_items body.roots))
    (member (codes "thresholdInfoList") (array (threshold_items body.thresholds)) no_members)))))))

-- A body under an id, in a state; none where it is no body of this side.
abbrev pub shown_text : Side → List ℕ → List ℕ → Bool → Option (List ℕ)
shown_text Job id body unlocked = option_map (λ (b : JobBody). compact_text (job_shown id (record b { unlocked = unlocked }))) (job_body body)
shown_text Monitor id body unlocked =
    option_map (λ (b : MonitorBody). compact_text (monitor_shown id (record b { unlocked = unlocked }))) (monitor_body body)

-- That of what exists under an id, in a state.
abbrev pub shown_in : JobsState → Side → List ℕ → Bool → Option (List ℕ)
shown_in jobs side id unlocked = option_and_then (λ (s : Standing). shown_text side s.id s.body unlocked) (standing_at (on side jobs) id)

-- The same, in the state of now.
abbrev pub shown : Side → Standing → Option (List ℕ)
shown side s = shown_text side s.id s.body s.unlocked

abbrev pub body_shown : JobsState → Side → List ℕ → Option (List ℕ)
body_shown jobs side id = option_and_then (shown side) (standing_at (on side jobs) id)

-- That of what exists under an id once a plan for it is enacted.
abbrev pub body_planned : JobsState → Side → List ℕ → Plan → Option (List ℕ)
body_planned jobs side id (Make s place standing) = shown s standing
body_planned jobs side id Same = body_shown jobs side id
body_planned jobs side id (Move s place unlocked moment) = shown_in jobs side id unlocked
body_planned jobs side id Already = body_shown jobs side id
body_planned jobs side id (Delete s place moment) = None
