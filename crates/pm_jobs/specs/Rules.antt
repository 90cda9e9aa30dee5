-- The rules that requests on jobs and monitors keep, in their order (this project's own; the periods are among those of TS 28.622).
use Rattle.std.specs.Prelude.{ℕ, ◌+◌, ◌*◌, ◌%◌, ◌&&◌, ◌||◌, ◌==◌, Bool, true, false, not, nat_le, nat_lt, List, [], ◌∷◌, length, Option, Some, None, is_none, if◌then◌else◌}
use Rattle.std.specs.List.{list_any, list_all, find}
use Rattle.std.specs.Str.{bytes_eq}
use Rattle.pm_dn.specs.Refusal.{when_broken, first_code}
use Rattle.pm_dn.specs.Tree as tree
use Rattle.pm_form.specs.Names.{job_id}
use Rattle.pm_history.specs.declared.entry.Side.{Side}
use Rattle.pm_history.specs.declared.entry.Side.TheVariants.{Job, Monitor}
use Rattle.pm_inventory.specs.Inventory.{InventoryState}
use Rattle.pm_asked.specs.Asked.{Numbered, asks_for, is_of_class, load}
use Rattle.pm_jobs.specs.Asked.{Asked, asked_of, metrics_of, objects_of}
use Rattle.pm_jobs.specs.Reading.{monitor_rule, state_body}
use Rattle.pm_jobs.specs.State.{JobsState, on, ids_on, load_on}
use Rattle.pm_jobs.specs.declared.standing.Standing.{Standing}
use Rattle.pm_jobs.specs.declared.error.BodyError.TheVariants as body
use Rattle.pm_jobs.specs.declared.error.BodyError.{BodyError}
use Rattle.pm_jobs.specs.declared.ask.Ask.{Ask}
use Rattle.pm_jobs.specs.declared.ask.Ask.TheVariants.{Create, State, Delete}
use Rattle.pm_jobs.specs.declared.error.JobError.{JobError}
use Rattle.pm_jobs.specs.declared.error.JobError.TheVariants.{J1, J2, J3, J4, J5, J6, J7, J8, J9, J10, J11, J12}

-- The most jobs, and the most monitors, and the most load of all that stand.
abbrev pub MOST_STANDING : ℕ
MOST_STANDING = 32

abbrev pub MOST_LOAD : ℕ
MOST_LOAD = 4194304

-- ---- what a body asks for

-- Whether a text is the name of a metric, or a family.
abbrev pub is_metric : InventoryState → List ℕ → Bool
is_metric inventory text = list_any (λ def. asks_for def text) inventory.measures

-- Whether some object is of the metric's class.
abbrev pub is_measured : InventoryState → List ℕ → Numbered → Bool
is_measured inventory objects metric = list_any (is_of_class inventory metric.1.class) objects

-- The granularity periods that there are, in seconds.
abbrev pub is_period : ℕ → Bool
is_period seconds = seconds == 60 || seconds == 300 || seconds == 900 || seconds == 1800 || seconds == 3600

-- Whether a reporting period, in minutes, divides a day and is a multiple of the granularity period, in seconds.
abbrev pub is_reporting : ℕ → ℕ → Bool
is_reporting granularity minutes = nat_lt 0 minutes && 1440 % minutes == 0 && (60 * minutes) % granularity == 0

-- A monitor has no reporting period.
abbrev pub reports : Side → Asked → Bool
reports Job asked = is_reporting asked.granularity asked.reporting
reports Monitor asked = true

-- The rule that no more than so many stand.
abbrev pub full : Side → JobError
full Job = J8
full Monitor = J12

abbrev pub load_asked : InventoryState → Asked → ℕ
load_asked inventory asked = load inventory asked.granularity (metrics_of inventory asked) (objects_of inventory asked)

-- The first rule that what is asked for breaks by itself.
abbrev pub body_refusal : InventoryState → Side → Asked → Option JobError
body_refusal inventory side asked =
    first_code
    (when_broken (not (list_all (is_metric inventory) asked.metrics)) J3
    ∷ when_broken (not (list_all (tree.stands inventory.objects) asked.objects)) J4
    ∷ when_broken (not (list_all (tree.stands inventory.objects) asked.roots)) J4
    ∷ when_broken (not (list_all (is_measured inventory (objects_of inventory asked)) (metrics_of inventory asked))) J5
    ∷ when_broken (not (is_period asked.granularity)) J6
    ∷ when_broken (not (reports side asked)) J7
    ∷ [])

-- The first rule that it breaks as a new item.
abbrev pub asked_refusal : InventoryState → JobsState → Side → Asked → Option JobError
asked_refusal inventory jobs side asked =
    first_code
    (body_refusal inventory side asked
    ∷ when_broken (nat_le MOST_STANDING (length (on side jobs))) (full side)
    ∷ when_broken (nat_lt MOST_LOAD (load_on jobs + load_asked inventory asked)) J9
    ∷ [])

-- ---- requests

-- Whether something stands under an id.
abbrev pub stands : JobsState → Side → List ℕ → Bool
stands jobs side id = list_any (bytes_eq id) (ids_on side jobs)

-- What stands under an id.
abbrev pub standing_at : List Standing → List ℕ → Option Standing
standing_at items id = find (λ (s : Standing). bytes_eq id s.id) items

-- Whether it was made with this content.
abbrev pub was_made_with : Asked → Option Standing → Bool
was_made_with asked None = false
was_made_with asked (Some s) = bytes_eq s.body asked.text

abbrev pub is_j11 : BodyError → Bool
is_j11 body.J1 = false
is_j11 body.J11 = true
is_j11 body.Memory = false

-- Whether a text would be a body but for the value of its list of thresholds.
abbrev pub has_wrong_list : Side → List ℕ → Bool
has_wrong_list Job text = false
has_wrong_list Monitor text = is_j11 (monitor_rule text)

-- Whether a text that asks for nothing is wrong elsewhere too.
abbrev pub has_no_form : Side → List ℕ → Option Asked → Bool
has_no_form side text None = not (has_wrong_list side text)
has_no_form side text (Some asked) = false

-- Whether what stands under an id was made with other content.
abbrev pub is_other : JobsState → Side → List ℕ → Option Asked → Bool
is_other jobs side id None = stands jobs side id
is_other jobs side id (Some asked) = stands jobs side id && not (was_made_with asked (standing_at (on side jobs) id))

-- What is asked for anew breaks no rule where it stands already.
abbrev pub new_refusal : InventoryState → JobsState → Side → List ℕ → Option Asked → Option JobError
new_refusal inventory jobs side id None = Some J11
new_refusal inventory jobs side id (Some asked) = if stands jobs side id then None else asked_refusal inventory jobs side asked

-- The first rule that a create breaks.
abbrev pub create_refusal : InventoryState → JobsState → Side → List ℕ → List ℕ → Option JobError
create_refusal inventory jobs side id text =
    first_code
    (when_broken (not (job_id id)) J1
    ∷ when_broken (has_no_form side text (asked_of side text)) J1
    ∷ when_broken (is_other jobs side id (asked_of side text)) J2
    ∷ new_refusal inventory jobs side id (asked_of side text)
    ∷ [])

-- The first rule that a change of state breaks.
abbrev pub state_refusal : JobsState → Side → List ℕ → List ℕ → Option JobError
state_refusal jobs side id text =
    first_code (when_broken (is_none (state_body text)) J1 ∷ when_broken (not (stands jobs side id)) J10 ∷ [])

-- The rule that a deletion breaks.
abbrev pub delete_refusal : JobsState → Side → List ℕ → Option JobError
delete_refusal jobs side id = when_broken (not (stands jobs side id)) J10

-- The first rule that a request breaks.
abbrev pub refusal : InventoryState → JobsState → Side → Ask → Option JobError
refusal inventory jobs side (Create id body) = create_refusal inventory jobs side id.now body.now
refusal inventory jobs side (State id body) = state_refusal jobs side id.now body.now
refusal inventory jobs side (Delete id) = delete_refusal jobs side id.now
