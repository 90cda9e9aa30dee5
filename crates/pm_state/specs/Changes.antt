-- What a request on jobs and monitors is given, where these exist: the first rule that it breaks, or the change and the body that is shown
-- then (this project's own).
use Rattle.std.specs.Prelude.{ℕ, Bool, true, false, List, [], ◌∷◌, Option, Some, None, if◌then◌else◌}
use Rattle.pm_base.specs.declared.code.Code.TheVariants.{J10}
use Rattle.pm_history.specs.declared.entry.Side.{Side}
use Rattle.pm_inventory.specs.Inventory.{InventoryState}
use Rattle.pm_jobs.specs.declared.ask.Ask.{Ask}
use Rattle.pm_jobs.specs.declared.ask.Ask.TheVariants.{Create, State, Delete}
use Rattle.pm_jobs.specs.declared.error.JobError.{JobError}
use Rattle.pm_jobs.specs.Asked.{Asked, asked_of}
use Rattle.pm_jobs.specs.JobCode.{job_code}
use Rattle.pm_jobs.specs.Plan.{state_under, made_entry, state_entry, deleted_entry}
use Rattle.pm_jobs.specs.Reading.{state_body}
use Rattle.pm_jobs.specs.Rules.{create_refusal, state_refusal, delete_refusal, stands}
use Rattle.pm_jobs.specs.Shown.{shown_text, shown_in, body_shown}
use Rattle.pm_jobs.specs.State.{JobsState}
use Rattle.pm_state.specs.Given.{Given, ok, gives_refusal, or_empty}

-- Nothing changes, and what exists is shown.
abbrev pub unchanged : JobsState → Side → List ℕ → Given
unchanged jobs side id = record { reply = ok 200 (or_empty (body_shown jobs side id)); entries = [] }

-- It is made, and shown as made.
abbrev pub made : ℕ → Side → List ℕ → Asked → Given
made moment side id asked = record {
  reply = ok 201 (or_empty (shown_text side id asked.text asked.unlocked));
  entries = made_entry side moment id asked.text ∷ [];
}

abbrev pub created : JobsState → ℕ → Side → List ℕ → Option Asked → Given
created jobs moment side id None = unchanged jobs side id
created jobs moment side id (Some asked) = if stands jobs side id then unchanged jobs side id else made moment side id asked

-- Its state is set, and it is shown in it.
abbrev pub moved : JobsState → ℕ → Side → List ℕ → Bool → Given
moved jobs moment side id unlocked = record {
  reply = ok 200 (or_empty (shown_in jobs side id unlocked));
  entries = state_entry side moment id unlocked ∷ [];
}

-- The same, where this is the state that is asked for, and that is the state of what exists.
abbrev pub moved_from : JobsState → ℕ → Side → List ℕ → Option Bool → Option Bool → Given
moved_from jobs moment side id (Some true) (Some false) = moved jobs moment side id true
moved_from jobs moment side id (Some false) (Some true) = moved jobs moment side id false
moved_from jobs moment side id _ _ = unchanged jobs side id

abbrev pub deleted : ℕ → Side → List ℕ → Given
deleted moment side id = record { reply = ok 204 []; entries = deleted_entry side moment id ∷ [] }

abbrev pub by_rule : Option JobError → Given → Given
by_rule (Some e) given = gives_refusal (job_code e)
by_rule None given = given

-- What a body under an id is given at a moment.
abbrev pub create_given : InventoryState → JobsState → ℕ → Side → List ℕ → List ℕ → Given
create_given inventory jobs moment side id body =
    by_rule (create_refusal inventory jobs side id body) (created jobs moment side id (asked_of side body))

-- What a state is given for what exists under an id.
abbrev pub state_given : JobsState → ℕ → Side → List ℕ → List ℕ → Given
state_given jobs moment side id body =
    by_rule (state_refusal jobs side id body) (moved_from jobs moment side id (state_body body) (state_under jobs side id))

-- What a deletion is given.
abbrev pub delete_given : JobsState → ℕ → Side → List ℕ → Given
delete_given jobs moment side id = by_rule (delete_refusal jobs side id) (deleted moment side id)

-- The same of a request that is read.
abbrev pub change_given : InventoryState → JobsState → ℕ → Side → Ask → Given
change_given inventory jobs moment side (Create id body) = create_given inventory jobs moment side id.now body.now
change_given inventory jobs moment side (State id body) = state_given jobs moment side id.now body.now
change_given inventory jobs moment side (Delete id) = delete_given jobs moment side id.now

abbrev pub shown_given : Option (List ℕ) → Given
shown_given None = gives_refusal J10
shown_given (Some body) = record { reply = ok 200 body; entries = [] }

-- What a look at a job or a monitor is given.
abbrev pub look_given : JobsState → Side → List ℕ → Given
look_given jobs side id = shown_given (body_shown jobs side id)
