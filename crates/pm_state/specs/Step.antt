-- What a request is given, over the history with its Now or Boot: a clause for each route (this project's own).
use Rattle.std.specs.Prelude.{ℕ, ◌≡◌, ◌++◌, List, [], codes, decimal, length, Result, Ok, Err}
use Rattle.pm_base.specs.declared.code.Code.TheVariants.{H5, H6}
use Rattle.pm_base.specs.Lines.{lines_of}
use Rattle.pm_inventory.specs.Inventory.{InventoryState}
use Rattle.pm_history.specs.declared.entry.Side.TheVariants.{Job, Monitor}
use Rattle.pm_history.specs.History.{History, last_moment}
use Rattle.pm_jobs.specs.State.{JobsState}
use Rattle.pm_jobs.specs.Stands.{Stands}
use Rattle.pm_events.specs.declared.hit.Hit.{Hit}
use Rattle.pm_batch.specs.Reading.{Refusal}
use Rattle.pm_batch.specs.Answer.{batch_answer, entries_in}
use Rattle.pm_notice.specs.Plan.{plan_to_make, plan_to_remove}
use Rattle.pm_notify.specs.Kept.{notices_of}
use Rattle.pm_http.specs.declared.routes.Route.{Route}
use Rattle.pm_http.specs.declared.routes.Route.TheVariants as route
use Rattle.pm_http.specs.declared.error.RouteError.{RouteError}
use Rattle.pm_http.specs.declared.error.RouteError.TheVariants as route_error
use Rattle.pm_http.specs.Route.{IsRouted}
use Rattle.pm_state.specs.Given.{Given, ok, refused, refused_at, gives_refusal}
use Rattle.pm_state.specs.Changes.{create_given, state_given, delete_given, look_given}
use Rattle.pm_state.specs.FilesGiven.{IsListGiven, IsFileGiven}
use Rattle.pm_state.specs.SubsGiven.{OverSubs, Leaves}

-- ---- events

abbrev pub accepted_body : ℕ → List ℕ
accepted_body n = codes "{\"accepted\":" ++ decimal n ++ codes "}"

-- How many lines were accepted; or the refusal and its line.
abbrev pub events_by : InventoryState → History → List ℕ → Result (List Hit) Refusal → Given
events_by inventory g body (Ok hits) = record {
  reply = ok 202 (accepted_body (length (lines_of body)));
  entries = entries_in inventory g (last_moment g) (Ok hits);
}
events_by inventory g body (Err refusal) = record { reply = refused_at refusal.code refusal.line; entries = [] }

abbrev pub events_given : InventoryState → History → List ℕ → Given
events_given inventory g body = events_by inventory g body (batch_answer inventory g (last_moment g) body)

-- ---- routes

-- It is given by the jobs and monitors that stand for the history.
abbrev pub OverJobs : InventoryState → History → (JobsState → Given) → Given → Type 0
OverJobs inventory g by given = (jobs : JobsState) × Stands inventory jobs g × (given ≡ by jobs)

-- What a route is given with a body, where the subscriptions have these cursors; and their cursors then. A new subscription begins at the
-- number of notices.
abbrev pub IsRouteGiven : InventoryState → History → List ℕ → Route → List ℕ → Given → List ℕ → Type 0
IsRouteGiven inventory g cursors (route.JobPut id) body given next =
    Leaves cursors next (OverJobs inventory g (λ jobs. create_given inventory jobs (last_moment g) Job id body) given)
IsRouteGiven inventory g cursors (route.JobPatch id) body given next =
    Leaves cursors next (OverJobs inventory g (λ jobs. state_given jobs (last_moment g) Job id body) given)
IsRouteGiven inventory g cursors (route.JobDelete id) body given next =
    Leaves cursors next (OverJobs inventory g (λ jobs. delete_given jobs (last_moment g) Job id) given)
IsRouteGiven inventory g cursors (route.JobGet id) body given next =
    Leaves cursors next (OverJobs inventory g (λ jobs. look_given jobs Job id) given)
IsRouteGiven inventory g cursors (route.MonitorPut id) body given next =
    Leaves cursors next (OverJobs inventory g (λ jobs. create_given inventory jobs (last_moment g) Monitor id body) given)
IsRouteGiven inventory g cursors (route.MonitorPatch id) body given next =
    Leaves cursors next (OverJobs inventory g (λ jobs. state_given jobs (last_moment g) Monitor id body) given)
IsRouteGiven inventory g cursors (route.MonitorDelete id) body given next =
    Leaves cursors next (OverJobs inventory g (λ jobs. delete_given jobs (last_moment g) Monitor id) given)
IsRouteGiven inventory g cursors (route.MonitorGet id) body given next =
    Leaves cursors next (OverJobs inventory g (λ jobs. look_given jobs Monitor id) given)
IsRouteGiven inventory g cursors (route.Files query) body given next =
    Leaves cursors next (IsListGiven inventory g query given)
IsRouteGiven inventory g cursors (route.File name) body given next =
    Leaves cursors next (IsFileGiven inventory g name given)
IsRouteGiven inventory g cursors route.Events body given next =
    Leaves cursors next (given ≡ events_given inventory g body)
IsRouteGiven inventory g cursors (route.SubscriptionPut id) body given next =
    OverSubs g cursors id (λ subs. plan_to_make subs id body (length (notices_of inventory g))) given next
IsRouteGiven inventory g cursors (route.SubscriptionDelete id) body given next = OverSubs g cursors id (λ subs. plan_to_remove subs id) given next

-- No such path, or another method on it than it takes.
abbrev pub not_allowed : List ℕ → Given
not_allowed allow = record { reply = record (refused H6) { allow = allow }; entries = [] }

abbrev pub IsAnsweredGiven : InventoryState → History → List ℕ → Result Route RouteError → List ℕ → Given → List ℕ → Type 0
IsAnsweredGiven inventory g cursors (Ok r) body given next = IsRouteGiven inventory g cursors r body given next
IsAnsweredGiven inventory g cursors (Err route_error.H5) body given next = Leaves cursors next (given ≡ gives_refusal H5)
IsAnsweredGiven inventory g cursors (Err (route_error.H6 allow)) body given next = Leaves cursors next (given ≡ not_allowed allow)
IsAnsweredGiven inventory g cursors (Err route_error.Memory) body given next = ⊥

-- What a request of this method, target and body is given.
abbrev pub IsGiven : InventoryState → History → List ℕ → List ℕ → List ℕ → List ℕ → Given → List ℕ → Type 0
IsGiven inventory g cursors method target body given next =
    (answer : Result Route RouteError) × IsRouted method target answer × IsAnsweredGiven inventory g cursors answer body given next
