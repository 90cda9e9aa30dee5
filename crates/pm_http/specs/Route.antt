-- Which request takes which route (this project's own).
use Rattle.std.specs.Prelude.{◌≡◌, ℕ, List, ◌++◌, codes, Option, Some, None, Result, Ok, Err, IsUtf8}
use Rattle.pm_http.specs.declared.kind.Kind.{Kind}
use Rattle.pm_http.specs.declared.kind.Kind.TheVariants.{Job, Monitor, Subscription, Files, File, Events}
use Rattle.pm_http.specs.declared.method.Method.{Method}
use Rattle.pm_http.specs.declared.method.Method.TheVariants.{Get, Put, Patch, Delete, Post}
use Rattle.pm_http.specs.declared.routes.Route.{Route}
use Rattle.pm_http.specs.declared.routes.Route.TheVariants as routes
use Rattle.pm_http.specs.declared.error.RouteError.{RouteError}
use Rattle.pm_http.specs.declared.error.RouteError.TheVariants.{H5, H6, Memory}
use Rattle.pm_http.specs.Resource.{IsPathOf, IsPartOf, front_of}
use Rattle.pm_http.specs.Target.{path_of, query_of}

-- The name of a method.
abbrev pub method_name : Method → List ℕ
method_name Get = codes "GET"
method_name Put = codes "PUT"
method_name Patch = codes "PATCH"
method_name Delete = codes "DELETE"
method_name Post = codes "POST"

-- The route of a method on a resource with this id or name, and with this query; none where the resource doesn't take it.
abbrev pub route_at : Kind → Method → List ℕ → List ℕ → Option Route
route_at Job Get id query = Some (routes.JobGet id)
route_at Job Put id query = Some (routes.JobPut id)
route_at Job Patch id query = Some (routes.JobPatch id)
route_at Job Delete id query = Some (routes.JobDelete id)
route_at Monitor Get id query = Some (routes.MonitorGet id)
route_at Monitor Put id query = Some (routes.MonitorPut id)
route_at Monitor Patch id query = Some (routes.MonitorPatch id)
route_at Monitor Delete id query = Some (routes.MonitorDelete id)
route_at Subscription Put id query = Some (routes.SubscriptionPut id)
route_at Subscription Delete id query = Some (routes.SubscriptionDelete id)
route_at Files Get id query = Some (routes.Files query)
route_at File Get name query = Some (routes.File name)
route_at Events Post id query = Some routes.Events
route_at _ _ _ _ = None

-- The methods that a resource takes, as the Allow field names them.
abbrev pub allow_of : Kind → List ℕ
allow_of Job = codes "GET, PUT, PATCH, DELETE"
allow_of Monitor = codes "GET, PUT, PATCH, DELETE"
allow_of Subscription = codes "PUT, DELETE"
allow_of Files = codes "GET"
allow_of File = codes "GET"
allow_of Events = codes "POST"

-- A request of this method, path and query has the route.
abbrev pub IsTaken : Kind → List ℕ → List ℕ → List ℕ → Route → Type 0
IsTaken kind method path query route =
    (part : List ℕ) × (m : Method) × IsPartOf kind part × (path ≡ front_of kind ++ part) × (method ≡ method_name m) × (route_at kind m part query ≡ Some route)

-- The answer on a path that names a resource of this kind.
abbrev pub IsTakenBy : Kind → List ℕ → List ℕ → List ℕ → Result Route RouteError → Type 0
IsTakenBy kind method path query (Ok route) = IsTaken kind method path query route
IsTakenBy kind method path query (Err H5) = ⊥
IsTakenBy kind method path query (Err (H6 allow)) =
    ((m : Method) (part : List ℕ) → method ≡ method_name m → route_at kind m part query ≡ None) × (allow ≡ allow_of kind)
IsTakenBy kind method path query (Err Memory) = Unit {0}

-- The refusal of a method, or out of memory.
abbrev pub IsRefusal : Kind → RouteError → Type 0
IsRefusal kind H5 = ⊥
IsRefusal kind (H6 allow) = allow ≡ allow_of kind
IsRefusal kind Memory = Unit {0}

-- The path is text and names a resource of this kind.
abbrev pub IsResource : Kind → List ℕ → Type 0
IsResource kind path = IsUtf8 path × IsPathOf kind path

-- The answer on a request: no resource has its path, or one does, and this is its answer.
abbrev pub IsRouted : List ℕ → List ℕ → Result Route RouteError → Type 0
IsRouted method target (Err H5) = (kind : Kind) → ¬ IsResource kind (path_of target)
IsRouted method target answer =
    (kind : Kind) × IsResource kind (path_of target) × IsTakenBy kind method (path_of target) (query_of target) answer
