-- Which path names which resource (this project's own).
use Rattle.std.specs.Prelude.{◌≡◌, ◌<◌, ℕ, List, [], ◌∷◌, ◌++◌, length, codes, false}
use Rattle.matchit.specs.Rows.{param_token}
use Rattle.matchit.specs.Router.{RouteOf}
use Rattle.matchit.specs.Seek.{has_slash}
use Rattle.pm_http.specs.declared.kind.Kind.{Kind}
use Rattle.pm_http.specs.declared.kind.Kind.TheVariants.{Job, Monitor, Subscription, Files, File, Events}

-- The fixed text at the start of a path.
abbrev pub front_of : Kind → List ℕ
front_of Job = codes "/jobs/"
front_of Monitor = codes "/monitors/"
front_of Subscription = codes "/subscriptions/"
front_of Files = codes "/files"
front_of File = codes "/files/"
front_of Events = codes "/events"

-- An id or a name: one or more bytes other than `/`.
abbrev pub IsPart : List ℕ → Type 0
IsPart part = (0 < length part) × (has_slash part ≡ false)

-- What follows the fixed text: an id or a name, or nothing.
abbrev pub IsPartOf : Kind → List ℕ → Type 0
IsPartOf Job part = IsPart part
IsPartOf Monitor part = IsPart part
IsPartOf Subscription part = IsPart part
IsPartOf Files part = part ≡ []
IsPartOf File part = IsPart part
IsPartOf Events part = part ≡ []

-- The path names a resource of this kind.
abbrev pub IsPathOf : Kind → List ℕ → Type 0
IsPathOf kind path = (part : List ℕ) × IsPartOf kind part × (path ≡ front_of kind ++ part)

-- The pattern of each resource's paths, in the order in which a router keeps them.
abbrev pub table : List (List ℕ × Kind)
table =
    (codes "/events", Events)
    ∷ (codes "/files/" ++ param_token ∷ [], File)
    ∷ (codes "/files", Files)
    ∷ (codes "/jobs/" ++ param_token ∷ [], Job)
    ∷ (codes "/monitors/" ++ param_token ∷ [], Monitor)
    ∷ (codes "/subscriptions/" ++ param_token ∷ [], Subscription)
    ∷ []

-- What a look-up goes by.
abbrev pub shape : List ℕ × RouteOf Kind → List ℕ × Kind
shape row = (row.0, row.1.value)
