-- The whole stream of requests, and that it goes on in one way (this project's own).
use Rattle.std.specs.Prelude.{◌≡◌, ◌+◌, ◌-◌, ◌⊎◌, ◌↔◌, ℕ, Bool, true, false, List, [], ◌∷◌, length, Option, Some, None}
use Rattle.httparse.specs.Grammar.{EndsInTarget}
use Rattle.pm_http.specs.declared.request.Request.{Request}
use Rattle.pm_http.specs.declared.next.Next.{Next}
use Rattle.pm_http.specs.declared.next.Next.TheVariants as next
use Rattle.pm_http.specs.Stream.{looked_at, IsNext}

-- What the bytes from an offset on begin with is one thing, but where the bytes that are looked at end inside a target.
abbrev pub OneNext : Type 0
OneNext =
    (bytes : List ℕ) (offset : ℕ) (a b : Next) (left rest : List ℕ) → IsNext bytes offset a left → IsNext bytes offset b rest
    → ((a ≡ b) ⊎ EndsInTarget (looked_at bytes))

-- The answer is no request.
abbrev pub IsNoRequest : Next → Type 0
IsNoRequest (next.Request request) = ⊥
IsNoRequest _ = Unit {0}

-- The first fact where this is so, else the second.
abbrev pub Either : Bool → Type 0 → Type 0 → Type 0
Either true first second = first
Either false first second = second

-- The requests of the bytes from an offset on, in order, and the answer that ends them: none where the last one closes.
abbrev pub IsStream : List ℕ → ℕ → List Request → Option Next → Type 0
IsStream bytes offset [] end = (last : Next) × (after : List ℕ) × IsNext bytes offset last after × IsNoRequest last × (end ≡ Some last)
IsStream bytes offset (request ∷ requests) end =
    (after : List ℕ) × IsNext bytes offset (next.Request request) after
    × Either request.close ((requests ≡ []) × (end ≡ None)) (IsStream after (offset + (length bytes - length after)) requests end)

-- One answer is a step of the stream: after a request that doesn't close, the stream is that of what is left.
abbrev pub OneStep : Type 0
OneStep =
    (bytes after : List ℕ) (offset : ℕ) (request : Request) (requests : List Request) (end : Option Next)
    → IsNext bytes offset (next.Request request) after → request.close ≡ false
    → (IsStream bytes offset (request ∷ requests) end ↔ IsStream after (offset + (length bytes - length after)) requests end)
