-- A reply as its reader takes it (RFC 9112, sections 6.2 and 6.3): its body comes behind the head, in the length that the head
-- tells (that it has to, and the limits, are this project's own).
use Rattle.std.specs.Prelude.{◌≡◌, ◌≤◌, ℕ, List, [], ◌∷◌, map, length, codes, if◌then◌else◌, Option, Some, None}
use Rattle.httparse.specs.Grammar.{ResponseHead, ReadsResponse, status_code}
use Rattle.httparse.specs.Spans.{name_and_value}
use Rattle.pm_base.specs.Number.{is_number, number_of}
use Rattle.pm_http.specs.Head.{values_of}

-- The length by the values of the Content-Length fields: there is one, of 1 to 12 digits.
abbrev pub length_by : List (List ℕ) → Option ℕ
length_by [] = None
length_by (value ∷ []) = if is_number 12 value then Some (number_of value) else None
length_by (first ∷ second ∷ more) = None

-- The length of the body that the head tells.
abbrev pub length_told : ResponseHead → Option ℕ
length_told head = length_by (values_of (codes "content-length") (map name_and_value head.fields))

-- The bytes are a head of at most 64 fields and a body of the length that it tells, and no more.
pub record IsAnswer (bytes : List ℕ) (status : ℕ) (body : List ℕ) : Type 0 where
  pub head : ResponseHead
  pub reads : ReadsResponse bytes head body
  pub few : length head.fields ≤ 64
  pub told : length_told head ≡ Some (length body)
  pub code : status ≡ status_code head

-- The bytes are no reply.
abbrev pub IsNoAnswer : List ℕ → Type 0
IsNoAnswer bytes = (status : ℕ) (body : List ℕ) → IsAnswer bytes status body → ⊥
