-- The query of a listing: pairs in the URL standard's form encoding, of which it knows three names (this project's own).
use Rattle.std.specs.Prelude.{◌≡◌, ◌||◌, ℕ, Bool, List, [], ◌∷◌, ◌++◌, map, codes, bytes_eq, if◌then◌else◌, Option, Some, None, Result, Ok, Err}
use Rattle.std.specs.List.{filter, list_all}
use Rattle.std.specs.Option.{option_map}
use Rattle.std.specs.Str.Lossy.{utf8_lossy}
use Rattle.form_urlencoded.specs.Form.{raw_pairs, decode, IsPlainText}
use Rattle.pm_base.specs.Number.{is_moment, number_of}
use Rattle.pm_http.specs.declared.query.Query.{Query}
use Rattle.pm_http.specs.declared.error.QueryError.{QueryError}
use Rattle.pm_http.specs.declared.error.QueryError.TheVariants.{L2, Memory}

-- A name and its value, as text: `+` is a space, and what is no UTF-8 is replaced.
abbrev pub decoded : List ℕ × List ℕ → List ℕ × List ℕ
decoded pair = (utf8_lossy (decode pair.0), utf8_lossy (decode pair.1))

-- The pairs of a query, in order. Empty pieces between `&` are none.
abbrev pub pairs_of : List ℕ → List (List ℕ × List ℕ)
pairs_of query = map decoded (raw_pairs query)

abbrev pub has_name : List ℕ → List ℕ × List ℕ → Bool
has_name name pair = bytes_eq pair.0 name

-- The values under a name, in order.
abbrev pub values_under : List ℕ → List (List ℕ × List ℕ) → List (List ℕ)
values_under name pairs = map (λ p. p.1) (filter (has_name name) pairs)

-- The name is one that a listing knows.
abbrev pub is_known : List ℕ × List ℕ → Bool
is_known pair =
    has_name (codes "fileDataType") pair || (has_name (codes "beginTime") pair || has_name (codes "endTime") pair)

-- Whether files of the type Performance are asked for.
abbrev pub read_type : List ℕ → Option Bool
read_type value = Some (bytes_eq value (codes "Performance"))

-- A moment of 1 to 12 digits.
abbrev pub read_time : List ℕ → Option ℕ
read_time value = if is_moment value then Some (number_of value) else None

-- What at most one value gives; nothing where there are more, or where it can't be read.
abbrev pub one_of : {X : Type 0} → (List ℕ → Option X) → List (List ℕ) → Option (Option X)
one_of read [] = Some None
one_of read (value ∷ []) = option_map Some (read value)
one_of read (first ∷ second ∷ more) = None

-- A query, where each part could be read.
abbrev pub with_all : Option (Option Bool) → Option (Option ℕ) → Option (Option ℕ) → Option Query
with_all (Some performance) (Some begin) (Some end) = Some record { performance = performance; begin = begin; end = end }
with_all _ _ _ = None

-- The query that pairs make: each name is known and stands once at the most.
abbrev pub listing_query : List (List ℕ × List ℕ) → Option Query
listing_query pairs =
    if list_all is_known pairs then
    with_all (one_of read_type (values_under (codes "fileDataType") pairs)) (one_of read_time (values_under (codes "beginTime") pairs)) (one_of read_time (values_under (codes "endTime") pairs))
    else None

-- Out of memory: the pairs before one that isn't plain text, and so takes memory, break no rule.
pub record StopsAtPair (query : List ℕ) : Type 0 where
  pub before : List (List ℕ × List ℕ)
  pub pair : List ℕ × List ℕ
  pub others : List (List ℕ × List ℕ)
  pub split : raw_pairs query ≡ before ++ pair ∷ others
  pub asked : Query
  pub good : listing_query (map decoded before) ≡ Some asked
  pub encoded : IsPlainText pair.0 → IsPlainText pair.1 → ⊥

-- The answer: the query, that there is none, or that no memory was left to tell.
abbrev pub IsListing : List ℕ → Result Query QueryError → Type 0
IsListing query (Ok asked) = listing_query (pairs_of query) ≡ Some asked
IsListing query (Err L2) = listing_query (pairs_of query) ≡ None
IsListing query (Err Memory) = StopsAtPair query
