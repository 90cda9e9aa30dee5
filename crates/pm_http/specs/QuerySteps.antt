-- How a query is read pair by pair.
use Rattle.std.specs.Prelude.{◌≡◌, ℕ, List, ◌++◌, map, codes, bytes_eq, if◌then◌else◌, Option, Some, None}
use Rattle.std.specs.Option.{option_map}
use Rattle.form_urlencoded.specs.Form.{raw_pairs}
use Rattle.pm_http.specs.declared.query.Query.{Query}
use Rattle.pm_http.specs.Query.{read_type, read_time, decoded, listing_query}

-- What one value more gives: it may be the first one.
abbrev pub one_more : {X : Type 0} → (List ℕ → Option X) → Option X → List ℕ → Option (Option X)
one_more read None value = option_map Some (read value)
one_more read (Some found) value = None

-- What one pair more gives.
abbrev pub pair_more : Query → List ℕ → List ℕ → Option Query
pair_more query name value =
    if bytes_eq name (codes "fileDataType") then option_map (λ p. record query { performance = p }) (one_more read_type query.performance value)
    else if bytes_eq name (codes "beginTime") then option_map (λ t. record query { begin = t }) (one_more read_time query.begin value)
    else if bytes_eq name (codes "endTime") then option_map (λ t. record query { end = t }) (one_more read_time query.end value)
    else None

-- Of the pairs of a query all but these were read, and make this one.
pub record HasRead (query : List ℕ) (left : List (List ℕ × List ℕ)) (asked : Query) : Type 0 where
  pub before : List (List ℕ × List ℕ)
  pub split : raw_pairs query ≡ before ++ left
  pub good : listing_query (map decoded before) ≡ Some asked
