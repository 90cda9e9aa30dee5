-- What the reading of a head's fields keeps in view.
use Rattle.std.specs.Prelude.{◌≡◌, ℕ, List, [], ◌∷◌}
use Rattle.httparse.specs.Spans.{IsWithin, span_bytes}
use Rattle.pm_http.specs.declared.fields.Values.{Values}
use Rattle.pm_http.specs.declared.fields.Values.TheVariants.{None, One, More}

-- There is no value, one at this place of the bytes, or one and others after it; the place lies in the first bytes, so many.
abbrev pub IsValues : ℕ → List ℕ → List (List ℕ) → Values → Type 0
IsValues limit buf values None = values ≡ []
IsValues limit buf values (One first) = IsWithin limit first × (values ≡ span_bytes buf first ∷ [])
IsValues limit buf values (More first) =
    IsWithin limit first × ((second : List ℕ) × (more : List (List ℕ)) × (values ≡ span_bytes buf first ∷ second ∷ more))
