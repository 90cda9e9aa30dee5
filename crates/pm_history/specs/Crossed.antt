-- Crossings as tests, which say what the relations of `Crossing` say.
use Rattle.std.specs.Prelude.{ℕ, Bool, true, false, ◌&&◌, ◌||◌, not, List, length, slice_index, if◌then◌else◌, nat_le, nat_lt, Option, Some, None}
use Rattle.pm_history.specs.Ticks.{at_some, at_each}

-- Whether a value rearms: it is at most low, and under high.
abbrev pub rearms : ℕ → ℕ → ℕ → Bool
rearms high low value = nat_le value low && nat_lt value high

-- Whether some value between two places rearms.
abbrev pub is_rearmed_between : ℕ → ℕ → List ℕ → ℕ → ℕ → Bool
is_rearmed_between high low values after end = at_some end (λ k. nat_lt after k && rearms high low (slice_index values k))

-- Whether each value of at least high before a place has a later one before that place that rearms.
abbrev pub is_rearmed_before : ℕ → ℕ → List ℕ → ℕ → Bool
is_rearmed_before high low values end =
    at_each end (λ j. not (nat_le high (slice_index values j)) || is_rearmed_between high low values j end)

-- Whether each value between two places is over low.
abbrev pub stays_over : ℕ → List ℕ → ℕ → ℕ → Bool
stays_over low values after end = at_each end (λ k. not (nat_lt after k) || nat_lt low (slice_index values k))

-- Whether some value before a place is at least high and over low, and each one between them is over low.
abbrev pub is_raised_before : ℕ → ℕ → List ℕ → ℕ → Bool
is_raised_before high low values end =
    at_some end (λ j. nat_le high (slice_index values j) && nat_lt low (slice_index values j) && stays_over low values j end)

-- Whether an upward, or a downward, crossing is at a place.
abbrev pub crosses_up : ℕ → ℕ → List ℕ → ℕ → Bool
crosses_up high low values place =
    nat_lt place (length values) && nat_le high (slice_index values place) && is_rearmed_before high low values place

abbrev pub crosses_down : ℕ → ℕ → List ℕ → ℕ → Bool
crosses_down high low values place =
    nat_lt place (length values) && nat_le (slice_index values place) low && is_raised_before high low values place

-- The kept crossing at a place: Some true for one upward, Some false for one downward. The two are never at one place.
abbrev pub crossing_in : ℕ → ℕ → Bool → Bool → List ℕ → ℕ → Option Bool
crossing_in high low up down values place =
    if up && crosses_up high low values place then Some true
    else (if down && crosses_down high low values place then Some false else None)
