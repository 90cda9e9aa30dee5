-- Crossings of a sequence of values. Places count from 0. `high` is the threshold plus its hysteresis and `low` the threshold minus it (TS 28.622); what rearms is this project's own.
use Rattle.std.specs.Prelude.{◌≡◌, ◌≢◌, ◌⊎◌, ℕ, ◌+◌, ◌≤◌, ◌<◌, List, length, slice_index}

-- a value between two places rearms: it is at most low, and under high
pub record IsRearmedBetween (high low : ℕ) (values : List ℕ) (after before : ℕ) : Type 0 where
  pub place : ℕ
  pub later : after < place
  pub earlier : place < before
  pub at_most_low : slice_index values place ≤ low
  pub under_high : slice_index values place < high

-- each value of at least high before a place has a later one before that place that rearms
abbrev pub IsRearmedBefore : ℕ → ℕ → List ℕ → ℕ → Type 0
IsRearmedBefore high low values end =
    (place : ℕ) → place < end → high ≤ slice_index values place → IsRearmedBetween high low values place end

-- some value before a place is at least high and over low, and none between them is at most low
pub record IsRaisedBefore (high low : ℕ) (values : List ℕ) (end : ℕ) : Type 0 where
  pub place : ℕ
  pub earlier : place < end
  pub at_least_high : high ≤ slice_index values place
  pub over_low : low < slice_index values place
  pub none_low : (k : ℕ) → place < k → k < end → low < slice_index values k

-- an upward crossing is at a place
pub record CrossesUp (high low : ℕ) (values : List ℕ) (place : ℕ) : Type 0 where
  pub within : place < length values
  pub at_least_high : high ≤ slice_index values place
  pub rearmed : IsRearmedBefore high low values place

-- a downward crossing is at a place
pub record CrossesDown (high low : ℕ) (values : List ℕ) (place : ℕ) : Type 0 where
  pub within : place < length values
  pub at_most_low : slice_index values place ≤ low
  pub raised : IsRaisedBefore high low values place

-- a number is `n` where a fact holds, else 0
abbrev pub Counts : ℕ → Type 0 → ℕ → Type 0
Counts n P number = (P × (number ≡ n)) ⊎ ((P → ⊥) × (number ≡ 0))

-- what a sequence leaves to its next value, as one number: 1 where each value of at least high has a later one that rearms,
-- and 2 besides where some value of at least high and over low has no later one of at most low
pub record AreFlags (high low : ℕ) (values : List ℕ) (flags : ℕ) : Type 0 where
  pub first : ℕ
  pub second : ℕ
  pub both : flags ≡ first + second
  pub rearmed : Counts 1 (IsRearmedBefore high low values (length values)) first
  pub raised : Counts 2 (IsRaisedBefore high low values (length values)) second

-- at no place are both crossings
abbrev pub NeverBoth : Type 0
NeverBoth = (high low : ℕ) (values : List ℕ) (place : ℕ) → CrossesUp high low values place → CrossesDown high low values place → ⊥

-- the flags 3 are those of no sequence, and 0 are those of none where low is less than high
abbrev pub FlagsOfSequences : Type 0
FlagsOfSequences =
    (high low : ℕ) (values : List ℕ) (flags : ℕ) → AreFlags high low values flags → (flags ≢ 3) × (flags ≡ 0 → high ≤ low)
