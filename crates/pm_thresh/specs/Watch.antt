-- A watch and the sequence of values that it has seen.
use Rattle.std.specs.Prelude.{◌≡◌, ◌↔◌, ℕ, Bool, ◌&&◌, ◌||◌, IsTrue, nat_le, nat_lt, List, length, ◌<◌, slice_index_or, Option, Some, None, if◌then◌else◌}
use Rattle.pm_history.specs.Crossing.{IsRearmedBefore, IsRaisedBefore, CrossesUp, CrossesDown}
use Rattle.pm_thresh.specs.declared.watch.Watch.{Watch}
use Rattle.pm_thresh.specs.declared.direction.Direction.{Direction}
use Rattle.pm_thresh.specs.declared.direction.Direction.TheVariants.{Up, Down}

-- the watch stands as after these values since it began: what it keeps is what they leave to the next value
pub record StandsAfter (w : Watch) (values : List ℕ) : Type 0 where
  pub rearmed : IsTrue w.rearmed ↔ IsRearmedBefore w.high w.low values (length values)
  pub raised : IsTrue w.raised ↔ IsRaisedBefore w.high w.low values (length values)

-- an answer is the kept crossing at a place of a sequence, or none exactly where no kept one stands
pub record IsCrossing (high low : ℕ) (up down : Bool) (values : List ℕ) (place : ℕ) (answer : Option Direction) : Type 0 where
  pub upward : (answer ≡ Some Up) ↔ (IsTrue up × CrossesUp high low values place)
  pub downward : (answer ≡ Some Down) ↔ (IsTrue down × CrossesDown high low values place)
  pub none : (answer ≡ None) ↔ ((IsTrue up × CrossesUp high low values place → ⊥) × (IsTrue down × CrossesDown high low values place → ⊥))

-- the answer by what the watch keeps, whether or not it has seen a sequence
abbrev pub answer_by : Watch → ℕ → Option Direction
answer_by w value =
    if w.up && (w.rearmed && nat_le w.high value) then Some Up
    else (if w.down && (w.raised && nat_le value w.low) then Some Down else None)

-- the watch after a value, likewise
abbrev pub with_value : Watch → ℕ → Watch
with_value w value = record w {
  rearmed = nat_lt value w.high && (w.rearmed || nat_le value w.low);
  raised = nat_lt w.low value && (w.raised || nat_le w.high value);
}

-- a list has, at each place of a sequence, the crossing there that the directions keep
pub record AreCrossings (high low : ℕ) (up down : Bool) (values : List ℕ) (answers : List (Option Direction)) : Type 0 where
  pub each_place : length answers ≡ length values
  pub each : (place : ℕ) → place < length values → IsCrossing high low up down values place (slice_index_or answers place None)
