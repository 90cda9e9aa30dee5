-- Objects that pass a test, by a mark for each.
use Rattle.std.specs.Prelude.{ℕ, ◌<◌, ◌≤◌, ◌≡◌, Bool, false, List, [], length, slice_index_or}

-- The marks are those of the objects whose names pass the test.
pub record AreMarks (tree : List (List ℕ)) (passes : List ℕ → Bool) (marks : List Bool) : Type 0 where
  pub long : length tree ≤ length marks
  pub each : (k : ℕ) → k < length tree → slice_index_or marks k false ≡ passes (slice_index_or tree k [])
