-- The order of ids.
use Rattle.std.specs.Prelude.{ℕ, Bool, true, false, List}
use Rattle.std.specs.Ordering.{nat_cmp, match_ordering}
use Rattle.std.specs.Cmp.Lexicographic.{slice_cmp}

-- Whether an id comes before another one in byte order.
abbrev pub comes_before : List ℕ → List ℕ → Bool
comes_before id other = match_ordering (slice_cmp nat_cmp id other) true false false
