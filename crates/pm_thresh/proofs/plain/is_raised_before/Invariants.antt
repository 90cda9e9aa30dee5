use Rattle.std.proofs.Common.{ℕ, ◌<◌, ◌≤◌, slice_index}
use Rattle.pm_thresh.proofs.plain.is_raised_before.Given as goal

abbrev pub invariant-loop-place : goal.invariant-loop-place
invariant-loop-place l =
    (j : ℕ) → j < l.place → l.high ≤ slice_index l.values j → l.low < slice_index l.values j
    → ((k : ℕ) → j < k → k < l.end → l.low < slice_index l.values k) → ⊥
