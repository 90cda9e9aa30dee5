use Rattle.std.proofs.Common.{ℕ, ◌<◌, ◌≤◌, slice_index}
use Rattle.pm_thresh.proofs.plain.is_rearmed_between.Given as goal

abbrev pub invariant-loop-place : goal.invariant-loop-place
invariant-loop-place l = (k : ℕ) → l.after < k → k < l.place → slice_index l.values k ≤ l.low → slice_index l.values k < l.high → ⊥
