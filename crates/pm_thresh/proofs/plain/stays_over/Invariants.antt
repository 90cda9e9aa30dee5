use Rattle.std.proofs.Common.{ℕ, ◌<◌, slice_index}
use Rattle.pm_thresh.proofs.plain.stays_over.Given as goal

abbrev pub invariant-loop-place : goal.invariant-loop-place
invariant-loop-place l = (k : ℕ) → l.after < k → k < l.place → l.low < slice_index l.values k
