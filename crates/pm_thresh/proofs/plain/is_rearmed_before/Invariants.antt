use Rattle.std.proofs.Common.{ℕ, ◌<◌, ◌≤◌, slice_index}
use Rattle.pm_history.specs.Crossing.{IsRearmedBetween}
use Rattle.pm_thresh.proofs.plain.is_rearmed_before.Given as goal

abbrev pub invariant-loop-place : goal.invariant-loop-place
invariant-loop-place l = (j : ℕ) → j < l.place → l.high ≤ slice_index l.values j → IsRearmedBetween l.high l.low l.values j l.end
