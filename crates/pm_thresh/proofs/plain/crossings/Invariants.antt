use Rattle.std.proofs.Common.{◌≡◌, ℕ, ◌<◌, length, slice_index_or, None}
use Rattle.pm_thresh.specs.Watch.{IsCrossing}
use Rattle.pm_thresh.proofs.plain.crossings.Given as goal

abbrev pub invariant-loop-place : goal.invariant-loop-place
invariant-loop-place l =
    (length l.answers.items ≡ l.place)
    × ((k : ℕ) → k < l.place → IsCrossing l.high l.low l.up l.down l.values k (slice_index_or l.answers.items k None))
