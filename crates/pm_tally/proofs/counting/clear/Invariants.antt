use Rattle.std.proofs.Common.{◌≡◌, ◌<◌, ◌≤◌, ℕ, get_or}
use Rattle.pm_tally.specs.Counting.{IsClear}
use Rattle.pm_tally.specs.declared.slot_count.SlotCount.{SlotCount}
use Rattle.pm_tally.proofs.counting.clear.Given as goal

abbrev pub invariant-loop-count : goal.invariant-loop-count
invariant-loop-count l = record {
  done : (place : ℕ) (d : SlotCount) → place < l.count-index → IsClear (get_or l.initial.counts place d).registers_each (get_or l.counts place d);
  others : (place : ℕ) (d : SlotCount) → l.count-index ≤ place → get_or l.counts place d ≡ get_or l.initial.counts place d;
}
