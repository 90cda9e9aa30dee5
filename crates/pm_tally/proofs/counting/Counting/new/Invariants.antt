use Rattle.std.proofs.Common.{◌≡◌, ◌<◌, ℕ, get_or, length}
use Rattle.pm_events.specs.Event.{registers_each_at}
use Rattle.pm_tally.specs.Counting.{IsClear}
use Rattle.pm_tally.specs.declared.slot_count.SlotCount.{SlotCount}
use Rattle.pm_tally.proofs.counting.Counting.new.Given as goal

abbrev pub invariant-loop-slot : goal.invariant-loop-slot
invariant-loop-slot l = record {
  many : length l.counts.items ≡ l.slot;
  clear : (place : ℕ) (d : SlotCount) → place < l.slot → IsClear (registers_each_at l.slots place) (get_or l.counts.items place d);
}
