use Rattle.std.proofs.Common.{◌≡◌, ◌≤◌, ◌+◌, ◌*◌}
use Rattle.pm_close.specs.Marks.{mark_at}
use Rattle.pm_close.specs.Values.{known_cell, merged_where}
use Rattle.pm_close.proofs.value.merge_counted.Given as goal

abbrev pub invariant-loop-k : goal.invariant-loop-k
invariant-loop-k l = record {
  is : l.merged ≡ merged_where (mark_at l.period) (λ k. known_cell l.kept l.row l.slot (l.period.begin + k)) 0 l.k;
  few : l.merged.n ≤ l.k * 1073741824;
  sound : l.merged.sum ≤ l.merged.n * 1048575;
}
