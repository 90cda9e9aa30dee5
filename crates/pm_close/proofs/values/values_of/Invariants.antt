use Rattle.std.proofs.Common.{◌≡◌, length}
use Rattle.pm_close.specs.Parts.{AreValues}
use Rattle.pm_close.proofs.values.values_of.Given as goal

abbrev pub invariant-loop-k : goal.invariant-loop-k
invariant-loop-k l = record {
  as_many : length l.values.items ≡ l.k;
  each : AreValues l.kept l.row l.measures l.period l.values.items;
}
