use Rattle.std.proofs.Common.{◌≡◌, length}
use Rattle.pm_close.specs.Parts.{AreNull}
use Rattle.pm_close.proofs.nulls.null_parts.Given as goal

abbrev pub invariant-loop : goal.invariant-loop
invariant-loop l = record {
  as_many : length l.nulls.items ≡ l.counter;
  null : AreNull l.values l.nulls.items;
}
