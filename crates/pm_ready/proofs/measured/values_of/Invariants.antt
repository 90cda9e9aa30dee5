use Rattle.std.proofs.Common.{◌≡◌, ◌+◌, ◌≤◌, length, drop}
use Rattle.std.specs.List.{flat_map}
use Rattle.pm_close.specs.Parts.{quantities_on}
use Rattle.pm_ready.proofs.measured.values_of.Given as goal

abbrev pub invariant-loop-object : goal.invariant-loop-object
invariant-loop-object l = record {
  within : l.count ≤ l.most;
  left : l.count + length (flat_map (quantities_on l.measured.metrics.items) (drop l.object-index l.measured.objects.items))
      ≡ length (flat_map (quantities_on l.measured.metrics.items) l.measured.objects.items);
}
