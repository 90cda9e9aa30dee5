use Rattle.std.proofs.Common.{length, take, []}
use Rattle.std.specs.List.{flat_map}
use Rattle.pm_inventory.specs.Inventory.{slots}
use Rattle.pm_jobs.specs.Numbered.{AreBelow}
use Rattle.pm_close.specs.Parts.{AreWithin}
use Rattle.pm_close.specs.Measures.{AddsReads, quantities_with}
use Rattle.pm_close.proofs.measures.measures_asked.Given as goal

abbrev pub invariant-loop-class : goal.invariant-loop-class
invariant-loop-class l = record {
  reads : AreBelow (length l.inventory.measures) l.metrics
      → AddsReads l.inventory [] (flat_map (quantities_with l.inventory l.metrics l.objects) (take l.class-index l.class-items))
      l.measures.items;
  within : AreWithin (length (slots l.inventory)) l.measures.items;
}
