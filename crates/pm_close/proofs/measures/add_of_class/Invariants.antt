use Rattle.std.proofs.Common.{length, take}
use Rattle.pm_inventory.specs.Inventory.{slots}
use Rattle.pm_jobs.specs.Numbered.{AreBelow}
use Rattle.pm_close.specs.Parts.{AreWithin}
use Rattle.pm_close.specs.Measures.{AddsReads, quantities_with}
use Rattle.pm_close.proofs.measures.add_of_class.Given as goal

abbrev pub invariant-loop-object : goal.invariant-loop-object
invariant-loop-object l = record {
  reads : AreBelow (length l.inventory.measures) l.metrics
      → AddsReads l.inventory l.initial.measures.items (quantities_with l.inventory l.metrics (take l.object-index l.objects) l.class) l.measures.items;
  within : AreWithin (length (slots l.inventory)) l.initial.measures.items
      → AreWithin (length (slots l.inventory)) l.measures.items;
}
