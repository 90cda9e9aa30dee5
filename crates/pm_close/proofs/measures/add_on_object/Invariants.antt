use Rattle.std.proofs.Common.{length, take}
use Rattle.pm_inventory.specs.Inventory.{slots}
use Rattle.pm_jobs.specs.Numbered.{AreBelow}
use Rattle.pm_close.specs.Parts.{AreWithin}
use Rattle.pm_close.specs.Measures.{AddsReads, quantities_for}
use Rattle.pm_close.proofs.measures.add_on_object.Given as goal

abbrev pub invariant-loop-metric : goal.invariant-loop-metric
invariant-loop-metric l = record {
  reads : AreBelow (length l.inventory.measures) l.metrics
      → AddsReads l.inventory l.initial.measures.items (quantities_for l.inventory l.class (take l.metric-index l.metrics) l.object) l.measures.items;
  within : AreWithin (length (slots l.inventory)) l.initial.measures.items
      → AreWithin (length (slots l.inventory)) l.measures.items;
}
