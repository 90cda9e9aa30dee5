use Rattle.std.proofs.Common.{◌≡◌, ◌++◌, take, map}
use Rattle.pm_base.specs.WholeLines.{text_of_lines}
use Rattle.pm_inventory.specs.Inventory.{measure_line}
use Rattle.pm_inventory.proofs.inventory_text.write_measures.Given as goal

abbrev pub invariant-loop-metric : goal.invariant-loop-metric
invariant-loop-metric l = l.text.items ≡ l.initial.text.items ++ text_of_lines (map measure_line (take l.metric l.catalogue))
