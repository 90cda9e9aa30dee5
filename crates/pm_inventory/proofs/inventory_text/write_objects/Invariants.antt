use Rattle.std.proofs.Common.{◌≡◌, ◌++◌, take, map}
use Rattle.pm_base.specs.WholeLines.{text_of_lines}
use Rattle.pm_inventory.specs.Inventory.{object_line}
use Rattle.pm_inventory.proofs.inventory_text.write_objects.Given as goal

abbrev pub invariant-loop-object : goal.invariant-loop-object
invariant-loop-object l = l.text.items ≡ l.initial.text.items ++ text_of_lines (map object_line (take l.object l.tree))
