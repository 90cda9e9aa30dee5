use Rattle.std.proofs.Common.{◌≡◌, ◌≤◌, length, take}
use Rattle.pm_dn.specs.Tree.{objects_of}
use Rattle.pm_inventory.proofs.inventory.objects_before.Given as goal

abbrev pub invariant-loop-object : goal.invariant-loop-object
invariant-loop-object l = record {
  count : l.count ≡ length (objects_of (take l.object l.tree) l.class);
  most : l.count ≤ l.object;
}
