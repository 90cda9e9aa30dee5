use Rattle.std.proofs.Common.{◌≡◌, ◌<◌, ℕ, [], true, length, take, get_or}
use Rattle.pm_base.specs.declared.Class.{Class}
use Rattle.pm_dn.specs.Containment.{has_path_to}
use Rattle.pm_dn.specs.Tree.{objects_of}
use Rattle.pm_inventory.proofs.inventory.places.Given as goal

abbrev pub invariant-loop-object : goal.invariant-loop-object
invariant-loop-object l = record {
  many : length l.places.items ≡ l.object;
  each : (k : ℕ) (class : Class) → k < l.object → has_path_to class (get_or l.tree k []) ≡ true → get_or l.places.items k 0 ≡ length (objects_of (take k l.tree) class);
}
