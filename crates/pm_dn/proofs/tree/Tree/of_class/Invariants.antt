use Rattle.std.proofs.Common.{◌≡◌, take}
use Rattle.pm_dn.specs.Tree.{numbers_where}
use Rattle.pm_dn.specs.Containment.{has_path_to}
use Rattle.pm_dn.proofs.tree.Tree.of_class.Given as goal

abbrev pub invariant-loop-object : goal.invariant-loop-object
invariant-loop-object l = l.objects.items ≡ numbers_where (has_path_to l.class) (take l.object l.self)
