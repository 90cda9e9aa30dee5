use Rattle.std.proofs.Common.{◌≡◌, length, map}
use Rattle.std.specs.List.{starts_with}
use Rattle.pm_dn.specs.Name.{part_of}
use Rattle.pm_dn.specs.Tree.{is_under, part_eq}
use Rattle.pm_dn.proofs.plain.is_under.Given as goal

abbrev pub invariant-loop-a : goal.invariant-loop-a
invariant-loop-a l = is_under l.root l.name ≡ starts_with part_eq (map part_of l.names) (map part_of l.roots)

abbrev pub decreases-loop-a : goal.decreases-loop-a
decreases-loop-a l = length l.roots
