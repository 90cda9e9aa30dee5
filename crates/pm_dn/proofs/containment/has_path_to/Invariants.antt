use Rattle.std.proofs.Common.{◌≡◌, drop, map}
use Rattle.std.specs.Str.{bytes_eq}
use Rattle.std.specs.Cmp.Lexicographic.{pointwise}
use Rattle.pm_base.specs.Class.{class_name}
use Rattle.pm_dn.specs.Name.{Part, part_of}
use Rattle.pm_dn.specs.Containment.{has_path_to}
use Rattle.pm_dn.proofs.containment.has_path_to.Given as goal

abbrev pub invariant-loop-step : goal.invariant-loop-step
invariant-loop-step l =
    has_path_to l.fn.class l.name ≡ pointwise bytes_eq (map (λ (part : Part). part.class) (map part_of l.pieces)) (map class_name (drop l.step-index l.step-items))
