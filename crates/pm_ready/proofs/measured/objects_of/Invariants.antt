use Rattle.std.proofs.Common.{◌≡◌, take}
use Rattle.std.specs.List.{filter}
use Rattle.pm_asked.specs.Asked.{is_of_class}
use Rattle.pm_ready.proofs.measured.objects_of.Given as goal

abbrev pub invariant-loop-object : goal.invariant-loop-object
invariant-loop-object l = l.found.items ≡ filter (is_of_class l.inventory l.class) (take l.object-index l.objects)
