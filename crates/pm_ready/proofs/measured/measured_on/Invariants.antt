use Rattle.std.proofs.Common.{◌≡◌, map, take}
use Rattle.std.specs.List.{filter, flat_map}
use Rattle.pm_base.specs.declared.class.TheConstants.{CLASSES}
use Rattle.pm_asked.specs.Asked.{Numbered, same_class, measured_of}
use Rattle.pm_jobs.specs.Numbered.{numbered}
use Rattle.pm_ready.specs.Measured as own
use Rattle.pm_ready.proofs.measured.measured_on.Given as goal

abbrev pub invariant-loop-class : goal.invariant-loop-class
invariant-loop-class l =
    map own.measured_of l.found.items
    ≡ flat_map (λ class. measured_of l.inventory l.objects class (filter (λ (m : Numbered). same_class m.1.class class) (numbered l.inventory l.metrics)))
    (take l.class-index CLASSES)
