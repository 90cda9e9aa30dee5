use Rattle.std.proofs.Common.{◌≡◌, ◌+◌, map, length, drop}
use Rattle.pm_close.specs.Parts.{quantities_of}
use Rattle.pm_ready.specs.Measured.{measured_of}
use Rattle.pm_ready.proofs.whole.are_enough.Given as goal

abbrev pub invariant-loop-class : goal.invariant-loop-class
invariant-loop-class l =
    l.values + length (quantities_of (map measured_of (drop l.class-index l.measured))) ≡ l.left + length (quantities_of (map measured_of l.measured))
