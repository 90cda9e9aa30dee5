use Rattle.std.proofs.Common.{take}
use Rattle.pm_ready.specs.Whole.{AreInRange}
use Rattle.pm_ready.proofs.whole.read_values.Given as goal

abbrev pub invariant-loop-part : goal.invariant-loop-part
invariant-loop-part l = AreInRange (take l.part-index l.parts)
