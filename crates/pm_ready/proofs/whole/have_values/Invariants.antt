use Rattle.std.proofs.Common.{take}
use Rattle.pm_ready.specs.Shape.{terms_of}
use Rattle.pm_ready.specs.Whole.{HaveValues}
use Rattle.pm_ready.proofs.whole.have_values.Given as goal

abbrev pub invariant-loop-part : goal.invariant-loop-part
invariant-loop-part l = HaveValues (terms_of l.shape) (take l.part-index l.parts)
