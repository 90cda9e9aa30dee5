use Rattle.std.proofs.Common.{length}
use Rattle.pm_file.specs.ReportForm.{type_form}
use Rattle.pm_file.proofs.UsualListLemmas.{AreRead}
use Rattle.pm_file.proofs.usual_groups.usual_types.Given as goal

abbrev pub invariant-loop-alloc : goal.invariant-loop-alloc
invariant-loop-alloc l = AreRead type_form l.types.items l.fn.reader l.reader

abbrev pub decreases-loop-alloc : goal.decreases-loop-alloc
decreases-loop-alloc l = length l.reader
