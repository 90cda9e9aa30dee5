use Rattle.std.proofs.Common.{map, length}
use Rattle.pm_file.specs.Report.{group_content}
use Rattle.pm_file.specs.ReportForm.{group_form}
use Rattle.pm_file.proofs.UsualListLemmas.{AreRead}
use Rattle.pm_file.proofs.usual_groups.usual_groups.Given as goal

abbrev pub invariant-loop-alloc : goal.invariant-loop-alloc
invariant-loop-alloc l = AreRead group_form (map group_content l.groups.items) l.fn.reader l.reader

abbrev pub decreases-loop-alloc : goal.decreases-loop-alloc
decreases-loop-alloc l = length l.reader
