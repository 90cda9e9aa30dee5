use Rattle.std.proofs.Common.{map, length}
use Rattle.pm_file.specs.Report.{row_content}
use Rattle.pm_file.specs.ReportForm.{row_form}
use Rattle.pm_file.proofs.UsualListLemmas.{AreRead}
use Rattle.pm_file.proofs.usual_groups.usual_rows.Given as goal

abbrev pub invariant-loop-alloc : goal.invariant-loop-alloc
invariant-loop-alloc l = AreRead row_form (map row_content l.rows.items) l.fn.reader l.reader

abbrev pub decreases-loop-alloc : goal.decreases-loop-alloc
decreases-loop-alloc l = length l.reader
