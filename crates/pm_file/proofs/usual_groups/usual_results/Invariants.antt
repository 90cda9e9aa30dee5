use Rattle.std.proofs.Common.{length}
use Rattle.pm_file.specs.ReportForm.{result_form}
use Rattle.pm_file.proofs.UsualListLemmas.{AreRead}
use Rattle.pm_file.proofs.usual_groups.usual_results.Given as goal

abbrev pub invariant-loop-reader : goal.invariant-loop-reader
invariant-loop-reader l = AreRead result_form l.results.items l.fn.reader l.reader

abbrev pub decreases-loop-reader : goal.decreases-loop-reader
decreases-loop-reader l = length l.reader
