use Rattle.std.proofs.Common.{map, length}
use Rattle.pm_file.specs.Reading.{read_part_content}
use Rattle.pm_file.specs.ReportForm.{part_form}
use Rattle.pm_file.proofs.UsualListLemmas.{AreRead}
use Rattle.pm_file.proofs.usual_body.usual_parts.Given as goal

abbrev pub invariant-loop-alloc : goal.invariant-loop-alloc
invariant-loop-alloc l = AreRead part_form (map read_part_content l.parts.items) l.fn.reader l.reader

abbrev pub decreases-loop-alloc : goal.decreases-loop-alloc
decreases-loop-alloc l = length l.reader
