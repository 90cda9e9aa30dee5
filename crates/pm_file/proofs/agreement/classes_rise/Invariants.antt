use Rattle.std.proofs.Common.{◌≡◌, map, length}
use Rattle.pm_file.specs.Report.{group_content}
use Rattle.pm_file.specs.Agreement.{classes_rise}
use Rattle.pm_file.proofs.agreement.classes_rise.Given as goal

abbrev pub invariant-loop-rest : goal.invariant-loop-rest
invariant-loop-rest l = classes_rise (map group_content l.fn.groups) ≡ classes_rise (map group_content l.rest)

abbrev pub decreases-loop-rest : goal.decreases-loop-rest
decreases-loop-rest l = length l.rest
