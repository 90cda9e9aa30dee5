use Rattle.std.proofs.Common.{◌≡◌, true, take}
use Rattle.pm_form.specs.Lists.{each_fits}
use Rattle.pm_file.specs.ReportForm.{result_form}
use Rattle.pm_ready.proofs.whole.read_part.Given as goal

abbrev pub invariant-loop-value : goal.invariant-loop-value
invariant-loop-value l = each_fits result_form.fits (take l.value-index l.values) ≡ true
