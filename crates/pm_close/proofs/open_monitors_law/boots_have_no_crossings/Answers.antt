use Rattle.pm_close.proofs.BootLemmas.{no-crossings}
use Rattle.pm_close.proofs.open_monitors_law.boots_have_no_crossings.Goals as goal

pub returns : goal.returns
returns c = no-crossings
