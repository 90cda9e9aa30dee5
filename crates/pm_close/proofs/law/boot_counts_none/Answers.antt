use Rattle.pm_history.proofs.StandingLemmas.{is_counted-boot}
use Rattle.pm_close.proofs.law.boot_counts_none.Goals as goal

pub returns : goal.returns
returns c = is_counted-boot
