use Rattle.pm_thresh.proofs.CrossingLemmas.{never_both}
use Rattle.pm_thresh.proofs.law.never_both.Goals as goal

pub returns : goal.returns
returns c = never_both
