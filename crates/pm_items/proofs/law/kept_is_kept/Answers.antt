use Rattle.pm_items.proofs.KeptLemmas.{kept_is_kept}
use Rattle.pm_items.proofs.law.kept_is_kept.Goals as goal

pub returns : goal.returns
returns c = kept_is_kept
