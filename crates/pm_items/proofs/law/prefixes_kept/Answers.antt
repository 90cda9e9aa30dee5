use Rattle.pm_items.proofs.PrefixLemmas.{prefixes_kept}
use Rattle.pm_items.proofs.law.prefixes_kept.Goals as goal

pub returns : goal.returns
returns c = prefixes_kept
