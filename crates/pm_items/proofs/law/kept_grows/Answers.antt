use Rattle.pm_items.proofs.PrefixLemmas.{kept_grows}
use Rattle.pm_items.proofs.law.kept_grows.Goals as goal

pub returns : goal.returns
returns c = kept_grows
