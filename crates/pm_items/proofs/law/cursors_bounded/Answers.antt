use Rattle.pm_items.proofs.CursorLemmas.{cursors_bounded}
use Rattle.pm_items.proofs.law.cursors_bounded.Goals as goal

pub returns : goal.returns
returns c = cursors_bounded
