use Rattle.pm_items.proofs.CursorLemmas.{boots_store_none}
use Rattle.pm_items.proofs.law.boots_store_none.Goals as goal

pub returns : goal.returns
returns c = boots_store_none
