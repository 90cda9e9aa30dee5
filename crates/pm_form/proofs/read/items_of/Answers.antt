use Rattle.serde_json.specs.View.{view}
use Rattle.pm_form.proofs.ReadLemmas.{items_found}
use Rattle.pm_form.proofs.read.items_of.Goals as goal

pub returns-in-Some : goal.returns-in-Some
returns-in-Some c = rw c.as_slice.ensures.value (items_found (view c.args.value.now) c.in-Some.list.now.items c.in-Some.ensures)
