use Rattle.serde_json.specs.View.{view}
use Rattle.pm_form.proofs.ReadLemmas.{json_of_read, json_of_none, not_memory}
use Rattle.pm_form.proofs.read.json_tree.Goals as goal

pub returns-in-Ok : goal.returns-in-Ok
returns-in-Ok c = json_of_read c.args.bytes.now (view c.in-Ok.value) c.in-Ok.ensures.ok.0 c.in-Ok.ensures.ok.1

pub returns-else-is_memory : goal.returns-else-is_memory
returns-else-is_memory c =
    json_of_none c.args.bytes.now (c.in-Err.ensures.err (not_memory c.is_memory.result c.is_memory.ensures c.if-is_memory.false))
