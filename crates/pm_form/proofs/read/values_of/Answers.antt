use Rattle.std.proofs.Common.{map}
use Rattle.serde_json.specs.View.{view}
use Rattle.pm_form.proofs.ReadLemmas.{values_found}
use Rattle.pm_form.proofs.read.values_of.Goals as goal

pub returns : goal.returns
returns c =
    rw c.values.ensures.rest
    (values_found (view c.args.value.now) c.in-Some.members.now.entries (map (λ k. k.now) c.args.keys.now) c.in-Some.ensures c.if-not-has_keys.ensures)
