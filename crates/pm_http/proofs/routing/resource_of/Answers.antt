use Rattle.pm_http.proofs.RouteLemmas.{named_by_text}
use Rattle.pm_http.proofs.routing.resource_of.Goals as goal

pub returns-in-Ok : goal.returns-in-Ok
returns-in-Ok c =
    named_by_text c.kind_of.result c.in-Ok.text.now c.args.path.now c.kind_of.ensures c.in-Ok.ensures.cases.0 c.in-Ok.ensures.cases.1
