use Rattle.pm_http.proofs.ResourceLemmas.{kind_found, kind_missing, bytes_from}
use Rattle.pm_http.proofs.resource.find.Goals as goal

pub returns-in-Ok : goal.returns-in-Ok
returns-in-Ok c =
    kind_found c.args.path.now c.args.router.now _ (bytes_from c.args.path.now c.type_inv.path) c.requires c.in-Ok.ensures.found

pub returns-in-Err : goal.returns-in-Err
returns-in-Err c =
    λ k is. kind_missing c.args.path.now c.args.router.now k (bytes_from c.args.path.now c.type_inv.path) c.requires c.in-Err.ensures.missing is
