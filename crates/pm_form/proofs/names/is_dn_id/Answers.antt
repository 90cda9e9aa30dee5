use Rattle.pm_form.specs.Names.{dn_id}
use Rattle.pm_form.proofs.NameLemmas.{same_test, IsDnId-dn_id, dn_id-IsDnId}
use Rattle.pm_form.proofs.names.is_dn_id.Goals as goal

pub returns : goal.returns
returns c =
    let s = c.args.bytes.now in same_test c.is_dn_id.result (dn_id s) c.is_dn_id.ensures (IsDnId-dn_id s) (dn_id-IsDnId s)
