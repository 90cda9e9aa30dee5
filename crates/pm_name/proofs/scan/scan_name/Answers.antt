use Rattle.pm_name.proofs.NameLemmas.{read-name}
use Rattle.pm_name.proofs.scan.scan_name.Goals as goal

pub returns : goal.returns
returns c =
    read-name _ _ _ _ _ _ _ (record { behind = _; before = c.in_ok-times.ensures; id = c.in-Some.ensures }) c.in-Some-unique_id.ensures
