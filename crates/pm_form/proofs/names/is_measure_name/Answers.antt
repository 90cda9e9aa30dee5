use Rattle.pm_form.specs.Names.{measure_name}
use Rattle.pm_form.proofs.NameLemmas.{same_test, IsMeasureName-measure_name, measure_name-IsMeasureName}
use Rattle.pm_form.proofs.names.is_measure_name.Goals as goal

pub returns : goal.returns
returns c =
    let s = c.args.bytes.now in same_test c.is_measure_name.result (measure_name s) c.is_measure_name.ensures (IsMeasureName-measure_name s) (measure_name-IsMeasureName s)
