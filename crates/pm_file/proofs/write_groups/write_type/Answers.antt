use Rattle.pm_file.specs.ReportForm.{type_form}
use Rattle.pm_file.proofs.Utf8Lemmas.{measure_name-utf8}
use Rattle.pm_file.proofs.write_groups.write_type.Goals as goal

pub text_token-requires : goal.text_token-requires
unfolding type_form
text_token-requires c = rw c.as_bytes.ensures.value (measure_name-utf8 c.args.name.now c.requires)

pub returns : goal.returns
unfolding type_form
returns c = rw c.as_bytes.ensures.value at c.text_token.ensures
