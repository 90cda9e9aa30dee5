use Rattle.std.proofs.Common.{◌∙◌}
use Rattle.pm_form.proofs.NameLemmas.{same_test}
use Rattle.pm_notice.proofs.NamePassLemmas.{is_file_name-says}
use Rattle.pm_notice.proofs.NameTestLemmas.{says-is_file_name}
use Rattle.pm_notice.proofs.file_name.is_file_name.Goals as goal

pub returns : goal.returns
returns c = c.is_ok.ensures.value ∙ same_test _ _ c.check.ensures.name (says-is_file_name c.args.bytes.now) (is_file_name-says c.args.bytes.now)
