use Rattle.pm_notice.proofs.NamePassLemmas.{is_file_name-says}
use Rattle.pm_notice.proofs.NameTestLemmas.{says-is_file_name}
use Rattle.pm_notice.proofs.law.file_names_are_told.Goals as goal

pub returns : goal.returns
returns c = λ s. (says-is_file_name s, is_file_name-says s)
