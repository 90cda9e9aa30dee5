use Rattle.pm_close.proofs.GapLemmas.{files_at-gap, file_of-boot, files-boot}
use Rattle.pm_close.proofs.law.gaps_have_no_files.Goals as goal

pub returns : goal.returns
returns c = record { stretch = files_at-gap; item = file_of-boot; all = files-boot }
