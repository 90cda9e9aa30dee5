use Rattle.pm_close.proofs.FileLemmas.{due-is-file}
use Rattle.pm_close.proofs.law.due_is_file.Goals as goal

pub returns : goal.returns
returns c = due-is-file
