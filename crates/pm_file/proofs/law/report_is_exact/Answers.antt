use Rattle.pm_file.proofs.ExactLemmas.{report_exact}
use Rattle.pm_file.proofs.law.report_is_exact.Goals as goal

pub returns : goal.returns
returns c = report_exact
