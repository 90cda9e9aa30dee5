use Rattle.std.proofs.Common.{◌++◌}
use Rattle.pm_ready.proofs.FileWholeLemmas.{file-whole}
use Rattle.pm_ready.proofs.due.report_file.Goals as goal

pub returns : goal.returns
returns c =
    λ h is keeps has. c.whole_file.ensures keeps (file-whole c.args.inventory.now c.args.job.now c.args.begin (c.args.earlier.now ++ c.args.parts.now) h is keeps has)
