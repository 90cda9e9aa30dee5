use Rattle.pm_outside.proofs.LineLemmas.{none_at_all_take}
use Rattle.pm_outside.proofs.line.find_last_line.Goals as goal

pub returns-then-held-gt-MOST_LINE : goal.returns-then-held-gt-MOST_LINE
returns-then-held-gt-MOST_LINE c = (c.if-held-gt-MOST_LINE.true, none_at_all_take 2049 c.args.held.now c.requires)
