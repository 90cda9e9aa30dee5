use Rattle.std.proofs.Common.{sym, ◌∙◌}
use Rattle.pm_file.proofs.BodyLemmas.{rises_short}
use Rattle.pm_file.proofs.agreement.classes_rise.Goals as goal

pub returns : goal.returns
returns c = sym (c.loop-rest.invariant ∙ rises_short c.loop-rest.rest.now c.in_default.len_below)
