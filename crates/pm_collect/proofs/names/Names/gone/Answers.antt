use Rattle.std.proofs.Common.{refl}
use Rattle.pm_collect.proofs.NamesLemmas.{makes_dropped}
use Rattle.pm_collect.proofs.names.Names.gone.Goals as goal

pub returns-clause-dropped : goal.returns-clause-dropped
returns-clause-dropped c = makes_dropped _ _ c.args.name.now c.remove.ensures.updates refl
