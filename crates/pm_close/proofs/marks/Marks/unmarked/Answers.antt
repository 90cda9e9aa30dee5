use Rattle.std.proofs.Common.{refl}
use Rattle.pm_close.proofs.MarkLemmas.{none-set, unmarked-stands}
use Rattle.pm_close.proofs.marks.Marks.unmarked.Goals as goal

pub returns-clause-stands : goal.returns-clause-stands
returns-clause-stands c =
    λ terms h w none. unmarked-stands terms h w c.args.granularity c.args.tick _ c.requires.some refl refl (none-set 60) none

pub returns-clause-none : goal.returns-clause-none
returns-clause-none c = none-set 60
