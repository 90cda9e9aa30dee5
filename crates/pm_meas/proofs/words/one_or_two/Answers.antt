use Rattle.std.proofs.Common.{arith}
use Rattle.std.proofs.lemmas.Grind.{common_steps}
use Rattle.pm_base.proofs.PiecesLemmas.{length-pieces_of}
use Rattle.pm_meas.proofs.words.one_or_two.Goals as goal

pub returns-in-Some-cut_at : goal.returns-in-Some-cut_at
returns-in-Some-cut_at c = grind (arith, common_steps, (length-pieces_of 32 c.in-Some-cut_at.field-0.1.now).0)
