use Rattle.std.proofs.Common.{sym}
use Rattle.pm_dn.specs.Name.{is_equals}
use Rattle.pm_dn.proofs.PieceLemmas.{before_first-all}
use Rattle.pm_dn.proofs.containment.class_word.Goals as goal

pub returns-in-None : goal.returns-in-None
returns-in-None c = sym (before_first-all is_equals c.args.piece.now c.in-None.ensures)
