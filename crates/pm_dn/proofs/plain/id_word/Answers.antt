use Rattle.std.proofs.Common.{sym}
use Rattle.pm_dn.specs.Name.{is_equals}
use Rattle.pm_dn.proofs.PieceLemmas.{after_first-none}
use Rattle.pm_dn.proofs.plain.id_word.Goals as goal

pub returns-in-None : goal.returns-in-None
returns-in-None c = sym (after_first-none is_equals c.args.piece.now c.in-None.ensures)
