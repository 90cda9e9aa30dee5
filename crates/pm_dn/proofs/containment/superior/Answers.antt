use Rattle.std.proofs.Common.{sym}
use Rattle.pm_dn.proofs.PrefixLemmas.{superior-some, superior-none}
use Rattle.pm_dn.proofs.containment.superior.Goals as goal

pub returns-in-Some : goal.returns-in-Some
returns-in-Some c = superior-some c.args.name.now c.in-Some.comma c.requires c.in-Some.ensures

pub returns-in-None : goal.returns-in-None
returns-in-None c = sym (superior-none c.args.name.now c.in-None.ensures)
