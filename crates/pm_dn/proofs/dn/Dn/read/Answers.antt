use Rattle.std.proofs.Common.{◌≡◌, sym, subst}
use Rattle.pm_dn.specs.Name.{IsNameOf, name_of}
use Rattle.pm_dn.proofs.NameLemmas.{IsNameOf-name_of, IsNameOf-unique}
use Rattle.pm_dn.proofs.dn.Dn.read.Goals as goal

pub returns-in-Ok-clause-read : goal.returns-in-Ok-clause-read
returns-in-Ok-clause-read c =
    subst (λ text. IsNameOf c.args.bytes.now (name_of text)) (sym c.in-Ok.ensures) (IsNameOf-name_of c.args.bytes.now c.in_ok-check.ensures.first_rule)

pub returns-in-Ok-clause-alone : goal.returns-in-Ok-clause-alone
returns-in-Ok-clause-alone c = λ other is.
    subst (λ text. other ≡ name_of text) (sym c.in-Ok.ensures)
    (IsNameOf-unique c.args.bytes.now other (name_of c.args.bytes.now) is (IsNameOf-name_of c.args.bytes.now c.in_ok-check.ensures.first_rule))
