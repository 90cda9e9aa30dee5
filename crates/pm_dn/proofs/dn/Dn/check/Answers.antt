use Rattle.std.proofs.Common.{refl, sym}
use Rattle.pm_dn.specs.Name.{name_of}
use Rattle.pm_dn.proofs.NameLemmas.{no_name, IsNameOf-name_of, name_refusal-memory}
use Rattle.pm_dn.proofs.dn.Dn.check.Goals as goal

pub returns-in-Some-clause-named : goal.returns-in-Some-clause-named
returns-in-Some-clause-named c = (λ false'. cc, λ named. absurd (no_name c.args.bytes.now c.in-Some.code (sym c.in-Some.ensures) named.0 named.1))

pub returns-in-Some-clause-no_memory : goal.returns-in-Some-clause-no_memory
returns-in-Some-clause-no_memory c = λ same. name_refusal-memory c.args.bytes.now c.in-Some.code (sym c.in-Some.ensures) cc

pub returns-in-None-clause-named : goal.returns-in-None-clause-named
returns-in-None-clause-named c = (λ _. (name_of c.args.bytes.now, IsNameOf-name_of c.args.bytes.now (sym c.in-None.ensures)), λ _. refl)
