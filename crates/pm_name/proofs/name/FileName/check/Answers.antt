use Rattle.pm_name.proofs.RefusalLemmas.{refused-exact, Refuses-no_name}
use Rattle.std.proofs.Common.{refl}
use Rattle.pm_name.proofs.name.FileName.check.Goals as goal

pub returns-in-Ok-clause-refused : goal.returns-in-Ok-clause-refused
returns-in-Ok-clause-refused c =
    λ e. (λ same. cc, λ refused. absurd (Refuses-no_name _ e refused (_, c.in-Ok.ensures)))

pub returns-in-Err-clause-name : goal.returns-in-Err-clause-name
returns-in-Err-clause-name c =
    (λ taken. cc, λ says. absurd (Refuses-no_name _ _ c.in-Err.ensures says))

pub returns-in-Err-clause-refused : goal.returns-in-Err-clause-refused
returns-in-Err-clause-refused c = λ e. refused-exact _ _ c.in-Err.e e refl c.in-Err.ensures
