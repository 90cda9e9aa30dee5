use Rattle.std.proofs.lemmas.Result.{err_from_is_err_and}
use Rattle.pm_name.proofs.FileNameLemmas.{IsFileName-one_name}
use Rattle.pm_name.proofs.RefusalLemmas.{refused-exact, memory-exact, Refuses-no_name}
use Rattle.pm_name.proofs.name.FileName.read.Goals as goal

pub returns-in_err-scan-clause-refused : goal.returns-in_err-scan-clause-refused
returns-in_err-scan-clause-refused c =
    let p = err_from_is_err_and c.from_residual.result c.from_residual.ensures.1 in
    λ e other. refused-exact _ _ c.in_err-scan.field-0.0 e (rw (← p.2) p.1) c.in_err-scan.ensures

pub returns-in_err-job-clause-refused : goal.returns-in_err-job-clause-refused
returns-in_err-job-clause-refused c =
    let p = err_from_is_err_and c.from_residual-in_err-job.result c.from_residual-in_err-job.ensures.1 in
    λ e other. memory-exact _ _ e (rw (← c.in_err-job.ensures, ← p.2) p.1) (_, c.in_ok-scan.ensures) other

pub returns-in_err-unique-clause-refused : goal.returns-in_err-unique-clause-refused
returns-in_err-unique-clause-refused c =
    let p = err_from_is_err_and c.from_residual-in_err-unique.result c.from_residual-in_err-unique.ensures.1 in
    λ e other. memory-exact _ _ e (rw (← c.in_err-unique.ensures, ← p.2) p.1) (_, c.in_ok-scan.ensures) other

pub returns-clause-refused : goal.returns-clause-refused
returns-clause-refused c =
    λ e other. (λ same. cc, λ refused. absurd (Refuses-no_name _ e refused (_, c.in_ok-scan.ensures)))

pub returns-clause-only : goal.returns-clause-only
returns-clause-only c =
    λ other is. rw (c.in_ok-job.ensures, c.in_ok-unique.ensures) (IsFileName-one_name _ other _ is c.in_ok-scan.ensures)
