use Rattle.std.proofs.Common.{refl, ◌∙◌}
use Rattle.pm_close.proofs.ReportLemmas.{planned-stands}
use Rattle.pm_close.proofs.report.OpenReport.plan.Goals as goal

pub returns-clause-stands : goal.returns-clause-stands
returns-clause-stands c =
    λ terms h w t tick stand.
    planned-stands terms h w t tick c.args.self.now _ refl (c.len.ensures ∙ c.args.self.now.parts.ok.0) c.new.ensures.items refl
    refl stand
