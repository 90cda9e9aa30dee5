use Rattle.std.proofs.Common.{sym, ◌∙◌}
use Rattle.pm_collect.proofs.ItemLemmas.{differ}
use Rattle.pm_collect.proofs.report.check_name.Goals as goal

pub returns-clause-refused : goal.returns-clause-refused
returns-clause-refused c = λ _ named.
    differ c.args.name.now c.as_bytes.result.now (sym c.if-eq.ensures) (c.in-Ok.ensures.only c.args.name.now named ∙ sym c.as_bytes.ensures.value)
