use Rattle.std.proofs.Common.{◌∙◌}
use Rattle.pm_close.proofs.KnownLemmas.{value_by-period}
use Rattle.pm_close.proofs.value.period_value.Goals as goal

pub returns : goal.returns
returns c =
    λ terms slots h w key metric granularity end knows at number same stand.
    c.if_some.ensures
    ∙ value_by-period c.args.kept.now c.args.row.now c.args.slot c.args.period.now c.args.reduce
    c.merge_counted-cell.result c.is_some_counted-some.result c.reduce-value.result
    terms slots h w key metric granularity end
    c.requires.slot c.requires.covered c.is_some_counted-some.ensures.marks c.merge_counted-cell.ensures
    c.reduce-value.ensures.fold
    knows at number same stand
