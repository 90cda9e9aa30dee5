use Rattle.std.proofs.Common.{ap, ◌∙◌}
use Rattle.pm_history.specs.Value.{is_suspect}
use Rattle.pm_close.proofs.PartLemmas.{values-are}
use Rattle.pm_close.proofs.part.PartValues.of.Goals as goal

pub returns : goal.returns
returns c =
    λ terms slots h w quantities granularity end knows reads stand.
    record {
      values =
          values-are c.args.kept.now c.args.row.now c.args.measures.now c.args.period.now c.in_ok-values.values.items
          terms slots h w quantities granularity end c.in_ok-values.ensures.each c.in_ok-values.ensures.as_many knows reads stand;
      suspect = c.is_suspect-suspect.ensures.counted terms h w stand.counted
          ∙ ap (is_suspect terms h w c.args.period.now.begin) stand.whole;
    }
