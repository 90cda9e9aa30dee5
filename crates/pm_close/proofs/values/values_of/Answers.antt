use Rattle.std.proofs.Common.{◌+◌, ◌∷◌, [], length, subst, sym, ap, ◌∙◌}
use Rattle.std.proofs.lemmas.List.{length-append}
use Rattle.pm_close.specs.Parts.{AreValues}
use Rattle.pm_close.proofs.PartLemmas.{AreValues-more}
use Rattle.pm_close.proofs.values.values_of.Goals as goal

pub loop-k-preserved : goal.loop-k-preserved
loop-k-preserved c =
    let before = c.loop-k.invariant in
    let pushed = c.in_ok-push.ensures in
    record {
      as_many =
          ap length pushed.items
          ∙ (length-append c.loop-k.values.items (c.period_value.result ∷ []) ∙ ap (λ n. n + 1) before.as_many);
      each =
          subst (AreValues c.args.kept.now c.args.row.now c.args.measures.now c.args.period.now) (sym pushed.items)
          (AreValues-more c.args.kept.now c.args.row.now c.args.measures.now c.args.period.now c.loop-k.values.items
          c.period_value.result c.loop-k.k
          before.as_many c.period_value.ensures before.each);
    }
