use Rattle.std.proofs.Common.{◌≡◌, ◌+◌, ◌%◌, ◌≤◌, refl, sym, subst}
use Rattle.pm_history.proofs.DistinctLemmas.{each-append}
use Rattle.pm_ready.specs.Shape.{terms_of}
use Rattle.pm_ready.specs.Whole.{HasValues}
use Rattle.pm_ready.proofs.StepLemmas.{each-back}
use Rattle.pm_ready.proofs.whole.is_whole.Goals as goal

pub returns : goal.returns
returns c =
    let t = terms_of c.args.shape.now in
    let span = c.if-not-is_span.ensures.0 refl in
    let period = sym c.args.shape.now.product in (
      λ passes.
          record {
            many = c.if-not-are_many.ensures.0 refl;
            values = each-append (HasValues t) c.args.earlier.now c.args.parts.now (c.if-not-have_values.ensures.0 refl) (c.have_values-2.ensures.0 passes);
            aligned = subst (λ n. c.args.begin % n ≡ 0) period span.0;
            end = subst (λ n. c.args.begin + n ≤ 4223371679) period span.1;
          },
      λ whole. c.have_values-2.ensures.1 (each-back (HasValues t) c.args.earlier.now c.args.parts.now whole.values),
    )
