use Rattle.std.proofs.Common.{◌≡◌, ◌-◌, ◌*◌, ◌/◌, ◌%◌, ◌∙◌, refl, sym, ap, subst, arith}
use Rattle.pm_history.specs.Terms.{reporting}
use Rattle.pm_close.specs.Marks.{MarksStand}
use Rattle.pm_close.specs.Parts.{AreNull}
use Rattle.pm_close.proofs.NullLemmas.{unmarked-report}
use Rattle.pm_close.proofs.report.OpenReport.unmarked.Goals as goal

pub returns-clause-stands : goal.returns-clause-stands
returns-clause-stands c =
    λ terms h w t granularity parts values none.
    let tick = c.args.tick in
    let length_is : c.args.parts * c.args.granularity ≡ reporting t = λ i. sym parts i * sym granularity i in
    let made = c.in_ok-null_parts.ensures in
    unmarked-report terms h w t tick (tick % reporting t / t.granularity) _
    (omega (arith, granularity, c.requires.some_ticks)) (omega (arith, parts, c.requires.some_parts))
    (ap (λ r. tick - tick % r) length_is) refl refl refl
    (made.as_many ∙ (λ i. tick % length_is i / sym granularity i))
    (subst (λ n. AreNull n c.in_ok-null_parts.field-0.items) (sym values) made.null)
    (c.unmarked.ensures.begin ∙ ap (λ g. tick - tick % g) (sym granularity))
    (λ uncounted. subst (λ g. MarksStand terms h w g tick c.unmarked.result) (sym granularity)
    (c.unmarked.ensures.stands terms h w uncounted))
    none
