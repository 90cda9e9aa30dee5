use Rattle.std.proofs.Common.{◌+◌, ◌∙◌, refl, sym, ap, subst}
use Rattle.pm_history.specs.Counted.{some_counted}
use Rattle.pm_close.specs.declared.marks.Marks.{Marks}
use Rattle.pm_close.specs.Marks.{MarksStand}
use Rattle.pm_close.specs.Parts.{quantities_of, IsPart}
use Rattle.pm_close.proofs.ReportLemmas.{reaches-part}
use Rattle.pm_close.proofs.report.OpenReport.end_part.Goals as goal

pub returns-in_ok-add-clause-reaches : goal.returns-in_ok-add-clause-reaches
returns-in_ok-add-clause-reaches c =
    λ terms slots h w t tick earlier knows reads same stand mark.
    let ended = c.in-Some.ensures in
    let added = c.in_ok-add.ensures in
    let period = c.in-Some.period in
    let before = subst (λ g. MarksStand terms h w g tick c.args.self.now.marks) same stand.marks in
    let whole = ended.period terms h w tick before mark in
    let after = subst (λ g. MarksStand terms h w g (tick + 1) c.end_tick.new.self) (sym same)
    (ended.stands terms h w tick before mark) in
    let part = subst (λ g. IsPart terms h w (quantities_of t.measured) period.begin g c.in_ok-part.part) (sym same)
    (c.in_ok-part.ensures terms slots h w (quantities_of t.measured) c.args.granularity (tick + 1) knows reads whole) in
    let marks = added.marks in
    let next = ended.next refl in
    reaches-part terms h w t tick earlier c.args.self.now c.add.new.self period c.in_ok-part.part c.is_some_counted.result
    ended.marks.begin
    (ap (λ (m : Marks). m.begin) marks ∙ (next.0 ∙ ap (λ g. c.args.self.now.marks.begin + g) (sym same)))
    (ap (λ (m : Marks). m.count) marks ∙ next.1)
    added.begin added.earlier added.parts added.counted
    (subst (MarksStand terms h w t.granularity (tick + 1)) (sym marks) after)
    part
    (c.is_some_counted.ensures.counted terms h w whole.counted
    ∙ ap (some_counted terms h w period.begin) (whole.whole ∙ sym same))
    stand
