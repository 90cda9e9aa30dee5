-- What is kept of a job once its plan is enacted.
use Rattle.std.proofs.Common.{◌≡◌, ℕ, ◌*◌, ◌++◌, List, [], length, sym, ap, subst, ◌∙◌, arith}
use Rattle.pm_history.specs.declared.entry.Side.{Side}
use Rattle.pm_history.specs.History.{History}
use Rattle.pm_history.specs.Terms.{Terms}
use Rattle.pm_history.specs.Standing.{Making}
use Rattle.pm_history.specs.Counted.{some_counted}
use Rattle.pm_close.specs.declared.marks.Marks.{Marks}
use Rattle.pm_close.specs.declared.part.PartValues.{PartValues}
use Rattle.pm_close.specs.declared.report.OpenReport.{OpenReport}
use Rattle.pm_close.specs.Marks.{MarksStand}
use Rattle.pm_close.specs.Reports.{AreParts, ReportStands}

-- the parts of the plan come after the earlier ones
pub enacted-stands : (terms : Side → List ℕ → Terms) (h : History) (w : Making) (t : Terms) (tick : ℕ) (earlier : List PartValues)
    (plan new : OpenReport)
    → new.begin ≡ plan.begin → new.earlier ≡ 0 → new.parts.items ≡ earlier ++ plan.parts.items → new.counted ≡ plan.counted
    → new.marks ≡ plan.marks
    → ReportStands terms h w t tick earlier plan → ReportStands terms h w t tick [] new
enacted-stands terms h w t tick earlier plan new begin_is earlier_is parts_are counted_is marks_are stand =
    let long : length new.parts.items ≡ length (earlier ++ plan.parts.items) = ap length parts_are in
    let ticks : length new.parts.items * t.granularity ≡ length (earlier ++ plan.parts.items) * t.granularity =
    ap (λ n. n * t.granularity) long in
    let at = stand.at in
    let unfinished = stand.unfinished in
    let marks_begin : new.marks.begin ≡ plan.marks.begin = ap (λ (m : Marks). m.begin) marks_are in
    record {
      reports = stand.reports;
      begins = begin_is ∙ stand.begins;
      earlier_are = earlier_is;
      marks = subst (MarksStand terms h w t.granularity tick) (sym marks_are) stand.marks;
      at = omega (arith, marks_begin, at, begin_is, ticks);
      unfinished = omega (arith, unfinished, long);
      parts =
          subst (λ b. AreParts terms h w t b new.parts.items) (sym begin_is)
          (subst (AreParts terms h w t plan.begin) (sym parts_are) stand.parts);
      counted = counted_is ∙ (stand.counted ∙ (λ i. some_counted terms h w (sym begin_is i) (sym ticks i)));
    }
