-- What an entry leaves: cells that are kept, and marks.
use Rattle.std.proofs.Common.{◌≡◌, ℕ, suc, ◌+◌, ◌*◌, ◌≤◌, List, ◌++◌, length, map, sym, ◌∙◌, arith, suc-mul}
use Rattle.std.proofs.lemmas.Nat.{mul-le}
use Rattle.pm_base.specs.Moment.{tick_of}
use Rattle.pm_inventory.specs.Inventory.{SlotKey}
use Rattle.pm_history.specs.declared.entry.Side.{Side}
use Rattle.pm_history.specs.declared.entry.Entry.{Entry}
use Rattle.pm_history.specs.Entry.{moment_of}
use Rattle.pm_history.specs.History.{History, ◌▷◌, last_moment}
use Rattle.pm_history.specs.Terms.{Terms}
use Rattle.pm_history.specs.Standing.{Making}
use Rattle.pm_history.proofs.StayLemmas.{is_counted-stays, some_counted-stays, is_suspect-stays, measured_value-stays}
use Rattle.pm_close.specs.declared.cells.TickCells.{TickCells}
use Rattle.pm_close.specs.declared.marks.Marks.{Marks}
use Rattle.pm_close.specs.Cells.{CellsStand}
use Rattle.pm_close.specs.declared.part.PartValues.{PartValues}
use Rattle.pm_close.specs.declared.report.OpenReport.{OpenReport}
use Rattle.pm_close.specs.Marks.{MarksStand}
use Rattle.pm_close.specs.Parts.{Quantity, quantities_of}
use Rattle.pm_close.specs.Reports.{ReportStands}
use Rattle.pm_close.proofs.RowLemmas.{rows-same}
use Rattle.pm_close.proofs.EndLemmas.{row_at-stays}

pub cells-stay : (slots : List SlotKey) (h : History) (e : Entry) (kept : TickCells) → last_moment h ≤ moment_of e
    → tick_of (moment_of e) ≡ tick_of (last_moment h)
    → CellsStand slots h kept → CellsStand slots (h ▷ e) kept
cells-stay slots h e kept le same old =
    let reach = old.reach in
    record {
      wide = old.wide;
      reach = reach ∙ sym same;
      rows = old.rows ∙ sym (rows-same slots (h ▷ e) h kept.first kept.ticks
          (λ t from lt. row_at-stays slots h e t le (omega (arith, reach, lt))));
    }

pub marks-stay : (terms : Side → List ℕ → Terms) (h : History) (e : Entry) (w : Making) (granularity tick : ℕ) (marks : Marks)
    → last_moment h ≤ moment_of e → tick ≤ tick_of (last_moment h)
    → MarksStand terms h w granularity tick marks → MarksStand terms (h ▷ e) w granularity tick marks
marks-stay terms h e w granularity tick marks le over old =
    let reach = old.reach in
    record {
      periods = old.periods;
      begins = old.begins;
      reach = reach;
      within = old.within;
      counted = λ k lt. old.counted k lt
          ∙ sym (is_counted-stays terms h e w (marks.begin + k) le (omega (arith, reach, over, lt)));
    }

pub reports-stay : (terms : Side → List ℕ → Terms) (h : History) (e : Entry) (w : Making) (t : Terms) (tick : ℕ)
    (earlier : List PartValues) (report : OpenReport)
    → last_moment h ≤ moment_of e → tick ≤ tick_of (last_moment h)
    → ReportStands terms h w t tick earlier report → ReportStands terms (h ▷ e) w t tick earlier report
reports-stay terms h e w t tick earlier report le over old =
    let parts = earlier ++ report.parts.items in
    let at = old.at in
    let reach = old.marks.reach in
    record {
      reports = old.reports;
      begins = old.begins;
      earlier_are = old.earlier_are;
      marks = marks-stay terms h e w t.granularity tick report.marks le over old.marks;
      at = at;
      unfinished = old.unfinished;
      parts = λ k d lt.
          let is = old.parts k d lt in
          let one_more = suc-mul k t.granularity in
          let inside = mul-le (suc k) t.granularity (length parts) t.granularity (omega (arith, lt)) (omega arith) in
          let within : report.begin + k * t.granularity + t.granularity ≤ tick_of (last_moment h) = omega
          (arith, at, reach, over, one_more, inside) in
          record {
            values = is.values ∙ sym (λ i. map
                (λ (q : Quantity). measured_value-stays terms h e w q.object q.metric (report.begin + k * t.granularity)
                t.granularity le within i) (quantities_of t.measured));
            suspect = is.suspect ∙ sym (is_suspect-stays terms h e w (report.begin + k * t.granularity) t.granularity le within);
          };
      counted = old.counted ∙ sym (some_counted-stays terms h e w report.begin (length parts * t.granularity) le
          (omega (arith, at, reach, over)));
    }
