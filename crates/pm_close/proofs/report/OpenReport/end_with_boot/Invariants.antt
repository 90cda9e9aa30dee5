use Rattle.std.proofs.Common.{◌≡◌, ◌≤◌, ◌<◌, ◌+◌, ℕ, List, length}
use Rattle.pm_inventory.specs.Inventory.{SlotKey}
use Rattle.pm_history.specs.declared.entry.Side.{Side}
use Rattle.pm_history.specs.History.{History}
use Rattle.pm_history.specs.Terms.{Terms}
use Rattle.pm_history.specs.Standing.{Making}
use Rattle.pm_close.specs.declared.part.PartValues.{PartValues}
use Rattle.pm_close.specs.Marks.{NoneCounted}
use Rattle.pm_close.specs.Values.{IsCovered, KnowsCells}
use Rattle.pm_close.specs.Parts.{ReadEach, quantities_of}
use Rattle.pm_close.specs.Reports.{ReportStands, NoneDue}
use Rattle.pm_close.proofs.report.OpenReport.end_with_boot.Given as goal

abbrev pub invariant-loop-t : goal.invariant-loop-t
invariant-loop-t l = record {
  reach : l.self.marks.begin + l.self.marks.count ≡ l._t;
  within : l.self.marks.count < l.granularity;
  from : l.fn.self.marks.begin + l.fn.self.marks.count ≤ l._t;
  covered : IsCovered l.kept l.self.marks;
  unfinished : l.fn.self.earlier + length l.fn.self.parts.items < l.parts
      → l.self.earlier + length l.self.parts.items < l.parts;
  stand : (terms : Side → List ℕ → Terms) (slots : List SlotKey) (h : History) (w : Making) (t : Terms) (from : ℕ)
      (earlier : List PartValues)
      → KnowsCells slots h l.kept l.row → ReadEach slots l.measures (quantities_of t.measured)
      → t.granularity ≡ l.granularity → t.parts ≡ l.parts
      → ReportStands terms h w t from earlier l.fn.self → NoneCounted terms h w from l.tick
      → ReportStands terms h w t l._t earlier l.self × NoneDue terms h w t from l._t;
}
