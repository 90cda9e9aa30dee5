-- What a value sequence takes of a granularity period that ends, where its value is known.
use Rattle.std.proofs.Common.{◌≡◌, ℕ, ◌+◌, List, Bool, Option, slice_index_or, refl, sym, ◌∙◌}
use Rattle.pm_meas.specs.declared.cell.Cell.{Cell}
use Rattle.pm_inventory.specs.Inventory.{SlotKey}
use Rattle.pm_history.specs.declared.entry.Side.{Side}
use Rattle.pm_history.specs.declared.metric.Metric.{Metric}
use Rattle.pm_history.specs.History.{History}
use Rattle.pm_history.specs.Terms.{Terms}
use Rattle.pm_history.specs.Standing.{Making}
use Rattle.pm_history.specs.Value.{is_suspect}
use Rattle.pm_history.specs.Notices.{value_at}
use Rattle.pm_close.specs.declared.cells.TickCells.{TickCells}
use Rattle.pm_close.specs.declared.marks.Marks.{Marks}
use Rattle.pm_close.specs.Values.{IsValue}
use Rattle.pm_close.specs.Flags.{taken}
use Rattle.pm_close.specs.Watched.{PeriodEnds}
use Rattle.pm_close.proofs.FlagLemmas.{value_at-period}

pub value-taken : (terms : Side → List ℕ → Terms) (slots : List SlotKey) (h : History) (w : Making) (granularity armed tick : ℕ)
    (kept : TickCells) (row : List Cell) (period : Marks) (object slot : ℕ) (m : Metric) (value : Option ℕ) (suspect : Bool)
    → PeriodEnds terms slots h w granularity armed tick kept row period
    → ((d : SlotKey) → slice_index_or slots slot d ≡ record { object = object; metric = m.number })
    → IsValue kept row slot period m.reduce value
    → suspect ≡ is_suspect terms h w period.begin granularity
    → value_at terms h w granularity object m (tick + 1) ≡ taken value suspect
value-taken terms slots h w granularity armed tick kept row period object slot m value suspect ends reads is suspect_is =
    let value_is = is terms slots h w (record { object = object; metric = m.number }) m granularity (tick + 1) ends.knows
    (reads _) refl refl ends.whole in
    value_at-period terms h w granularity object m (tick + 1) period ends.whole
    ∙ (λ i. taken (sym value_is i) (sym suspect_is i))
