-- The value of a metric on an object over a period: the reductions are those of TS 32.404. A period is its first tick and the number of its ticks.
use Rattle.std.specs.Prelude.{ℕ, Bool, ◌&&◌, ◌==◌, not, List, [], ◌∷◌, ◌++◌, if◌then◌else◌, Option, None}
use Rattle.pm_base.specs.Moment.{tick_of}
use Rattle.pm_meas.specs.Cell.{reduced}
use Rattle.pm_history.specs.declared.entry.Side.{Side}
use Rattle.pm_history.specs.declared.entry.Entry.{Entry}
use Rattle.pm_history.specs.declared.entry.Entry.TheVariants.{Event}
use Rattle.pm_history.specs.History.{History, Start, ◌▷◌}
use Rattle.pm_history.specs.declared.metric.Metric.{Metric}
use Rattle.pm_history.specs.Terms.{Terms}
use Rattle.pm_history.specs.Ticks.{is_within}
use Rattle.pm_history.specs.Standing.{Making}
use Rattle.pm_history.specs.Counted.{is_counted, some_counted, all_counted}

-- The values of the registered events of an object and a metric whose ticks pass a test, in order.
abbrev pub value_where : ℕ → ℕ → (ℕ → Bool) → Entry → List ℕ
value_where object metric passes (Event moment o m value registered) =
    if o == object && m == metric && registered && passes (tick_of moment) then value ∷ [] else []
value_where object metric passes _ = []

abbrev pub values_where : ℕ → ℕ → (ℕ → Bool) → History → List ℕ
values_where object metric passes Start = []
values_where object metric passes (h ▷ e) = values_where object metric passes h ++ value_where object metric passes e

module _ (terms : Side → List ℕ → Terms) where
  -- The counted events: the values of those whose ticks lie in the period and are counted.
  abbrev pub counted_values : History → Making → ℕ → ℕ → ℕ → ℕ → List ℕ
  counted_values h w object metric first ticks = values_where object metric (λ tick. is_within first ticks tick && is_counted terms h w tick) h

  -- The value: null where no tick of the period is counted, else the reduction of the counted events.
  abbrev pub measured_value : History → Making → ℕ → Metric → ℕ → ℕ → Option ℕ
  measured_value h w object metric first ticks =
      if some_counted terms h w first ticks then reduced metric.reduce (counted_values h w object metric.number first ticks) else None

  -- A value is suspect where some tick of the period isn't counted.
  abbrev pub is_suspect : History → Making → ℕ → ℕ → Bool
  is_suspect h w first ticks = not (all_counted terms h w first ticks)
