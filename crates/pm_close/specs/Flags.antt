-- The watch of one value sequence: of a metric of a threshold on an object.
use Rattle.std.specs.Prelude.{ℕ, ◌≡◌, Bool, true, false, List, [], if◌then◌else◌, Option, Some, None, option_to_list}
use Rattle.std.specs.Option.{option_map}
use Rattle.pm_history.specs.declared.entry.Side.{Side}
use Rattle.pm_history.specs.History.{History}
use Rattle.pm_history.specs.Terms.{Terms, Watched}
use Rattle.pm_history.specs.Standing.{Making}
use Rattle.pm_history.specs.Notices.{Crossed, crossed, value_sequence}
use Rattle.pm_thresh.specs.declared.watch.Watch.{Watch}
use Rattle.pm_thresh.specs.declared.direction.Direction.{Direction}
use Rattle.pm_thresh.specs.declared.direction.Direction.TheVariants.{Up, Down}
use Rattle.pm_thresh.specs.Watch.{StandsAfter}

-- What a sequence takes of a period: its value, unless that is null or suspect.
abbrev pub taken : Option ℕ → Bool → List ℕ
taken value suspect = if suspect then [] else option_to_list value

abbrev pub is_upward : Direction → Bool
is_upward Up = true
is_upward Down = false

-- The crossing that an answer tells of the value of a period that ends with a tick.
abbrev pub crossing_told : List ℕ → Watched → ℕ → ℕ → Option ℕ → Option Direction → List Crossed
crossing_told id watched object end None answer = []
crossing_told id watched object end (Some value) answer = crossed id watched object end value (option_map is_upward answer)

module _ (terms : Side → List ℕ → Terms) where
  -- A watch stands for the value sequence up to a tick, since the monitor was armed.
  pub record WatchStands (h : History) (w : Making) (granularity : ℕ) (watched : Watched) (object armed tick : ℕ) (watch : Watch) : Type 0 where
    pub high : watch.high ≡ watched.high
    pub low : watch.low ≡ watched.low
    pub up : watch.up ≡ watched.up
    pub down : watch.down ≡ watched.down
    pub sequence : StandsAfter watch (value_sequence terms h w granularity object watched.metric armed tick)
