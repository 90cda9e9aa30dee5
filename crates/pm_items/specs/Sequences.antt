-- What goes on after the last item: whether the last tick is cut, and the value sequence of each metric and object of a monitor, whose
-- flags (pm_history, `Crossing.AreFlags`) a watch keeps.
use Rattle.std.specs.Prelude.{ℕ, ◌≡◌, Bool, List, Some}
use Rattle.pm_base.specs.Moment.{tick_of}
use Rattle.pm_history.specs.declared.entry.Side.{Side}
use Rattle.pm_history.specs.declared.entry.Side.TheVariants.{Monitor}
use Rattle.pm_history.specs.declared.metric.Metric.{Metric}
use Rattle.pm_history.specs.History.{History, last_moment, IsHistory, is_cut}
use Rattle.pm_history.specs.Terms.{Terms}
use Rattle.pm_history.specs.Standing.{Standing, making_of, standing_after}
use Rattle.pm_history.specs.Notices.{value_sequence}
use Rattle.pm_items.specs.Items.{items_of}

-- Whether a Boot cuts the tick of the last moment.
abbrev pub is_last_cut : History → Bool
is_last_cut h = is_cut h (tick_of (last_moment h))

module _ (terms : Side → List ℕ → Terms) where
  -- The value sequence of the monitor that exists under an id, up to the tick of the last moment.
  abbrev pub sequence_so_far : History → List ℕ → Standing → ℕ → Metric → List ℕ
  sequence_so_far h id s object metric =
      value_sequence terms h (making_of Monitor id s) (terms Monitor s.body).granularity object metric s.armed (tick_of (last_moment h))

-- Histories with the same items agree on whether the last tick is cut.
abbrev pub SameLastCut : Type 0
SameLastCut = (g h : History) → IsHistory g → IsHistory h → items_of g ≡ items_of h → is_last_cut g ≡ is_last_cut h

-- Histories with the same items have the same value sequences, so the same flags.
abbrev pub SameSequences : Type 0
SameSequences =
    (terms : Side → List ℕ → Terms) (g h : History) → IsHistory g → IsHistory h → items_of g ≡ items_of h
    → (id : List ℕ) (s r : Standing) → standing_after terms Monitor g id ≡ Some s → standing_after terms Monitor h id ≡ Some r
    → (object : ℕ) (metric : Metric) → sequence_so_far terms g id s object metric ≡ sequence_so_far terms h id r object metric
