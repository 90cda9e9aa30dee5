-- What items don't tell: at which place of the history a job or a monitor was made.
use Rattle.std.specs.Prelude.{ℕ, ◌≡◌, ◌≢◌, List}
use Rattle.pm_history.specs.declared.entry.Side.{Side}
use Rattle.pm_history.specs.History.{History, IsHistory}
use Rattle.pm_history.specs.Terms.{Terms}
use Rattle.pm_history.specs.Standing.{standing_after}
use Rattle.pm_items.specs.Items.{items_of, kept}

-- Two histories that end with an item and have the same items, but something that was made at different places.
pub record PlacesDiffer (terms : Side → List ℕ → Terms) : Type 0 where
  pub g : History
  pub h : History
  pub histories : IsHistory g × IsHistory h
  pub kept_are : (kept g ≡ g) × (kept h ≡ h)
  pub same : items_of g ≡ items_of h
  pub side : Side
  pub id : List ℕ
  pub other : standing_after terms side g id ≢ standing_after terms side h id

-- So nothing that a replay keeps may depend on a place.
abbrev pub PlacesUntold : Type 0
PlacesUntold = (terms : Side → List ℕ → Terms) → PlacesDiffer terms
