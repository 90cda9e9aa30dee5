-- What is the same of two histories with the same items.
use Rattle.std.specs.Prelude.{ℕ, ◌<◌, ◌≡◌, ◌==◌, Bool, true, false, List, Some}
use Rattle.std.specs.Option.{option_map}
use Rattle.pm_base.specs.Moment.{tick_of}
use Rattle.pm_meas.specs.Cell.{cell_of}
use Rattle.pm_history.specs.declared.entry.Side.{Side}
use Rattle.pm_history.specs.History.{History, Start, ◌▷◌, last_moment, IsHistory, is_cut}
use Rattle.pm_history.specs.Terms.{Terms}
use Rattle.pm_history.specs.Standing.{Standing, making_of, standing_after, ids_after}
use Rattle.pm_history.specs.Value.{values_where}
use Rattle.pm_history.specs.Counted.{is_counted}
use Rattle.pm_history.specs.Files.{files_of}
use Rattle.pm_history.specs.Notices.{notices_of}
use Rattle.pm_items.specs.Items.{items_of, kept}

-- Whether a history has an entry.
abbrev pub is_begun : History → Bool
is_begun Start = false
is_begun (h ▷ e) = true

-- What exists under an id, whatever the place of its making.
abbrev pub unplaced : Standing → Standing
unplaced s = record s { place = 0 }

-- What a replay keeps is the same of both: the last moment that is kept and the last tick; what exists under each id, but for its
-- place; which ticks are cut; the cells of each tick that is over and not cut; and for what exists in both, which ticks that are over
-- are counted. Entries without an item move places, so what exists under one id is one making in each.
pub record AreAlike (terms : Side → List ℕ → Terms) (g h : History) : Type 0 where
  pub begun : is_begun g ≡ is_begun h
  pub last : last_moment (kept g) ≡ last_moment (kept h)
  pub tick : tick_of (last_moment g) ≡ tick_of (last_moment h)
  pub ids : (side : Side) → ids_after side g ≡ ids_after side h
  pub standing : (side : Side) (id : List ℕ)
      → option_map unplaced (standing_after terms side g id) ≡ option_map unplaced (standing_after terms side h id)
  pub cut : (t : ℕ) → is_cut g t ≡ is_cut h t
  pub cells :
      (o m t : ℕ) → t < tick_of (last_moment g) → is_cut g t ≡ false
      → cell_of (values_where o m (λ k. k == t) g) ≡ cell_of (values_where o m (λ k. k == t) h)
  pub counted :
      (side : Side) (id : List ℕ) (s r : Standing) → standing_after terms side g id ≡ Some s
      → standing_after terms side h id ≡ Some r
      → (t : ℕ) → t < tick_of (last_moment g)
      → is_counted terms g (making_of side id s) t ≡ is_counted terms h (making_of side id r) t

abbrev pub SameItems : Type 0
SameItems =
    (terms : Side → List ℕ → Terms) (g h : History) → IsHistory g → IsHistory h → items_of g ≡ items_of h → AreAlike terms g h

-- The items tell files and notices.
abbrev pub ItemsTell : Type 0
ItemsTell =
    (terms : Side → List ℕ → Terms) (g h : History) → IsHistory g → IsHistory h → items_of g ≡ items_of h
    → (files_of terms g ≡ files_of terms h) × (notices_of terms g ≡ notices_of terms h)
