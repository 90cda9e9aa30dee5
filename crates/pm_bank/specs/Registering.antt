-- Which events of a run are registered: of each slot every n-th one, counted on from a start (discrete event registration, TS 32.404).
use Rattle.std.specs.Prelude.{◌≡◌, ℕ, ◌+◌, ◌<◌, List, [], ◌∷◌, length, take, slice_index, slice_index_or, slice_set, if◌then◌else◌}
use Rattle.pm_meas.specs.declared.cell.Cell.{Cell}
use Rattle.pm_meas.specs.Cell.{cell_of, with_value}
use Rattle.pm_meas.specs.Registered as rule
use Rattle.pm_bank.specs.declared.view.Hit.{Hit}
use Rattle.pm_bank.specs.Entries.{when}
use Rattle.pm_bank.specs.Run.{AreRunCells, AreBounded}

-- how many events are of a slot
abbrev pub hits_of : ℕ → List Hit → ℕ
hits_of s [] = 0
hits_of s (h ∷ hs) = when s h.slot 1 + hits_of s hs

-- of how many events of its slot one is registered
abbrev pub n_of : List ℕ → Hit → ℕ
n_of every h = slice_index every h.slot

-- the number of an event after these: those of its slot are counted on from the slot's start
abbrev pub number_after : List ℕ → List Hit → Hit → ℕ
number_after start before h = slice_index start h.slot + (hits_of h.slot before + 1)

-- the registered events of the second list, after those of the first
abbrev pub registered_after : List ℕ → List ℕ → List Hit → List Hit → List Hit
registered_after every start before hs = rule.registered_after (n_of every) (number_after start) before hs

-- the registered events of a run, in order
abbrev pub registered : List ℕ → List ℕ → List Hit → List Hit
registered every start hs = registered_after every start [] hs

-- the starts move on by the run's events
abbrev pub AreMoved : List ℕ → List Hit → List ℕ → Type 0
AreMoved start hs moved = (s : ℕ) → s < length start → slice_index moved s ≡ slice_index start s + hits_of s hs

-- the cells with one more event, where it is registered
abbrev pub with_registered : List ℕ → List ℕ → List Cell → Hit → List Cell
with_registered every start cells h = if rule.is_registered (n_of every h) (slice_index start h.slot + 1) then slice_set cells h.slot (with_value (slice_index_or cells h.slot (cell_of [])) h.value) else cells

-- how far a run is registered
pub record IsRegistering (n : ℕ) (every first : List ℕ) (hs : List Hit) (start : List ℕ) (cells : List Cell) : Type 0 where
  pub size : length cells ≡ length first
  pub start_size : length start ≡ length first
  pub moved : AreMoved first (take n hs) start
  pub folds : AreRunCells (registered every first (take n hs)) cells
  pub bounded : AreBounded n cells
