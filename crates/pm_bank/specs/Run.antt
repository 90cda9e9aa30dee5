-- A run that is folded slot by slot, and what of it lies in the words.
use Rattle.std.specs.Prelude.{◌≡◌, ℕ, ◌-◌, ◌*◌, ◌<◌, ◌≤◌, List, [], length, slice_index_or, take}
use Rattle.pm_meas.specs.declared.cell.TheConstants.{MAX_VALUE}
use Rattle.pm_meas.specs.declared.cell.Cell.{Cell}
use Rattle.pm_meas.specs.Cell.{cell_of}
use Rattle.pm_bank.specs.declared.view.View.{View}
use Rattle.pm_bank.specs.declared.view.Hit.{Hit}
use Rattle.pm_bank.specs.declared.view.Part.{Part}
use Rattle.pm_bank.specs.Entries.{cell_in}
use Rattle.pm_bank.specs.Words.{close, run_fold, laid, found_at, word_of}
use Rattle.pm_bank.specs.Steps.{lays, cleared, keeping}

-- the cell is the fold of the run's events of the slot
pub record IsRunCell (s : ℕ) (hs : List Hit) (c : Cell) : Type 0 where
  pub n_is : c.n ≡ run_fold 0 s hs
  pub sum_is : c.sum ≡ run_fold 1 s hs
  pub max_is : c.max ≡ run_fold 2 s hs
  pub min_is : c.min ≡ close 3 (run_fold 3 s hs)

-- the cells are the fold of the run
abbrev pub AreRunCells : List Hit → List Cell → Type 0
AreRunCells hs cells = (s : ℕ) → s < length cells → IsRunCell s hs (slice_index_or cells s (cell_of []))

-- each cell is the empty one
abbrev pub AreBlank : List Cell → Type 0
AreBlank cells = (s : ℕ) → slice_index_or cells s (cell_of []) ≡ cell_of []

-- the four steps of one slot
abbrev pub lays_cell : ℕ → Cell → View → View
lays_cell s c v = lays 3 s (4294967295 - c.min) (lays 2 s c.max (lays 1 s c.sum (lays 0 s c.n v)))

-- each word has its part of the run
abbrev pub IsFilled : ℕ → List Hit → List Part → Type 0
IsFilled slots hs ps = (k s : ℕ) → k < 4 → s < slots → laid k s ps ≡ run_fold k s hs

-- a run is laid up to a slot: the words have the parts of the slots before it, whose cells are empty again
pub record IsLaidUpTo (n : ℕ) (hs : List Hit) (ps : List Part) (cells : List Cell) : Type 0 where
  pub done : (k s : ℕ) → k < 4 → s < n → laid k s ps ≡ run_fold k s hs
  pub rest : (k s : ℕ) → k < 4 → n ≤ s → laid k s ps ≡ 0
  pub blank : (s : ℕ) → s < n → slice_index_or cells s (cell_of []) ≡ cell_of []
  pub folds : (s : ℕ) → n ≤ s → s < length cells → IsRunCell s hs (slice_index_or cells s (cell_of []))

-- how far a fold of n events has come: no cell has more events, nor a greater sum than they can have
abbrev pub AreBounded : ℕ → List Cell → Type 0
AreBounded n cells = (s : ℕ) → s < length cells → ((slice_index_or cells s (cell_of [])).n ≤ n) × ((slice_index_or cells s (cell_of [])).sum ≤ MAX_VALUE * (slice_index_or cells s (cell_of [])).n)

-- how far a fold has come: the first n events of a run are in the cells
pub record IsFolding (n slots : ℕ) (hs : List Hit) (cells : List Cell) : Type 0 where
  pub size : length cells ≡ slots
  pub folds : AreRunCells (take n hs) cells
  pub bounded : AreBounded n cells

-- the four words of one slot were found
abbrev pub clears_cell : ℕ → Cell → View → View
clears_cell s c v = cleared 3 s c.min (cleared 2 s c.max (cleared 1 s c.sum (cleared 0 s c.n v)))

-- the words of the first n slots were found, and are those of the cells; where no older pass is out, these are the folds of what was met
pub record IsClearedUpTo (n ended : ℕ) (first now : View) (cells : List Cell) : Type 0 where
  pub view_is : now ≡ keeping (record first.numbers { cleared = 4 * n }) first.entries now.told first.taken
  pub found : (k s : ℕ) → k < 4 → s < n → word_of k (slice_index_or cells s (cell_of [])) ≡ found_at k s now.told
  pub folds : first.numbers.older ≡ 0 → (s : ℕ) → s < n → slice_index_or cells s (cell_of []) ≡ cell_in ended s first.entries
