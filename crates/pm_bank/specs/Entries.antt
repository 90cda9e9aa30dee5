-- Events that were counted: entries, each with its epoch, its slot and its value (this project's own).
use Rattle.std.specs.Prelude.{◌≡◌, ℕ, ◌+◌, ◌<◌, ◌≤◌, ◌==◌, ◌&&◌, List, [], ◌∷◌, length, All, slice_index_or, if◌then◌else◌}
use Rattle.pm_meas.specs.declared.cell.TheConstants.{MAX_VALUE}
use Rattle.pm_meas.specs.declared.cell.Cell.{Cell}
use Rattle.pm_meas.specs.Cell.{cell_of}
use Rattle.pm_bank.specs.declared.view.Hit.{Hit}
use Rattle.pm_bank.specs.declared.view.Entry.{Entry}
use Rattle.pm_bank.specs.declared.view.Taken.{Taken}

-- n where x is the wanted one, else 0
abbrev pub when : ℕ → ℕ → ℕ → ℕ
when e x n = if x == e then n else 0

-- the entries that events become in an epoch, in order
abbrev pub stamped : ℕ → List Hit → List Entry
stamped e [] = []
stamped e (h ∷ hs) = record { epoch = e; slot = h.slot; value = h.value } ∷ stamped e hs

-- the values of the entries of an epoch and a slot, in order
abbrev pub values_of : ℕ → ℕ → List Entry → List ℕ
values_of e s [] = []
values_of e s (x ∷ xs) = if (x.epoch == e) && (x.slot == s) then x.value ∷ values_of e s xs else values_of e s xs

-- the fold of the entries of an epoch and a slot
abbrev pub cell_in : ℕ → ℕ → List Entry → Cell
cell_in e s es = cell_of (values_of e s es)

-- how many entries are of an epoch
abbrev pub count_in : ℕ → List Entry → ℕ
count_in e [] = 0
count_in e (x ∷ xs) = when e x.epoch 1 + count_in e xs

-- each event is of a slot that there is, and carries a permitted value
abbrev pub AreSound : ℕ → List Hit → Type 0
AreSound slots hs = All (λ (h : Hit). (h.slot < slots) × (h.value ≤ MAX_VALUE)) hs

-- each value is a permitted one
abbrev pub AreSmall : List Entry → Type 0
AreSmall [] = Unit {0}
AreSmall (x ∷ xs) = (x.value ≤ MAX_VALUE) × AreSmall xs

-- no entry is of a later epoch
abbrev pub AreUpTo : ℕ → List Entry → Type 0
AreUpTo e es = All (λ (x : Entry). x.epoch ≤ e) es

-- the cells are the folds of the entries of an epoch, slot by slot
abbrev pub AreCells : ℕ → List Entry → List Cell → Type 0
AreCells e es cells = (s : ℕ) → s < length cells → slice_index_or cells s (cell_of []) ≡ cell_in e s es

-- what was taken of an epoch is the fold of its entries, and as many arrived
pub record IsFoldOf (es : List Entry) (t : Taken) : Type 0 where
  pub arrived_is : t.arrived ≡ count_in t.epoch es
  pub cells_are : AreCells t.epoch es t.cells
