-- The cells of a tick that a store keeps: those with values, with the numbers of their slots.
use Rattle.std.specs.Prelude.{ℕ, ◌+◌, List, [], ◌∷◌, nat_lt, if◌then◌else◌}
use Rattle.pm_meas.specs.declared.cell.Cell.{Cell}

-- Of these cells, the first of which is that of this slot.
abbrev pub filled_from : ℕ → List Cell → List (ℕ × Cell)
filled_from slot [] = []
filled_from slot (c ∷ cs) = if nat_lt 0 c.n then (slot, c) ∷ filled_from (slot + 1) cs else filled_from (slot + 1) cs

abbrev pub filled : List Cell → List (ℕ × Cell)
filled cells = filled_from 0 cells
