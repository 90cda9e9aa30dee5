-- The fold of a list of values, and the reductions of a list of values to one.
use Rattle.std.specs.Prelude.{ℕ, ◌+◌, ◌/◌, ◌==◌, List, [], ◌∷◌, length, sum, max, min, Option, Some, None, if◌then◌else◌}
use Rattle.pm_meas.specs.declared.cell.Cell.{Cell}
use Rattle.pm_meas.specs.declared.kind.Reduce.{Reduce}
use Rattle.pm_meas.specs.declared.kind.Reduce.TheVariants.{Sum, Mean, Max, Min}

-- the greatest of the values, and 0 of none
abbrev pub greatest : List ℕ → ℕ
greatest [] = 0
greatest (v ∷ vs) = max v (greatest vs)

-- the least of a value and further ones
abbrev pub least : ℕ → List ℕ → ℕ
least v [] = v
least v (w ∷ ws) = min v (least w ws)

-- the least of the values and 4,294,967,295, which no value exceeds: what a cell keeps of the least value
abbrev pub lowest : List ℕ → ℕ
lowest vs = least 4294967295 vs

-- the cell of a list of values
abbrev pub cell_of : List ℕ → Cell
cell_of vs = record { n = length vs; sum = sum vs; max = greatest vs; min = lowest vs }

-- the cell with one more value
abbrev pub with_value : Cell → ℕ → Cell
with_value c v = record { n = c.n + 1; sum = c.sum + v; max = max c.max v; min = min c.min v }

-- the cell of the values of both cells
abbrev pub merged : Cell → Cell → Cell
merged a b = record { n = a.n + b.n; sum = a.sum + b.sum; max = max a.max b.max; min = min a.min b.min }

-- the value of a list of values (the reductions of TS 32.404; that SUM of none is 0 is this project's own)
abbrev pub reduced : Reduce → List ℕ → Option ℕ
reduced Sum vs = Some (sum vs)
reduced Mean [] = None
reduced Mean (v ∷ vs) = Some (sum (v ∷ vs) / length (v ∷ vs))
reduced Max [] = None
reduced Max (v ∷ vs) = Some (greatest (v ∷ vs))
reduced Min [] = None
reduced Min (v ∷ vs) = Some (least v vs)

-- the same by a cell's fields, whether or not it is the cell of a list
abbrev pub reading : Reduce → Cell → Option ℕ
reading Sum c = Some c.sum
reading Mean c = if c.n == 0 then None else Some (c.sum / c.n)
reading Max c = if c.n == 0 then None else Some c.max
reading Min c = if c.n == 0 then None else Some c.min
