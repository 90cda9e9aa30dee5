-- Lists of values that take the same number of bytes each, after how many they are (this project's own).
use Rattle.std.specs.Prelude.{ℕ, ◌+◌, ◌*◌, ◌<◌, ◌^◌, ◌&&◌, Bool, true, List, [], ◌∷◌, ◌++◌, length, map, take, drop, Some, None, nat_lt, nat_le, if◌then◌else◌}
use Rattle.std.specs.Int.{w16, w32, w64, to_be_bytes, from_be_bytes}
use Rattle.std.specs.List.{flat_map, AllByRecursion}
use Rattle.std.specs.Simd.{first_chunks}
use Rattle.pm_meas.specs.declared.cell.Cell.{Cell}
use Rattle.pm_store.specs.Format.{Format, ◌>>=◌}

-- A value in a row of so many bytes.
pub record Row (A : Type 0) : Type 1 where
  pub size : ℕ
  pub bytes : A → List ℕ
  pub value : List ℕ → A
  pub Fits : A → Type 0

-- The values of so many rows at the front of bytes.
abbrev pub values : {A : Type 0} → Row A → ℕ → List ℕ → List A
values row n bs = map row.value (first_chunks row.size n bs)

-- Rows, after their number.
abbrev pub listed : {A : Type 0} → Format ℕ → Row A → Format (List A)
listed count row =
    record {
      bytes = λ xs. count.bytes (length xs) ++ flat_map row.bytes xs;
      read = λ bs. count.read bs >>= λ n. if nat_lt (length n.1) (n.0 * row.size) then None else Some (
        values row n.0 n.1,
        drop (n.0 * row.size) n.1,
      );
      Fits = λ xs. count.Fits (length xs) × AllByRecursion row.Fits xs;
    }

-- A slot and its cell, in 22 bytes.
abbrev pub cell_bytes : ℕ × Cell → List ℕ
cell_bytes c =
    to_be_bytes w16 c.0 ++ (to_be_bytes w32 c.1.n ++ (to_be_bytes w64 c.1.sum ++ (to_be_bytes w32 c.1.max ++ to_be_bytes w32 c.1.min)))

abbrev pub cell_in : List ℕ → ℕ × Cell
cell_in row = (
  from_be_bytes w16 (take 2 row),
  record {
    n = from_be_bytes w32 (take 4 (drop 2 row));
    sum = from_be_bytes w64 (take 8 (drop 6 row));
    max = from_be_bytes w32 (take 4 (drop 14 row));
    min = from_be_bytes w32 (drop 18 row);
  },
)

-- The numbers of a slot and its cell are below the limits of their bytes.
pub record IsSlotCell (c : ℕ × Cell) : Type 0 where
  pub slot : c.0 < 2 ^ 16
  pub n : c.1.n < 2 ^ 32
  pub sum : c.1.sum < 2 ^ 64
  pub max : c.1.max < 2 ^ 32
  pub min : c.1.min < 2 ^ 32

abbrev pub cell_row : Row (ℕ × Cell)
cell_row = record { size = 22; bytes = cell_bytes; value = cell_in; Fits = IsSlotCell }

-- A cursor, in 8 bytes.
abbrev pub cursor_row : Row ℕ
cursor_row = record { size = 8; bytes = to_be_bytes w64; value = from_be_bytes w64; Fits = λ n. n < 2 ^ 64 }

-- Whether slots rise from this one on, and each cell has values.
abbrev pub rise_from : ℕ → List (ℕ × Cell) → Bool
rise_from least [] = true
rise_from least (c ∷ cs) = (nat_le least c.0 && nat_lt 0 c.1.n) && rise_from (c.0 + 1) cs

-- Whether cells stand in rising order of slots, none of them without values.
abbrev pub are_rising : List (ℕ × Cell) → Bool
are_rising cells = rise_from 0 cells
