-- The pieces of a byte string between the places of one byte (this project's own).
use Rattle.std.specs.Prelude.{◌==◌, ℕ, List}
use Rattle.std.specs.List.{slice_split}

-- The pieces that a byte parts: one more than there are such bytes, some of them empty where two of them stand together or
-- at an end.
abbrev pub pieces_of : ℕ → List ℕ → List (List ℕ)
pieces_of byte bytes = slice_split (λ b. b == byte) bytes

-- The words of a line: each single space parts two, so that a further one makes an empty word.
abbrev pub words_of : List ℕ → List (List ℕ)
words_of line = pieces_of 32 line
