-- Lines that their line feeds end, at the start of bytes (this project's own).
use Rattle.std.specs.Prelude.{◌≡◌, ◌⊎◌, List, [], ◌∷◌, ◌++◌, ℕ, All}
use Rattle.std.specs.List.{flat_map}
use Rattle.pm_base.specs.Pieces.{pieces_of}
use Rattle.pm_base.specs.Lines.{HasNoLineFeed, lines_of}

-- The text of lines, each with its line feed.
abbrev pub text_of_lines : List (List ℕ) → List ℕ
text_of_lines lines = flat_map (λ line. line ++ 10 ∷ []) lines

-- The lines among parts that line feeds part: no line feed ends the last part.
abbrev pub whole_parts : List (List ℕ) → List (List ℕ)
whole_parts [] = []
whole_parts (last ∷ []) = []
whole_parts (line ∷ next ∷ more) = line ∷ whole_parts (next ∷ more)

-- The lines that a line feed ends.
abbrev pub whole_lines : List ℕ → List (List ℕ)
whole_lines bytes = whole_parts (pieces_of 10 bytes)

-- These lines were taken from the start of the bytes, and the others are left. Where none is left, the last one that was
-- taken may lack its line feed.
pub record TakesLines (before : List ℕ) (taken : List (List ℕ)) (after : List ℕ) : Type 0 where
  pub lines : lines_of before ≡ taken ++ lines_of after
  pub ones : All HasNoLineFeed taken
  pub split : (before ≡ text_of_lines taken ++ after) ⊎ ((before ++ 10 ∷ [] ≡ text_of_lines taken) × (after ≡ []))
