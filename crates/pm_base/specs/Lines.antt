-- Lines of bytes: each ends at a line feed, which is the byte 10 (this project's own).
use Rattle.std.specs.Prelude.{◌≢◌, ◌≤◌, ℕ, List, [], length, All, ◌∷◌, ◌==◌, if◌then◌else◌}
use Rattle.pm_base.specs.Pieces.{pieces_of}

-- The most bytes of a line, its line feed left out.
abbrev pub MOST_LINE : ℕ
MOST_LINE = 2048

-- No byte is a line feed.
abbrev pub HasNoLineFeed : List ℕ → Type 0
HasNoLineFeed bytes = All (λ b. b ≢ 10) bytes

-- The bytes alone don't tell the next line: they are at most `MOST_LINE`, and none is a line feed.
pub record HasNoLine (bytes : List ℕ) : Type 0 where
  pub short : length bytes ≤ MOST_LINE
  pub open_line : HasNoLineFeed bytes

-- The lines among parts that line feeds part: after the last line feed, nothing is no line.
abbrev pub lines_of_parts : List (List ℕ) → List (List ℕ)
lines_of_parts [] = []
lines_of_parts (last ∷ []) = if length last == 0 then [] else last ∷ []
lines_of_parts (line ∷ next ∷ more) = line ∷ lines_of_parts (next ∷ more)

-- The lines of the bytes, without their line feeds. The last one may lack it.
abbrev pub lines_of : List ℕ → List (List ℕ)
lines_of bytes = lines_of_parts (pieces_of 10 bytes)
