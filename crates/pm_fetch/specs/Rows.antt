-- The lines of the held files (this project's own).
use Rattle.std.specs.Prelude.{◌≡◌, ℕ, List, [], ◌∷◌, ◌++◌, take, Result, Ok, Err}
use Rattle.std.specs.Fmt.{decimal}
use Rattle.pm_fetch.specs.declared.fetch_end.FetchEnd.{FetchEnd}

-- The name, a space, the size, and a line feed.
abbrev pub row_text : List ℕ × ℕ → List ℕ
row_text row = row.0 ++ 32 ∷ decimal row.1 ++ 10 ∷ []

-- The bytes were written, or after an error a prefix of them.
abbrev pub Writes : List ℕ → List ℕ → List ℕ → Result (Unit {0}) FetchEnd → Type 0
Writes bytes old new (Ok done) = new ≡ old ++ bytes
Writes bytes old new (Err end) = (n : ℕ) × (new ≡ old ++ take n bytes)
