-- The list of the calls of a collector since its opening, and which names are held and wanted after them (this project's own).
use Rattle.std.specs.Prelude.{ℕ, ◌&&◌, ◌||◌, Bool, false, not, List, [], ◌∷◌, bytes_eq}
use Rattle.std.specs.List.{list_any}

-- What a call did: it read the names of a notice or of a listing, it dropped a name, or it kept the file of a name.
pub data Call : Type 0 where
  Told : List (List ℕ) → Call
  Dropped : List ℕ → Call
  Kept : List ℕ → Call

-- The name is one of these.
abbrev pub is_one_of : List (List ℕ) → List ℕ → Bool
is_one_of names name = list_any (bytes_eq name) names

-- The name is held after these calls, the last of them first: it was at the opening, or was kept since.
abbrev pub is_held : List (List ℕ) → List Call → List ℕ → Bool
is_held opening [] name = is_one_of opening name
is_held opening (Told names ∷ before) name = is_held opening before name
is_held opening (Dropped other ∷ before) name = is_held opening before name
is_held opening (Kept other ∷ before) name = bytes_eq other name || is_held opening before name

-- The name is wanted after these calls, the last of them first: it was told when it wasn't held, and neither dropped nor kept
-- since.
abbrev pub is_wanted : List (List ℕ) → List Call → List ℕ → Bool
is_wanted opening [] name = false
is_wanted opening (Told names ∷ before) name =
    is_wanted opening before name || (is_one_of names name && not (is_held opening before name))
is_wanted opening (Dropped other ∷ before) name = is_wanted opening before name && not (bytes_eq other name)
is_wanted opening (Kept other ∷ before) name = is_wanted opening before name && not (bytes_eq other name)
