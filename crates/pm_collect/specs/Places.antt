-- Where the held files lie in their store, and in which order they are told (this project's own).
use Rattle.std.specs.Prelude.{◌≡◌, ◌+◌, ℕ, List, [], ◌∷◌, length, map, bytes_eq, cond, slice_get, Option, Some, None}
use Rattle.std.specs.Map.{lookup, keys_of}
use Rattle.std.specs.List.Sorted.{IsStrictlySortedBy}
use Rattle.std.specs.Cmp.Lexicographic.{slice_cmp}
use Rattle.std.specs.Ordering.{nat_cmp}
use Rattle.pm_collect.specs.declared.names.Place.{Place}
use Rattle.pm_collect.specs.declared.names.Names.{Names}
use Rattle.pm_collect.specs.Maps.{place_of}
use Rattle.pm_collect.specs.Stored.{HeldFile}

-- The bytes of the item of a file, with the gate and the length before it.
abbrev pub item_room : List ℕ → List ℕ → ℕ
item_room name text = 11 + length name + length text

-- The offset of a file whose item has its gate at this offset.
abbrev pub file_offset : ℕ → List ℕ → ℕ
file_offset gate name = gate + 11 + length name

-- Where the file of this name lies among these, the first of which has its gate at this offset.
abbrev pub place_from : ℕ → List HeldFile → List ℕ → Option Place
place_from gate [] name = None
place_from gate (f ∷ files) name =
    cond (bytes_eq name f.name) (Some (record { offset = file_offset gate f.name; size = length f.text })) (place_from (gate + item_room f.name f.text) files name)

-- The same in the store, where the first gate is behind the mark.
abbrev pub place_in : List HeldFile → List ℕ → Option Place
place_in files name = place_from 8 files name

-- The text of the file of this name.
abbrev pub text_in : List HeldFile → List ℕ → Option (List ℕ)
text_in files name = lookup (bytes_eq name) (map (λ (f : HeldFile). (f.name, f.text)) files)

-- The names of files with their sizes.
abbrev pub sizes_of : List HeldFile → List (List ℕ × ℕ)
sizes_of files = map (λ (f : HeldFile). (f.name, length f.text)) files

-- The names that are held with the sizes of their files, in byte order.
abbrev pub rows_of : Names → List (List ℕ × ℕ)
rows_of names = map (λ e. (e.0.items, e.1.size)) names.held.entries

-- At this place in byte order the name is held, with this place in the store.
pub record IsEntryAt (names : Names) (place : ℕ) (name : List ℕ) (in_store : Place) : Type 0 where
  pub row : slice_get (rows_of names) place ≡ Some (name, in_store.size)
  pub found : place_of names.held name ≡ Some in_store

-- The rows are the names and sizes of these files, in byte order of the names.
pub record AreRows (files : List HeldFile) (rows : List (List ℕ × ℕ)) : Type 0 where
  pub rising : IsStrictlySortedBy (slice_cmp nat_cmp) (keys_of rows)
  pub same : (name : List ℕ) → lookup (bytes_eq name) rows ≡ lookup (bytes_eq name) (sizes_of files)
