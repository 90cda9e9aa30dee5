-- The list of items that the bytes of an area have (this project's own format).
use Rattle.std.specs.Prelude.{◌≡◌, ◌≢◌, ◌⊎◌, ◌<◌, ◌≤◌, ◌^◌, ℕ, List, [], ◌∷◌, ◌++◌, length, take}
use Rattle.std.specs.Int.{w32, to_be_bytes}

-- `PMDLOG1` and a line feed.
abbrev pub mark : List ℕ
mark = 80 ∷ 77 ∷ 68 ∷ 76 ∷ 79 ∷ 71 ∷ 49 ∷ 10 ∷ []

-- A length in four bytes, the greatest first.
unfoldable pub size_bytes : ℕ → List ℕ
size_bytes n = to_be_bytes w32 n

-- Each item after an open gate, which is 1, and its length.
abbrev pub blocks : List (List ℕ) → List ℕ
blocks [] = []
blocks (item ∷ items) = 1 ∷ size_bytes (length item) ++ item ++ blocks items

-- The mark and the items. Its length is the offset of the next gate.
abbrev pub prefix : List (List ℕ) → List ℕ
prefix items = mark ++ blocks items

-- The bytes with an item added, where the last of them, at this offset, is a closed gate: that gate is 1, and the item's
-- length, the item and a gate of 0 follow.
abbrev pub with_item : List ℕ → ℕ → List ℕ → List ℕ
with_item bytes gate item = take gate bytes ++ 1 ∷ size_bytes (length item) ++ item ++ 0 ∷ []

-- The bytes after an open gate are the item, with its length before it, and then at least the next gate.
pub record IsItem (bytes item after : List ℕ) : Type 0 where
  pub is : bytes ≡ size_bytes (length item) ++ item ++ after
  pub fits : length item < 2 ^ 32
  pub gate : 0 < length after

-- No item ends within the bytes: its length, its bytes or the next gate are cut off.
abbrev pub IsCutShort : List ℕ → Type 0
IsCutShort bytes = (item after : List ℕ) → IsItem bytes item after → ⊥

-- The length of each item fits its four bytes.
abbrev pub EachFits : List (List ℕ) → Type 0
EachFits [] = Unit {0}
EachFits (item ∷ items) = (length item < 2 ^ 32) × EachFits items

-- The bytes have the mark and these items, as long as the gate is 1 and the item with the next gate lies in them.
pub record HasList (bytes : List ℕ) (items : List (List ℕ)) : Type 0 where
  pub fits : EachFits items
  pub gate : ℕ
  pub rest : List ℕ
  pub is : bytes ≡ prefix items ++ gate ∷ rest
  pub stops : (gate ≢ 1) ⊎ IsCutShort rest

-- The list of an area, which is empty where the area has at most 9 bytes.
abbrev pub HasItems : List ℕ → List (List ℕ) → Type 0
HasItems bytes items = ((length bytes ≤ 9) × (items ≡ [])) ⊎ HasList bytes items

-- The bytes have the mark and these items, and the list ends at a closed gate.
pub record EndsAt (bytes : List ℕ) (items : List (List ℕ)) : Type 0 where
  pub fits : EachFits items
  pub gate : ℕ
  pub rest : List ℕ
  pub is : bytes ≡ prefix items ++ gate ∷ rest
  pub closed : gate ≢ 1

-- The area is whole: fresh, or its list ends at a closed gate.
pub record IsWhole (bytes : List ℕ) : Type 0 where
  pub ends : (length bytes ≤ 9) ⊎ ((items : List (List ℕ)) × EndsAt bytes items)
  pub small : length bytes ≤ 2 ^ 32
