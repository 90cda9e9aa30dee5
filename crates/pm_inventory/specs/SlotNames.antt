-- The names of a slot as one text, which lines of events and of a tally have in their middle (this project's own).
use Rattle.std.specs.Prelude.{◌≢◌, ◌<◌, ◌++◌, ℕ, List, ◌∷◌, length, map, Option, All, AllPairs}
use Rattle.std.specs.List.{position_from}
use Rattle.std.specs.Str.{bytes_eq}
use Rattle.pm_inventory.specs.Slot.{Slot}

-- The names of the object and the metric, with a space between.
abbrev pub slot_names : Slot → List ℕ
slot_names slot = slot.object ++ 32 ∷ slot.metric

-- The place of the slot with these names; none where no slot has them.
abbrev pub names_place : List Slot → List ℕ → Option ℕ
names_place slots names = position_from (λ slot. bytes_eq (slot_names slot) names) 0 slots

-- No two slots have the same names.
abbrev pub AreDistinct : List Slot → Type 0
AreDistinct slots = AllPairs (λ a b. a ≢ b) (map slot_names slots)

-- No byte of the text is a space.
abbrev pub HasNoSpace : List ℕ → Type 0
HasNoSpace text = All (λ b. b ≢ 32) text

-- A word: a byte at least, and no space.
pub record IsWord (text : List ℕ) : Type 0 where
  pub some : 0 < length text
  pub spaceless : HasNoSpace text

-- The names of each slot's object and metric are words.
abbrev pub AreWords : List Slot → Type 0
AreWords slots = All (λ slot. IsWord slot.object × IsWord slot.metric) slots
