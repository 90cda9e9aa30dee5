-- An area of a disk between two syncs: what a call does to it, and what a stop may leave of it (this project's own).
use Rattle.std.specs.Prelude.{◌≡◌, ◌⊎◌, ◌<◌, ◌≤◌, ℕ, ◌+◌, max, min, List, [], ◌∷◌, ◌++◌, length, get_or, take, drop, Result, OnOk, OnErr}

-- An area since its last sync that succeeded.
pub record AreaState : Type 0 where
  pub seen : List ℕ  -- what a read gives
  pub synced : List ℕ  -- what a read gave at that sync
  pub least : ℕ  -- the least length since then
  pub greatest : ℕ  -- the greatest length since then
  pub written : List (ℕ × ℕ)  -- the ranges written since then, each from its first byte to the one after its last

-- The byte at this offset lies in none of the ranges.
abbrev pub IsOutside : ℕ → List (ℕ × ℕ) → Type 0
IsOutside i [] = Unit {0}
IsOutside i (range ∷ ranges) = ((i < range.0) ⊎ (range.1 ≤ i)) × IsOutside i ranges

-- What a stop may leave of an area. Its length lies between the least and the greatest since the last sync. A byte that
-- lay within the length ever since, and was written nowhere, stays as it was at that sync. Every other byte holds any
-- value.
pub record IsImage (area : AreaState) (image : List ℕ) : Type 0 where
  pub no_shorter : area.least ≤ length image
  pub no_longer : length image ≤ area.greatest
  pub kept : (i : ℕ) → i < area.least → IsOutside i area.written → get_or image i 0 ≡ get_or area.synced i 0

-- The list with these bytes at this offset, over what is there and past its end.
abbrev pub overwritten : List ℕ → ℕ → List ℕ → List ℕ
overwritten old at bytes = take at old ++ bytes ++ drop (at + length bytes) old

-- A write. One that fails leaves at most the images that it has in progress.
pub record IsWrite {E : Type 0} (at : ℕ) (bytes : List ℕ) (result : Result Unit E) (old new : AreaState) : Type 0 where
  pub synced : new.synced ≡ old.synced
  pub least : new.least ≡ old.least
  pub greatest : new.greatest ≤ max old.greatest (at + length bytes)
  pub written : (new.written ≡ (at, at + length bytes) ∷ old.written) ⊎ (new.written ≡ old.written)
  pub seen : OnOk result (new.seen ≡ overwritten old.seen at bytes)

-- A cut to a length. One that fails leaves at most the images that it has in progress.
pub record IsCut {E : Type 0} (to : ℕ) (result : Result Unit E) (old new : AreaState) : Type 0 where
  pub synced : new.synced ≡ old.synced
  pub least : min old.least to ≤ new.least
  pub greatest : new.greatest ≤ old.greatest
  pub written : new.written ≡ old.written
  pub seen : OnOk result (new.seen ≡ take to old.seen)

-- An area that a sync has just left: its only image is what a read gives.
abbrev pub clean : List ℕ → AreaState
clean bytes = record { seen = bytes; synced = bytes; least = length bytes; greatest = length bytes; written = [] }

-- A sync. One that fails leaves the images as they were.
pub record IsSync {E : Type 0} (result : Result Unit E) (old new : AreaState) : Type 0 where
  pub done : OnOk result (new ≡ clean old.seen)
  pub failed : OnErr result (new ≡ old)
