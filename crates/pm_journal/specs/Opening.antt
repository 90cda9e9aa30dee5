-- What opening an area answers.
use Rattle.std.specs.Prelude.{◌≡◌, ◌⊎◌, ◌<◌, ◌≤◌, ℕ, List, [], ◌++◌, ◌∷◌, length, take}
use Rattle.pm_disk.specs.declared.area.Area.{Area}
use Rattle.pm_disk.specs.Area.{AreaState, clean}
use Rattle.pm_disk.specs.Moments.{DiskState, of, other}
use Rattle.pm_journal.specs.Items.{mark, HasItems}
use Rattle.pm_journal.specs.Journal.{IsAt}
use Rattle.pm_journal.specs.declared.journal.Journal.{Journal}

-- The bytes are no journal of this limit: over 9 bytes that don't begin with the mark, or more than the limit.
pub record IsForeign (limit : ℕ) (bytes : List ℕ) : Type 0 where
  pub not_fresh : 9 < length bytes
  pub why : (take 8 bytes ≡ mark → ⊥) ⊎ (limit < length bytes)

-- The area is fresh, and the limit holds an empty journal.
pub record IsFresh (limit : ℕ) (bytes : List ℕ) : Type 0 where
  pub few : length bytes ≤ 9
  pub room : 9 ≤ limit

-- The area has more than 9 bytes, which begin with the mark and are within the limit.
pub record IsMarked (limit : ℕ) (bytes : List ℕ) : Type 0 where
  pub not_fresh : 9 < length bytes
  pub marked : take 8 bytes ≡ mark
  pub within : length bytes ≤ limit

-- A fresh area is made an empty journal, and one with the mark is left as it reads. It is on the disk.
pub record IsBegun (limit : ℕ) (bytes : List ℕ) (area : AreaState) : Type 0 where
  pub on_disk : area ≡ clean area.seen
  pub is : (IsFresh limit bytes × (area.seen ≡ mark ++ 0 ∷ [])) ⊎ (IsMarked limit bytes × (area.seen ≡ bytes))

-- No image of the area has more than 9 bytes, and nor does what it reads.
pub record IsShort (area : AreaState) : Type 0 where
  pub greatest : area.greatest ≤ 9
  pub few : length area.seen ≤ 9

-- While a fresh area is made an empty journal, no image of it has more than 9 bytes. The other area is as it was.
pub record IsRefreshing (area : Area) (old disk : DiskState) : Type 0 where
  pub greatest : (of disk area).greatest ≤ 9
  pub that : of disk (other area) ≡ of old (other area)

-- A journal of these bytes is opened: they are fresh or marked, a marked area keeps them, and the journal is at the first
-- gate of their list.
pub record IsOpened (limit : ℕ) (bytes : List ℕ) (journal : Journal) (area : AreaState) : Type 0 where
  pub begun : IsBegun limit bytes area
  pub items : List (List ℕ)
  pub list : HasItems bytes items
  pub at : IsAt journal area [] items
