-- The two steps of adding an item, and why it is refused.
use Rattle.std.specs.Prelude.{◌≡◌, ◌≤◌, ℕ, List, length, take, set}
use Rattle.pm_disk.specs.Area.{AreaState, IsImage, clean}
use Rattle.pm_disk.specs.Moments.{DiskState, of, other}
use Rattle.pm_disk.specs.declared.area.Area.{Area}

-- The area is on the disk as it reads, and has this length.
pub record IsCleanTo (at : ℕ) (area : AreaState) : Type 0 where
  pub clean : area ≡ clean area.seen
  pub length : length area.seen ≡ at

-- While an item is put after the closed gate, each image begins with what the area had, and is at most this long. The other
-- area is as it was.
pub record IsStaging (area : Area) (most : ℕ) (old disk : DiskState) : Type 0 where
  pub begins : (image : List ℕ) → IsImage (of disk area) image → take (length (of old area).seen) image ≡ (of old area).seen
  pub no_longer : (image : List ℕ) → IsImage (of disk area) image → length image ≤ most
  pub that : of disk (other area) ≡ of old (other area)

-- While the gate is opened, its byte alone may be any. The other area is as it was.
pub record IsOpening (area : Area) (gate : ℕ) (old disk : DiskState) : Type 0 where
  pub images : (image : List ℕ) → IsImage (of disk area) image → (byte : ℕ) × (image ≡ set (of old area).seen gate byte)
  pub that : of disk (other area) ≡ of old (other area)

-- While the area is cut, each image begins with what stays, and is no longer than the area was. The other area is as it was.
pub record IsCutting (area : Area) (to : ℕ) (old disk : DiskState) : Type 0 where
  pub begins : (image : List ℕ) → IsImage (of disk area) image → take to image ≡ take to (of old area).seen
  pub no_longer : (image : List ℕ) → IsImage (of disk area) image → length image ≤ length (of old area).seen
  pub that : of disk (other area) ≡ of old (other area)
