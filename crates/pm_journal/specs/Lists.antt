-- Which lists the images of an area have, at a moment in a call.
use Rattle.std.specs.Prelude.{◌≡◌, ◌⊎◌, ℕ, List}
use Rattle.pm_disk.specs.declared.area.Area.{Area}
use Rattle.pm_disk.specs.Area.{IsImage}
use Rattle.pm_disk.specs.Moments.{DiskState, of, other}
use Rattle.pm_journal.specs.Items.{HasItems, IsWhole}

-- The one has each list that the other has, and is whole where the other is.
pub record KeepsList (before image : List ℕ) : Type 0 where
  pub items : (items : List (List ℕ)) → HasItems before items → HasItems image items
  pub whole : IsWhole before → IsWhole image

-- The area reads as it did, and each image of it is one that it had at the start. The other area is as it was.
pub record KeepsArea (area : Area) (old disk : DiskState) : Type 0 where
  pub seen : (of disk area).seen ≡ (of old area).seen
  pub images : (image : List ℕ) → IsImage (of disk area) image → IsImage (of old area) image
  pub that : of disk (other area) ≡ of old (other area)

-- Each image of the area has the list that some image of it had at the start, and is whole where that was. The other area
-- is as it was.
pub record KeepsLists (area : Area) (old disk : DiskState) : Type 0 where
  pub each : (image : List ℕ) → IsImage (of disk area) image → (before : List ℕ) × IsImage (of old area) before × KeepsList before image
  pub that : of disk (other area) ≡ of old (other area)

-- Each image of the area is whole and has one of the two lists. The other area is as it was.
pub record HasEither (area : Area) (old : DiskState) (before after : List (List ℕ)) (disk : DiskState) : Type 0 where
  pub each : (image : List ℕ) → IsImage (of disk area) image → IsWhole image × (HasItems image before ⊎ HasItems image after)
  pub that : of disk (other area) ≡ of old (other area)
