-- The moments of a disk (this project's own). While a write or a cut is under way, a stop leaves an image that it may leave
-- after the call: the length lies between those before and after it, and the bytes of the range hold any value. While a
-- sync is under way, a stop leaves an image from before it. So what a stop within a call may leave, a stop before the call
-- or after it may leave too, and the states between the calls are all the moments that matter.
use Rattle.std.specs.Prelude.{◌≡◌, ◌⊎◌, List, [], ◌∷◌, ◌++◌, ℕ}
use Rattle.pm_disk.specs.declared.area.Area.{Area}
use Rattle.pm_disk.specs.declared.area.Area.TheVariants.{First, Second}
use Rattle.pm_disk.specs.Area.{AreaState, IsImage}

-- Two areas, each since its last sync.
pub record DiskState : Type 0 where
  pub first : AreaState
  pub second : AreaState

-- The area of that name.
abbrev pub of : DiskState → Area → AreaState
of disk First = disk.first
of disk Second = disk.second

-- The other area.
abbrev pub other : Area → Area
other First = Second
other Second = First

-- An image of the disk: any image of the first area beside any image of the second.
pub record IsDiskImage (disk : DiskState) (image : List ℕ × List ℕ) : Type 0 where
  pub first : IsImage disk.first image.0
  pub second : IsImage disk.second image.1

-- What a disk tells: its state now, and its states at the moments before, the newest first.
pub record Told : Type 0 where
  pub now : DiskState
  pub past : List DiskState

-- A call on one area, which a disk may refuse to begin. The other area keeps its content and its images.
pub record IsStep (area : Area) (step : AreaState → AreaState → Type 0) (old new : Told) : Type 0 where
  pub past : (new.past ≡ old.now ∷ old.past) ⊎ (new ≡ old)
  pub this : step (of old.now area) (of new.now area)
  pub that : of new.now (other area) ≡ of old.now (other area)

-- Each of the states has P.
abbrev pub Each : (DiskState → Type 0) → List DiskState → Type 0
Each P [] = Unit {0}
Each P (state ∷ states) = P state × Each P states

-- The disk has P at each moment from the one to the other, the moments within its calls among them.
pub record Throughout (P : DiskState → Type 0) (old new : Told) : Type 0 where
  pub later : List DiskState
  pub moments : new.now ∷ new.past ≡ later ++ old.now ∷ old.past
  pub before : P old.now
  pub each : Each P later
