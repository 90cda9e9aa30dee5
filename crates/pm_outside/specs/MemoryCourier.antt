-- What a courier in memory holds, and which of its calls fail (this project's own).
use Rattle.std.specs.Prelude.{◌⊎◌, ◌<◌, ◌≤◌, ◌+◌, ℕ, List, Contains, length, map}
use Rattle.pm_outside.specs.declared.mem_courier.MemCourier.{MemCourier}
use Rattle.pm_outside.specs.Posts.{Post}
use Rattle.pm_outside.specs.Marks.{post_at}
use Rattle.pm_outside.specs.Memory.{next_call}

-- The posts that were made, first to last.
abbrev pub courier_posts : MemCourier → List Post
courier_posts c = map (post_at c.bytes.items) c.marks.items

-- How many bytes their paths and bodies have together.
abbrev pub courier_bytes : MemCourier → ℕ
courier_bytes c = length c.bytes.items

-- How often it has failed.
abbrev pub courier_faults : MemCourier → ℕ
courier_faults c = c.faults

-- How many posts it has room for, those made among them.
abbrev pub courier_most : MemCourier → ℕ
courier_most c = c.most

-- How many bytes of paths and bodies it has room for, those of the posts made among them.
abbrev pub courier_room : MemCourier → ℕ
courier_room c = c.room

-- The numbers of the calls that fail, counted from 1.
abbrev pub courier_fails : MemCourier → List ℕ
courier_fails c = c.fails.items

-- How many calls were made.
abbrev pub courier_calls : MemCourier → ℕ
courier_calls c = c.calls

-- There is no room for one more post, or not for so many bytes of its path and body.
abbrev pub IsPastRoom : MemCourier → ℕ → ℕ → Type 0
IsPastRoom c path body = (courier_most c ≤ length (courier_posts c)) ⊎ (courier_room c < courier_bytes c + path + body)

-- A post of so many bytes fails as the call of this number: it is one that is to fail, or past the room.
abbrev pub PostFailsAt : MemCourier → ℕ → ℕ → ℕ → Type 0
PostFailsAt c number path body = Contains (courier_fails c) number ⊎ IsPastRoom c path body

-- The next post of so many bytes fails.
abbrev pub IsPostToFail : MemCourier → ℕ → ℕ → Type 0
IsPostToFail c path body = PostFailsAt c (next_call (courier_calls c)) path body
