-- A disk that replays its calls reads as one of its images. These facts are here since a law of a trait takes nothing
-- from the proofs of its own crate.
use Rattle.std.specs.Prelude.{◌≡◌, ◌⊎◌, ℕ, ◌+◌, ◌-◌, ◌<◌, ◌≤◌, Bool, true, false, List, [], ◌∷◌, ◌++◌, length, get_or, take, drop, refl}
use Rattle.std.proofs.Common.{inl, inr, arith, ◌∙◌, ap, length-append, length-take, length-drop}
use Rattle.std.proofs.lemmas.List.{get_or_append_left, get_or-append_right, get_or-take, get_or-drop}
use Rattle.pm_disk.specs.declared.area.Area.{Area}
use Rattle.pm_disk.specs.declared.area.Area.TheVariants.{First, Second}
use Rattle.pm_disk.specs.Area.{AreaState, IsImage, overwritten, clean}
use Rattle.pm_disk.specs.Moments.{DiskState, Told, of}
use Rattle.pm_disk.specs.Made.{Made, Wrote, CutTo, Synced, Looked, written_to, cut_to, synced_to, with_area, told_after, replayed, blank}

-- Each area reads as one of its images.
abbrev pub IsSound : DiskState → Type 0
IsSound disk = (area : Area) → IsImage (of disk area) (of disk area).seen

-- A byte outside the range of a write stays.
get_or-overwritten : (old bytes : List ℕ) (at i : ℕ) → i < length old → (i < at) ⊎ (at + length bytes ≤ i) → get_or (overwritten old at bytes) i 0 ≡ get_or old i 0
get_or-overwritten old bytes at i lt (inl before) =
    let in_prefix : i < length (take at old) = omega (arith, length-take at old) in
    get_or_append_left (take at old ++ bytes) (drop (at + length bytes) old) 0 i (omega (arith, in_prefix, length-append (take at old) bytes))
    ∙ get_or_append_left (take at old) bytes 0 i in_prefix
    ∙ get_or-take at old i 0 before
get_or-overwritten old bytes at i lt (inr after) =
    let prefix : length (take at old ++ bytes) ≡ at + length bytes = omega (arith, length-append (take at old) bytes, length-take at old) in
    let place : at + length bytes + (i - (at + length bytes)) ≡ i = omega arith in
    get_or-append_right (take at old ++ bytes) (drop (at + length bytes) old) (at + length bytes) i 0 prefix after
    ∙ get_or-drop (at + length bytes) old (i - (at + length bytes)) 0
    ∙ ap (λ (k : ℕ). get_or old k 0) place

write_sound : (area : AreaState) (at : ℕ) (bytes : List ℕ) (done : Bool) → IsImage area area.seen → IsImage (written_to area at bytes done) (written_to area at bytes done).seen
write_sound area at bytes false is = record {
  no_shorter = is.no_shorter;
  no_longer = omega (arith, is.no_longer);
  kept = λ i lt out. is.kept i lt out.1;
}
write_sound area at bytes true is =
    let whole = length-append (take at area.seen ++ bytes) (drop (at + length bytes) area.seen) in
    record {
      no_shorter = omega (arith, is.no_shorter, whole, length-append (take at area.seen) bytes, length-take at area.seen, length-drop (at + length bytes) area.seen);
      no_longer = omega (arith, is.no_longer, whole, length-append (take at area.seen) bytes, length-take at area.seen, length-drop (at + length bytes) area.seen);
      kept = λ i lt out. get_or-overwritten area.seen bytes at i (omega (arith, lt, is.no_shorter)) out.0 ∙ is.kept i lt out.1;
    }

cut_sound : (area : AreaState) (to : ℕ) (done : Bool) → IsImage area area.seen → IsImage (cut_to area to done) (cut_to area to done).seen
cut_sound area to false is = record {
  no_shorter = omega (arith, is.no_shorter);
  no_longer = is.no_longer;
  kept = λ i lt out. is.kept i (omega (arith, lt)) out;
}
cut_sound area to true is = record {
  no_shorter = omega (arith, is.no_shorter, length-take to area.seen);
  no_longer = omega (arith, is.no_longer, length-take to area.seen);
  kept = λ i lt out. get_or-take to area.seen i 0 (omega (arith, lt)) ∙ is.kept i (omega (arith, lt)) out;
}

clean_sound : (bytes : List ℕ) → IsImage (clean bytes) bytes
clean_sound bytes = record { no_shorter = omega arith; no_longer = omega arith; kept = λ i lt out. refl }

sync_sound : (area : AreaState) (done : Bool) → IsImage area area.seen → IsImage (synced_to area done) (synced_to area done).seen
sync_sound area false is = is
sync_sound area true is = clean_sound area.seen

with_sound : (disk : DiskState) (area : Area) (new : AreaState) → IsSound disk → IsImage new new.seen → IsSound (with_area disk area new)
with_sound disk First new is here First = here
with_sound disk First new is here Second = is Second
with_sound disk Second new is here First = is First
with_sound disk Second new is here Second = here

call_sound : (told : Told) (call : Made) → IsSound told.now → IsSound (told_after told call).now
call_sound told (Wrote area at bytes done) is = with_sound told.now area (written_to (of told.now area) at bytes done) is (write_sound (of told.now area) at bytes done (is area))
call_sound told (CutTo area to done) is = with_sound told.now area (cut_to (of told.now area) to done) is (cut_sound (of told.now area) to done (is area))
call_sound told (Synced area done) is = with_sound told.now area (synced_to (of told.now area) done) is (sync_sound (of told.now area) done (is area))
call_sound told Looked is = is

replay_sound : (told : Told) (calls : List Made) → IsSound told.now → IsSound (replayed told calls).now
replay_sound told [] is = is
replay_sound told (call ∷ calls) is = replay_sound (told_after told call) calls (call_sound told call is)

blank_sound : IsSound blank.now
blank_sound First = clean_sound []
blank_sound Second = clean_sound []

-- Whatever calls were made of it, a disk reads as one of its images.
pub replayed_reads : (calls : List Made) → IsSound (replayed blank calls).now
replayed_reads calls = replay_sound blank calls blank_sound
