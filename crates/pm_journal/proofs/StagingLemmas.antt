-- The device calls by which an item is put after the closed gate, the gate is opened, and the area is cut.
use Rattle.std.proofs.Common.{◌≡◌, ℕ, ◌+◌, ◌<◌, ◌≤◌, List, [], ◌∷◌, ◌++◌, length, get_or, take, drop, set, Result, Ok, Err, OnOk, refl, sym, ◌∙◌, ap, arith, add-one, append_assoc, length-take}
use Rattle.std.proofs.lemmas.List.{set-get_or, set_split, take_all}
use Rattle.pm_disk.specs.declared.area.Area.{Area}
use Rattle.pm_disk.specs.Area.{AreaState, IsImage, IsWrite, IsCut, IsSync, overwritten, clean}
use Rattle.pm_disk.specs.Moments.{DiskState, Told, IsStep, Throughout, of, other}
use Rattle.pm_disk.proofs.MomentLemmas.{at_rest, step_on, at_end}
use Rattle.pm_journal.specs.Appending.{IsStaging, IsOpening, IsCutting}
use Rattle.pm_journal.proofs.ImageLemmas.{IsAfter, after_clean, after_write, after_cut, after_image, sync_image, only_image, byte_image}

-- How far the writes after the closed gate have come.
pub record IsSoFar (area : Area) (most : ℕ) (old mid : Told) : Type 0 where
  pub run : Throughout (IsStaging area most old.now) old mid
  pub after : IsAfter (of old.now area).seen (of mid.now area)
  pub greatest : (of mid.now area).greatest ≤ most
  pub that : of mid.now (other area) ≡ of old.now (other area)

here : (area : Area) (most : ℕ) (old : Told) (state : DiskState) → IsAfter (of old.now area).seen (of state area)
    → (of state area).greatest ≤ most → of state (other area) ≡ of old.now (other area) → IsStaging area most old.now state
here area most old state after le that = record {
  begins = λ image is. after_image (of old.now area).seen (of state area) image after is;
  no_longer = λ image is. omega (arith, is.no_longer, le);
  that = that;
}

pub staging_begins : (area : Area) (most : ℕ) (old : Told) → of old.now area ≡ clean (of old.now area).seen
    → length (of old.now area).seen ≤ most → IsSoFar area most old old
staging_begins area most old is_clean le =
    let seen = (of old.now area).seen in
    let after = after_clean seen seen (of old.now area) is_clean (take_all (length seen) seen (omega arith)) in
    let greatest : (of old.now area).greatest ≤ most = omega (arith, ap (λ (a : AreaState). a.greatest) is_clean, le) in
    record { run = at_rest (IsStaging area most old.now) old (here area most old old.now after greatest refl); after = after; greatest = greatest; that = refl }

pub staging_writes : {E : Type 0} (area : Area) (most at : ℕ) (bytes : List ℕ) (result : Result Unit E) (old mid new : Told)
    → IsSoFar area most old mid → length (of old.now area).seen ≤ at → at + length bytes ≤ most
    → IsStep area (IsWrite at bytes result) mid new → IsSoFar area most old new
staging_writes area most at bytes result old mid new so_far le fits one =
    let after = after_write (of old.now area).seen at bytes result (of mid.now area) (of new.now area) so_far.after le one.this in
    let that : of new.now (other area) ≡ of old.now (other area) = one.that ∙ so_far.that in
    let greatest : (of new.now area).greatest ≤ most = omega (arith, one.this.greatest, so_far.greatest, fits) in
    record { run = step_on (IsStaging area most old.now) area (IsWrite at bytes result) old mid new so_far.run one (here area most old new.now after greatest that); after = after; greatest = greatest; that = that }

pub staging_syncs : {E : Type 0} (area : Area) (most : ℕ) (result : Result Unit E) (old mid new : Told)
    → IsSoFar area most old mid → IsImage (of mid.now area) (of mid.now area).seen → IsStep area (IsSync result) mid new
    → Throughout (IsStaging area most old.now) old new
staging_syncs area most result old mid new so_far seen one =
    let now = at_end (IsStaging area most old.now) old mid so_far.run in
    step_on (IsStaging area most old.now) area (IsSync result) old mid new so_far.run one (record {
      begins = λ image is. now.begins image (sync_image result (of mid.now area) (of new.now area) seen one.this image is);
      no_longer = λ image is. now.no_longer image (sync_image result (of mid.now area) (of new.now area) seen one.this image is);
      that = one.that ∙ so_far.that;
    })

gate_closed : (area : Area) (gate : ℕ) (old : Told) → of old.now area ≡ clean (of old.now area).seen
    → Throughout (IsOpening area gate old.now) old old
gate_closed area gate old is_clean = at_rest (IsOpening area gate old.now) old (record {
  images = λ image is.
      let seen = (of old.now area).seen in
      (get_or seen gate 0, only_image seen image (of old.now area) is_clean is ∙ sym (set-get_or seen gate 0));
  that = refl;
})

pub gate_written : {E : Type 0} (area : Area) (gate : ℕ) (result : Result Unit E) (old new : Told)
    → of old.now area ≡ clean (of old.now area).seen → gate < length (of old.now area).seen
    → IsStep area (IsWrite gate (1 ∷ []) result) old new → Throughout (IsOpening area gate old.now) old new
gate_written area gate result old new is_clean lt one = step_on (IsOpening area gate old.now) area (IsWrite gate (1 ∷ []) result) old old new (gate_closed area gate old is_clean) one (record {
  images = λ image is. (get_or image gate 0, byte_image (of old.now area).seen gate 1 result (of old.now area) (of new.now area) is_clean lt one.this image is);
  that = one.that;
})

pub gate_synced : {E : Type 0} (area : Area) (gate : ℕ) (result : Result Unit E) (old mid new : Told)
    → Throughout (IsOpening area gate old.now) old mid → IsImage (of mid.now area) (of mid.now area).seen
    → IsStep area (IsSync result) mid new → Throughout (IsOpening area gate old.now) old new
gate_synced area gate result old mid new run seen one =
    let so_far = at_end (IsOpening area gate old.now) old mid run in
    step_on (IsOpening area gate old.now) area (IsSync result) old mid new run one (record {
      images = λ image is. so_far.images image (sync_image result (of mid.now area) (of new.now area) seen one.this image is);
      that = one.that ∙ so_far.that;
    })

-- What a sync leaves, where the area read this.
pub synced_is : {E : Type 0} (bytes : List ℕ) (mid new : AreaState) (result : Result Unit E) → mid.seen ≡ bytes
    → IsSync result mid new → OnOk result (new ≡ clean bytes)
synced_is bytes mid new (Ok u) is sync = sync.done ∙ ap clean is
synced_is bytes mid new (Err e) is sync = tt

pub opened_is : (gate : ℕ) (seen mid : List ℕ) → gate < length seen → mid ≡ overwritten seen gate (1 ∷ []) → mid ≡ set seen gate 1
opened_is gate seen mid lt holds =
    let split : set seen gate 1 ≡ take gate seen ++ 1 ∷ drop (gate + 1) seen = rw add-one (set_split seen gate 1 lt) in
    holds ∙ append_assoc (take gate seen) (1 ∷ []) (drop (gate + 1) seen) ∙ sym split

cutting : (area : Area) (to : ℕ) (old : Told) (state : DiskState) → IsAfter (take to (of old.now area).seen) (of state area)
    → to ≤ length (of old.now area).seen → (of state area).greatest ≤ length (of old.now area).seen
    → of state (other area) ≡ of old.now (other area) → IsCutting area to old.now state
cutting area to old state after le greatest that =
    let kept = take to (of old.now area).seen in
    let long : length kept ≡ to = omega (arith, length-take to (of old.now area).seen, le) in
    record {
      begins = λ image is. sym (ap (λ (n : ℕ). take n image) long) ∙ after_image kept (of state area) image after is;
      no_longer = λ image is. omega (arith, is.no_longer, greatest);
      that = that;
    }

kept_prefix : (area : Area) (to : ℕ) (old : Told) → of old.now area ≡ clean (of old.now area).seen
    → to ≤ length (of old.now area).seen → IsAfter (take to (of old.now area).seen) (of old.now area)
kept_prefix area to old is_clean le =
    let seen = (of old.now area).seen in
    after_clean (take to seen) seen (of old.now area) is_clean (ap (λ (n : ℕ). take n seen) (omega (arith, length-take to seen, le)))

pub cut_made : {E : Type 0} (area : Area) (to : ℕ) (result : Result Unit E) (old new : Told)
    → of old.now area ≡ clean (of old.now area).seen → to ≤ length (of old.now area).seen → IsStep area (IsCut to result) old new
    → Throughout (IsCutting area to old.now) old new
cut_made area to result old new is_clean le one =
    let seen = (of old.now area).seen in
    let before = kept_prefix area to old is_clean le in
    let after = after_cut (take to seen) to result (of old.now area) (of new.now area) before (omega (arith, length-take to seen, le)) one.this in
    let greatest : (of old.now area).greatest ≡ length seen = ap (λ (a : AreaState). a.greatest) is_clean in
    step_on (IsCutting area to old.now) area (IsCut to result) old old new
    (at_rest (IsCutting area to old.now) old (cutting area to old old.now before le (omega (arith, greatest)) refl))
    one
    (cutting area to old new.now after le (omega (arith, greatest, one.this.greatest)) one.that)

pub cut_synced : {E : Type 0} (area : Area) (to : ℕ) (result : Result Unit E) (old mid new : Told)
    → Throughout (IsCutting area to old.now) old mid → IsImage (of mid.now area) (of mid.now area).seen
    → IsStep area (IsSync result) mid new → Throughout (IsCutting area to old.now) old new
cut_synced area to result old mid new run seen one =
    let so_far = at_end (IsCutting area to old.now) old mid run in
    step_on (IsCutting area to old.now) area (IsSync result) old mid new run one (record {
      begins = λ image is. so_far.begins image (sync_image result (of mid.now area) (of new.now area) seen one.this image is);
      no_longer = λ image is. so_far.no_longer image (sync_image result (of mid.now area) (of new.now area) seen one.this image is);
      that = one.that ∙ so_far.that;
    })
