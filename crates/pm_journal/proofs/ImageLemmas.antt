-- What the images of an area have, from the calls since its last sync.
use Rattle.std.proofs.Common.{◌≡◌, ◌⊎◌, inl, inr, ℕ, ◌+◌, ◌<◌, ◌≤◌, max, List, [], ◌∷◌, length, get_or, take, set, Result, Ok, Err, sym, ◌∙◌, ap, subst, arith, length-set}
use Rattle.std.proofs.lemmas.List.{ext_get_or, get_or-take, get_or-set_same, get_or-set_other, length-take}
use Rattle.std.proofs.lemmas.Bool.{cases_eq}
use Rattle.pm_disk.specs.Area.{AreaState, IsImage, IsOutside, IsWrite, IsCut, IsSync, clean}

-- Each range begins at this offset or after it.
abbrev pub AllFrom : ℕ → List (ℕ × ℕ) → Type 0
AllFrom at [] = Unit {0}
AllFrom at (range ∷ ranges) = (at ≤ range.0) × AllFrom at ranges

-- Whatever was written or cut since the last sync comes after these bytes.
pub record IsAfter (kept : List ℕ) (area : AreaState) : Type 0 where
  pub synced : take (length kept) area.synced ≡ kept
  pub least : length kept ≤ area.least
  pub written : AllFrom (length kept) area.written

-- A clean area has one image.
pub clean_image : (bytes image : List ℕ) → IsImage (clean bytes) image → image ≡ bytes
clean_image bytes image is = ext_get_or 0 image bytes (omega (arith, is.no_shorter, is.no_longer)) (λ i lt. is.kept i (omega (arith, is.no_longer)) tt)

pub only_image : (bytes image : List ℕ) (area : AreaState) → area ≡ clean bytes → IsImage area image → image ≡ bytes
only_image bytes image area is image_is = clean_image bytes image (subst (λ (a : AreaState). IsImage a image) is image_is)

pub after_clean : (kept seen : List ℕ) (area : AreaState) → area ≡ clean seen → take (length kept) seen ≡ kept → IsAfter kept area
after_clean kept seen area is begins =
    let least : length kept ≤ length seen = omega (arith, ap length begins, length-take (length kept) seen) in
    subst (λ (a : AreaState). IsAfter kept a) (sym is) (record { synced = begins; least = least; written = tt })

pub after_write : {E : Type 0} (kept : List ℕ) (at : ℕ) (bytes : List ℕ) (result : Result Unit E) (old new : AreaState)
    → IsAfter kept old → length kept ≤ at → IsWrite at bytes result old new → IsAfter kept new
after_write kept at bytes result old new after le write = record {
  synced = ap (λ (l : List ℕ). take (length kept) l) write.synced ∙ after.synced;
  least = omega (arith, after.least, write.least);
  written = elim write.written [
    | inl more ↦ subst (λ (w : List (ℕ × ℕ)). AllFrom (length kept) w) (sym more) (le, after.written)
    | inr none ↦ subst (λ (w : List (ℕ × ℕ)). AllFrom (length kept) w) (sym none) after.written
  ];
}

pub after_cut : {E : Type 0} (kept : List ℕ) (to : ℕ) (result : Result Unit E) (old new : AreaState) → IsAfter kept old
    → length kept ≤ to → IsCut to result old new → IsAfter kept new
after_cut kept to result old new after le cut = record {
  synced = ap (λ (l : List ℕ). take (length kept) l) cut.synced ∙ after.synced;
  least = omega (arith, after.least, cut.least, le);
  written = subst (λ (w : List (ℕ × ℕ)). AllFrom (length kept) w) (sym cut.written) after.written;
}

outside : (n i : ℕ) (ranges : List (ℕ × ℕ)) → AllFrom n ranges → i < n → IsOutside i ranges
outside n i [] all lt = tt
outside n i (range ∷ ranges) all lt = (inl (omega (arith, all.0)), outside n i ranges all.1 lt)

-- Each image begins with these bytes.
pub after_image : (kept : List ℕ) (area : AreaState) (image : List ℕ) → IsAfter kept area → IsImage area image
    → take (length kept) image ≡ kept
after_image kept area image after is =
    let long : length (take (length kept) image) ≡ length kept = omega (arith, length-take (length kept) image, after.least, is.no_shorter) in
    ext_get_or 0 (take (length kept) image) kept long (λ i lt.
    let below : i < length kept = omega (arith, long) in
    get_or-take (length kept) image i 0 below
    ∙ is.kept i (omega (arith, below, after.least)) (outside (length kept) i area.written after.written below)
    ∙ sym (get_or-take (length kept) area.synced i 0 below)
    ∙ ap (λ (l : List ℕ). get_or l i 0) after.synced)

-- What is an image after a sync was one before it.
pub sync_image : {E : Type 0} (result : Result Unit E) (old new : AreaState) → IsImage old old.seen → IsSync result old new
    → (image : List ℕ) → IsImage new image → IsImage old image
sync_image (Ok u) old new seen sync image is =
    let same : image ≡ old.seen = only_image old.seen image new sync.done is in
    subst (λ (l : List ℕ). IsImage old l) (sym same) seen
sync_image (Err e) old new seen sync image is = subst (λ (a : AreaState). IsImage a image) sync.failed is

-- Where one byte is written over, that byte alone may be any.
pub byte_image : {E : Type 0} (seen : List ℕ) (at byte : ℕ) (result : Result Unit E) (old new : AreaState) → old ≡ clean seen
    → at < length seen → IsWrite at (byte ∷ []) result old new → (image : List ℕ) → IsImage new image
    → image ≡ set seen at (get_or image at 0)
byte_image seen at byte result old new is_clean lt write image is =
    let synced : new.synced ≡ seen = write.synced ∙ ap (λ (a : AreaState). a.synced) is_clean in
    let least : new.least ≡ length seen = write.least ∙ ap (λ (a : AreaState). a.least) is_clean in
    let greatest : new.greatest ≤ max (length seen) (at + 1) = subst (λ (a : AreaState). new.greatest ≤ max a.greatest (at + 1)) is_clean write.greatest in
    let none : old.written ≡ [] = ap (λ (a : AreaState). a.written) is_clean in
    let long : length image ≡ length seen = omega (arith, is.no_shorter, is.no_longer, least, greatest, lt) in
    ext_get_or 0 image (set seen at (get_or image at 0)) (long ∙ sym (length-set seen at (get_or image at 0))) (λ i below.
    elim (cases_eq i at) [
      | inl here ↦ ap (λ (k : ℕ). get_or image k 0) here ∙ sym (ap (λ (k : ℕ). get_or (set seen at (get_or image at 0)) k 0) here ∙ get_or-set_same seen at (get_or image at 0) 0 lt)
      | inr there ↦
          let apart : (i < at) ⊎ (at + 1 ≤ i) = grind arith in
          is.kept i (omega (arith, below, long, least)) (elim write.written [
            | inl one ↦ subst (λ (w : List (ℕ × ℕ)). IsOutside i w) (sym (one ∙ ap (λ (w : List (ℕ × ℕ)). (at, at + 1) ∷ w) none)) (apart, tt)
            | inr same ↦ subst (λ (w : List (ℕ × ℕ)). IsOutside i w) (sym (same ∙ none)) tt
          ])
          ∙ ap (λ (l : List ℕ). get_or l i 0) synced
          ∙ sym (get_or-set_other seen at i (get_or image at 0) 0 there)
    ])
