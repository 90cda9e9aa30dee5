-- Each area with the mark has a list, and what keeps it.
use Rattle.std.proofs.Common.{◌≡◌, ◌≢◌, ◌⊎◌, inl, inr, ℕ, suc, zero, ◌+◌, ◌<◌, ◌≤◌, ◌^◌, List, [], ◌∷◌, ◌++◌, length, take, drop, refl, sym, ◌∙◌, ap, subst, arith, append_assoc, length-append, length-drop, length-take, take-append-drop}
use Rattle.std.proofs.lemmas.List.{take_at}
use Rattle.std.proofs.lemmas.Bool.{cases_eq}
use Rattle.std.specs.Int.{w32, from_be_bytes}
use Rattle.pm_disk.specs.declared.area.Area.{Area}
use Rattle.pm_disk.specs.Moments.{Told, Throughout}
use Rattle.pm_disk.proofs.MomentLemmas.{at_rest, look_on}
use Rattle.pm_journal.specs.Items.{mark, size_bytes, blocks, prefix, IsItem, IsCutShort, EachFits, HasList, HasItems, EndsAt}
use Rattle.pm_journal.specs.Lists.{KeepsList, KeepsLists}
use Rattle.pm_journal.proofs.ItemsLemmas.{item_size, item_length, size_of_size_bytes, list_of_end, HasItems-unique, short_list}

same_or_not : (xs ys : List ℕ) → (xs ≡ ys) ⊎ (xs ≢ ys)
same_or_not [] [] = inl refl
same_or_not [] (y ∷ ys) = inr (λ same. cc)
same_or_not (x ∷ xs) [] = inr (λ same. cc)
same_or_not (x ∷ xs) (y ∷ ys) = elim (cases_eq x y) [
  | inl head ↦ elim (same_or_not xs ys) [
    | inl tail ↦ inl (ap (λ (n : ℕ). n ∷ xs) head ∙ ap (λ (l : List ℕ). y ∷ l) tail)
    | inr apart ↦ inr (λ same. apart (tails same))
  ]
  | inr apart ↦ inr (λ same. apart (heads same))
]
  where
    tails : x ∷ xs ≡ y ∷ ys → xs ≡ ys
    tails same = cc

    heads : x ∷ xs ≡ y ∷ ys → x ≡ y
    heads same = cc

below_or_not : (m n : ℕ) → (m < n) ⊎ (n ≤ m)
below_or_not m n = grind arith

-- The item whose length the first four bytes tell, where it and a byte more lie in the bytes.
pub found_item : (bytes : List ℕ) (n : ℕ) → size_bytes n ≡ take 4 bytes → n < 2 ^ 32 → 4 + n < length bytes
    → IsItem bytes (take n (drop 4 bytes)) (drop n (drop 4 bytes))
found_item bytes n same fits inside =
    let long : length (take n (drop 4 bytes)) ≡ n = omega (arith, length-take n (drop 4 bytes), length-drop 4 bytes) in
    record {
      is = sym (
          append_assoc (size_bytes (length (take n (drop 4 bytes)))) (take n (drop 4 bytes)) (drop n (drop 4 bytes))
          ∙ ap (λ (l : List ℕ). size_bytes (length (take n (drop 4 bytes))) ++ l) (take-append-drop n (drop 4 bytes))
          ∙ ap (λ (m : ℕ). size_bytes m ++ drop 4 bytes) long
          ∙ ap (λ (l : List ℕ). l ++ drop 4 bytes) same
          ∙ take-append-drop 4 bytes);
      fits = omega (arith, long, fits);
      gate = omega (arith, length-drop n (drop 4 bytes), length-drop 4 bytes);
    }

told_size : (bytes item after : List ℕ) → IsItem bytes item after → from_be_bytes w32 (take 4 bytes) ≡ length item
told_size bytes item after is = ap (from_be_bytes w32) (item_size bytes item after is) ∙ size_of_size_bytes (length item) is.fits

-- The item that the bytes begin with, if they begin with one.
find_item : (bytes : List ℕ) → ((item : List ℕ) × (after : List ℕ) × IsItem bytes item after) ⊎ IsCutShort bytes
find_item bytes =
    let n = from_be_bytes w32 (take 4 bytes) in
    elim (same_or_not (size_bytes n) (take 4 bytes)) [
      | inr apart ↦ inr (λ item after is. apart (ap size_bytes (told_size bytes item after is) ∙ sym (item_size bytes item after is)))
      | inl same ↦ elim (below_or_not n (2 ^ 32)) [
        | inr large ↦ inr (λ item after is. omega (arith, large, is.fits, told_size bytes item after is))
        | inl fits ↦ elim (below_or_not (4 + n) (length bytes)) [
          | inr long ↦ inr (λ item after is. omega (arith, long, is.gate, told_size bytes item after is, item_length bytes item after is))
          | inl inside ↦ inl (take n (drop 4 bytes), drop n (drop 4 bytes), found_item bytes n same fits inside)
        ]
      ]
    ]

-- The blocks from a gate on.
record HasBlocks (bytes : List ℕ) (items : List (List ℕ)) : Type 0 where
  fits : EachFits items
  gate : ℕ
  rest : List ℕ
  is : bytes ≡ blocks items ++ gate ∷ rest
  stops : (gate ≢ 1) ⊎ IsCutShort rest

push_block : (rest item after : List ℕ) (items : List (List ℕ)) → IsItem rest item after → HasBlocks after items
    → HasBlocks (1 ∷ rest) (item ∷ items)
push_block rest item after items is more = record {
  fits = (is.fits, more.fits);
  gate = more.gate;
  rest = more.rest;
  is = ap (λ (l : List ℕ). 1 ∷ l) (
      is.is
      ∙ ap (λ (l : List ℕ). size_bytes (length item) ++ item ++ l) more.is
      ∙ sym (append_assoc (size_bytes (length item) ++ item) (blocks items) (more.gate ∷ more.rest)));
  stops = more.stops;
}

has_blocks : (most : ℕ) (bytes : List ℕ) → length bytes ≤ most → 0 < length bytes
    → (items : List (List ℕ)) × HasBlocks bytes items
has_blocks zero bytes few some = absurd (omega (arith, few, some))
has_blocks (suc most) [] few some = absurd (omega (arith, some))
has_blocks (suc most) (gate ∷ rest) few some = elim (cases_eq gate 1) [
  | inr closed ↦ ([], record { fits = tt; gate = gate; rest = rest; is = refl; stops = inl closed })
  | inl is_open ↦ elim (find_item rest) [
    | inr cut ↦ ([], record { fits = tt; gate = gate; rest = rest; is = refl; stops = inr cut })
    | inl item ↦
        let shorter : length item.1 ≤ most = omega (arith, few, item_length rest item.0 item.1 item.2) in
        let more = has_blocks most item.1 shorter item.2.gate in
        (item.0 ∷ more.0, subst (λ (g : ℕ). HasBlocks (g ∷ rest) (item.0 ∷ more.0)) (sym is_open) (push_block rest item.0 item.1 more.0 item.2 more.1))
  ]
]

-- Bytes with the mark and a gate have a list.
pub HasList-exists : (bytes : List ℕ) → 8 < length bytes → take 8 bytes ≡ mark → (items : List (List ℕ)) × HasList bytes items
HasList-exists bytes long marked =
    let more = has_blocks (length (drop 8 bytes)) (drop 8 bytes) (omega arith) (omega (arith, length-drop 8 bytes)) in (
      more.0,
      record {
        fits = more.1.fits;
        gate = more.1.gate;
        rest = more.1.rest;
        is = sym (take-append-drop 8 bytes) ∙ ap (λ (l : List ℕ). l ++ drop 8 bytes) marked ∙ ap (λ (l : List ℕ). mark ++ l) more.1.is;
        stops = more.1.stops;
      },
    )

pub keeps_itself : (bytes : List ℕ) → KeepsList bytes bytes
keeps_itself bytes = record { items = λ items has. has; whole = λ whole. whole }

-- Few bytes have the empty list, whatever they are.
pub keeps_few : (before image : List ℕ) → length before ≤ 9 → length image ≤ 9 → KeepsList before image
keeps_few before image few also = record {
  items = λ items has. inl (also, short_list before items few has);
  whole = λ whole. record { ends = inl also; small = omega (arith, also) };
}

-- What follows a closed gate doesn't count.
pub ends_after_gate : (bytes image : List ℕ) (items : List (List ℕ)) (to : ℕ) (ends : EndsAt bytes items)
    → length (prefix items) + 1 ≡ to → take to image ≡ take to bytes → EndsAt image items
ends_after_gate bytes image items to ends to_is begins =
    let head : take to bytes ≡ prefix items ++ ends.gate ∷ [] =
    ap (λ (l : List ℕ). take to l) (ends.is ∙ sym (append_assoc (prefix items) (ends.gate ∷ []) ends.rest))
    ∙ take_at (prefix items ++ ends.gate ∷ []) ends.rest to (length-append (prefix items) (ends.gate ∷ []) ∙ to_is) in
    record {
      fits = ends.fits;
      gate = ends.gate;
      rest = drop to image;
      is = sym (take-append-drop to image) ∙ ap (λ (l : List ℕ). l ++ drop to image) (begins ∙ head) ∙ append_assoc (prefix items) (ends.gate ∷ []) (drop to image);
      closed = ends.closed;
    }

pub keeps_up_to_gate : (bytes image : List ℕ) (items : List (List ℕ)) (to : ℕ) → EndsAt bytes items
    → length (prefix items) + 1 ≡ to → take to image ≡ take to bytes → length image ≤ length bytes → KeepsList bytes image
keeps_up_to_gate bytes image items to ends to_is begins no_longer =
    let there = ends_after_gate bytes image items to ends to_is begins in
    record {
      items = λ others has.
          let same : others ≡ items = HasItems-unique bytes others items has (inr (list_of_end bytes items ends)) in
          subst (λ (l : List (List ℕ)). HasItems image l) (sym same) (inr (list_of_end image items there));
      whole = λ whole. record { ends = inr (items, there); small = omega (arith, whole.small, no_longer) };
    }

-- No call was made.
pub keeps_at_rest : (area : Area) (old : Told) → Throughout (KeepsLists area old.now) old old
keeps_at_rest area old = at_rest (KeepsLists area old.now) old (record { each = λ image is. (image, is, keeps_itself image); that = refl })

-- Calls that tell nothing new.
pub keeps_at_look : (area : Area) (old new : Told) → new ≡ old → Throughout (KeepsLists area old.now) old new
keeps_at_look area old new is = look_on (KeepsLists area old.now) old old new is (keeps_at_rest area old)
