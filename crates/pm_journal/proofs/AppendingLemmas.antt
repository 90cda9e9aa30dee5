-- The lists of the images while an item is added, and the journal after it.
use Rattle.std.proofs.Common.{◌≡◌, ◌⊎◌, inl, inr, ℕ, ◌+◌, ◌<◌, ◌≤◌, ◌^◌, List, [], ◌∷◌, ◌++◌, length, take, set, Result, Ok, Err, OnOk, refl, sym, ◌∙◌, ap, subst, arith, append_assoc, length-append}
use Rattle.std.proofs.lemmas.List.{append-nil, set_at, take_all, take_at}
use Rattle.std.proofs.lemmas.Bool.{cases_eq}
use Rattle.pm_disk.specs.declared.area.Area.{Area}
use Rattle.pm_disk.specs.Area.{AreaState, clean}
use Rattle.pm_disk.specs.Moments.{DiskState, Told, Throughout, of, other}
use Rattle.pm_disk.proofs.MomentLemmas.{at_rest}
use Rattle.pm_journal.specs.declared.journal.Journal.{Journal}
use Rattle.pm_journal.specs.declared.phase.Phase.TheVariants.{Ready}
use Rattle.pm_journal.specs.Items.{size_bytes, prefix, with_item, EachFits, HasList, HasItems, EndsAt, IsWhole}
use Rattle.pm_journal.specs.Lists.{HasEither}
use Rattle.pm_journal.specs.Journal.{IsAt, IsAtEnd}
use Rattle.pm_journal.specs.Appending.{IsStaging, IsOpening}
use Rattle.pm_journal.proofs.ImageLemmas.{only_image}
use Rattle.pm_journal.proofs.ItemsLemmas.{length-size_bytes, prefix_push, length-prefix_push, list_of_end, EachFits-append, EachFits-left}
use Rattle.pm_journal.proofs.ListLemmas.{ends_after_gate}

pub end_of : (bytes : List ℕ) (items : List (List ℕ)) → EachFits items → IsAtEnd bytes items → EndsAt bytes items
end_of bytes items fits end = record { fits = fits; gate = end.gate; rest = []; is = end.is; closed = end.closed }

pub length_at_end : (bytes : List ℕ) (items : List (List ℕ)) → IsAtEnd bytes items → length bytes ≡ length (prefix items) + 1
length_at_end bytes items end = ap length end.is ∙ length-append (prefix items) (end.gate ∷ [])

-- An image whose list ends at a closed gate has that list, and is whole.
has_before : (image : List ℕ) (items after : List (List ℕ)) → EndsAt image items → length image ≤ 2 ^ 32
    → IsWhole image × (HasItems image items ⊎ HasItems image after)
has_before image items after ends small = (record { ends = inr (items, ends); small = small }, inl (inr (list_of_end image items ends)))

has_after : (image : List ℕ) (items after : List (List ℕ)) → EndsAt image after → length image ≤ 2 ^ 32
    → IsWhole image × (HasItems image items ⊎ HasItems image after)
has_after image items after ends small = (record { ends = inr (after, ends); small = small }, inr (inr (list_of_end image after ends)))

-- While the item is put after the closed gate.
pub either_staging : (area : Area) (most : ℕ) (old state : DiskState) (items after : List (List ℕ)) → EachFits items
    → IsAtEnd (of old area).seen items → most ≤ 2 ^ 32 → IsStaging area most old state → HasEither area old items after state
either_staging area most old state items after fits end small at = record {
  each = λ image is.
      let seen = (of old area).seen in
      let begins : take (length seen) image ≡ take (length seen) seen = at.begins image is ∙ sym (take_all (length seen) seen (omega arith)) in
      has_before image items after (ends_after_gate seen image items (length seen) (end_of seen items fits end) (sym (length_at_end seen items end)) begins) (omega (arith, at.no_longer image is, small));
  that = at.that;
}

-- An area with an item after a gate of this value.
abbrev pub staged : List (List ℕ) → ℕ → List ℕ → List ℕ
staged items gate item = prefix items ++ gate ∷ (size_bytes (length item) ++ item ++ 0 ∷ [])

pub staged_from : (seen item : List ℕ) (items : List (List ℕ)) (end : IsAtEnd seen items)
    → seen ++ size_bytes (length item) ++ item ++ 0 ∷ [] ≡ staged items end.gate item
staged_from seen item items end =
    ap (λ (l : List ℕ). l ++ size_bytes (length item) ++ item ++ 0 ∷ []) end.is
    ∙ simp append_assoc

length-staged : (items : List (List ℕ)) (gate : ℕ) (item : List ℕ)
    → length (staged items gate item) ≡ length (prefix items) + 6 + length item
length-staged items gate item =
    omega (
      arith,
      length-append (prefix items) (gate ∷ (size_bytes (length item) ++ item ++ 0 ∷ [])),
      length-append (size_bytes (length item) ++ item) (0 ∷ []),
      length-append (size_bytes (length item)) item,
      length-size_bytes (length item),
    )

any_gate : (items : List (List ℕ)) (item : List ℕ) (byte : ℕ) → EachFits items → length item < 2 ^ 32
    → length (prefix items) + 6 + length item ≤ 2 ^ 32
    → IsWhole (staged items byte item) × (HasItems (staged items byte item) items ⊎ HasItems (staged items byte item) (items ++ item ∷ []))
any_gate items item byte fits item_fits small = elim (cases_eq byte 1) [
  | inl is_open ↦ has_after (staged items byte item) items (items ++ item ∷ []) (record {
    fits = EachFits-append items (item ∷ []) fits (item_fits, tt);
    gate = 0;
    rest = [];
    is = ap (λ (b : ℕ). staged items b item) is_open ∙ sym (prefix_push items item (0 ∷ []));
    closed = omega arith;
  }) (omega (arith, length-staged items byte item, small))
  | inr closed ↦ has_before (staged items byte item) items (items ++ item ∷ []) (record {
    fits = fits;
    gate = byte;
    rest = size_bytes (length item) ++ item ++ 0 ∷ [];
    is = refl;
    closed = closed;
  }) (omega (arith, length-staged items byte item, small))
]

-- While its gate is opened.
pub either_opening : (area : Area) (gate byte : ℕ) (old staging state : DiskState) (items : List (List ℕ)) (item : List ℕ)
    → EachFits items → gate + 6 + length item ≤ 2 ^ 32 → gate ≡ length (prefix items)
    → (of staging area).seen ≡ staged items byte item → of staging (other area) ≡ of old (other area)
    → IsOpening area gate staging state → HasEither area old items (items ++ item ∷ []) state
either_opening area gate byte old staging state items item fits small gate_is seen_is that_is at = record {
  each = λ image is.
      let image_is = at.images image is in
      let whole : image ≡ staged items image_is.0 item =
      image_is.1 ∙ ap (λ (l : List ℕ). set l gate image_is.0) seen_is ∙ set_at (prefix items) byte (size_bytes (length item) ++ item ++ 0 ∷ []) image_is.0 gate (sym gate_is) in
      subst (λ (l : List ℕ). IsWhole l × (HasItems l items ⊎ HasItems l (items ++ item ∷ []))) (sym whole) (any_gate items item image_is.0 fits (omega (arith, small)) (omega (arith, small, gate_is)));
  that = at.that ∙ that_is;
}

pub stored_is : {E : Type 0} (gate byte : ℕ) (new : AreaState) (items : List (List ℕ)) (item seen : List ℕ) (result : Result Unit E)
    → gate ≡ length (prefix items) → seen ≡ staged items byte item → OnOk result (new ≡ clean (set seen gate 1))
    → OnOk result (new ≡ clean (prefix (items ++ item ∷ []) ++ 0 ∷ []))
stored_is gate byte new items item seen (Ok u) gate_is seen_is new_is =
    let opened : set seen gate 1 ≡ staged items 1 item =
    ap (λ (l : List ℕ). set l gate 1) seen_is ∙ set_at (prefix items) byte (size_bytes (length item) ++ item ++ 0 ∷ []) 1 gate (sym gate_is) in
    new_is ∙ ap clean (opened ∙ sym (prefix_push items item (0 ∷ [])))
stored_is gate byte new items item seen (Err e) gate_is seen_is new_is = tt

-- What the area reads then is what it read before, with the item.
pub grown_is : (gate : ℕ) (new : AreaState) (items : List (List ℕ)) (item seen : List ℕ) → IsAtEnd seen items
    → gate ≡ length (prefix items) → new ≡ clean (prefix (items ++ item ∷ []) ++ 0 ∷ []) → new.seen ≡ with_item seen gate item
grown_is gate new items item seen end gate_is is =
    let kept : take gate seen ≡ prefix items = ap (take gate) end.is ∙ take_at (prefix items) (end.gate ∷ []) gate (sym gate_is) in
    ap (λ (a : AreaState). a.seen) is
    ∙ prefix_push items item (0 ∷ [])
    ∙ sym (ap (λ (l : List ℕ). l ++ 1 ∷ size_bytes (length item) ++ item ++ 0 ∷ []) kept ∙ simp append_assoc)

pub fits_given : (bytes : List ℕ) (items : List (List ℕ)) → HasList bytes (items ++ []) → EachFits items
fits_given bytes items list = EachFits-left items [] list.fits

-- Where no call was made.
pub either_at_rest : (area : Area) (old : Told) (journal : Journal) (items after : List (List ℕ))
    → IsAt journal (of old.now area) items [] → journal.phase ≡ Ready → journal.length ≤ 2 ^ 32
    → Throughout (HasEither area old.now items after) old old
either_at_rest area old journal items after at ready small = at_rest (HasEither area old.now items after) old (record {
  each = λ image is.
      let seen = (of old.now area).seen in
      let same : image ≡ seen = only_image seen image (of old.now area) at.on_disk is in
      subst (λ (l : List ℕ). IsWhole l × (HasItems l items ⊎ HasItems l after)) (sym same)
      (has_before seen items after (end_of seen items (fits_given seen items at.list) (at.ready ready)) (omega (arith, at.length, small)));
  that = refl;
})

-- The journal after an item that was added.
pub at_grown : (old new : Journal) (area area' : AreaState) (items : List (List ℕ)) (item : List ℕ) → IsAt old area items []
    → old.phase ≡ Ready → length item < 2 ^ 32 → area' ≡ clean (prefix (items ++ item ∷ []) ++ 0 ∷ [])
    → new.length ≡ old.length + 5 + length item → new.at + 1 ≡ new.length → IsAt new area' (items ++ item ∷ []) []
at_grown old new area area' items item at ready fits is longer gate =
    let more = items ++ item ∷ [] in
    let seen_is : area'.seen ≡ prefix more ++ 0 ∷ [] = ap (λ (a : AreaState). a.seen) is in
    let length_is : length area'.seen ≡ length (prefix more) + 1 = ap length seen_is ∙ length-append (prefix more) (0 ∷ []) in
    let before : old.length ≡ length (prefix items) + 1 = at.length ∙ length_at_end area.seen items (at.ready ready) in
    let grown = length-prefix_push items item in
    record {
      on_disk = is ∙ ap clean (sym seen_is);
      list = subst (λ (l : List (List ℕ)). HasList area'.seen l) (sym (append-nil more)) (record {
        fits = EachFits-append items (item ∷ []) (fits_given area.seen items at.list) (fits, tt);
        gate = 0;
        rest = [];
        is = seen_is;
        stops = inl (omega arith);
      });
      gate = omega (arith, gate, longer, before, grown);
      length = omega (arith, length_is, longer, before, grown);
      ready = λ ready'. record { gate = 0; closed = omega arith; is = seen_is };
    }
