-- Where the files of a store lie, and what the area has there.
use Rattle.std.proofs.Common.{◌≡◌, ℕ, ◌+◌, ◌≤◌, Bool, true, false, inl, inr, List, [], ◌∷◌, ◌++◌, length, map, take, drop, Some, None, refl, sym, ap, subst, ◌∙◌, arith, append_assoc, length-append}
use Rattle.std.specs.Prelude.{◌||◌, cond, bytes_eq}
use Rattle.std.specs.Cmp.Lexicographic.{bytes_decides}
use Rattle.std.proofs.lemmas.Bool.{false≢true, cases_Bool, cond-true, cond-false}
use Rattle.std.proofs.lemmas.Cmp.{nat_list_eq_equiv}
use Rattle.std.proofs.lemmas.List.{take_at, drop_at}
use Rattle.pm_journal.specs.Items.{size_bytes, blocks, prefix}
use Rattle.pm_journal.proofs.ItemsLemmas.{length-size_bytes}
use Rattle.pm_collect.specs.declared.names.Place.{Place}
use Rattle.pm_collect.specs.Call.{is_one_of}
use Rattle.pm_collect.specs.Stored.{HeldFile, item_of}
use Rattle.pm_collect.specs.Collector.{names_in}
use Rattle.pm_collect.specs.Places.{item_room, file_offset, place_from, place_in, text_in}
use Rattle.pm_collect.proofs.ItemLemmas.{item_length}

none_there : (a b : Bool) → a || b ≡ false → (a ≡ false) × (b ≡ false)
none_there true b is = absurd (false≢true (sym is))
none_there false b is = (refl, is)

-- The gate, the length and the item of a file.
abbrev block : HeldFile → List ℕ
block f = 1 ∷ size_bytes (length (item_of f)) ++ item_of f

block_length : (f : HeldFile) → length (block f) ≡ item_room f.name f.text
block_length f =
    omega (arith, length-append (size_bytes (length (item_of f))) (item_of f), length-size_bytes (length (item_of f)), item_length f (item_of f) refl)

first_block : (f : HeldFile) (files : List HeldFile) → blocks (map item_of (f ∷ files)) ≡ block f ++ blocks (map item_of files)
first_block f files = simp append_assoc refl

length-blocks : (f : HeldFile) (files : List HeldFile) → length (blocks (map item_of (f ∷ files))) ≡ item_room f.name f.text + length (blocks (map item_of files))
length-blocks f files =
    omega (arith, ap length (first_block f files), length-append (block f) (blocks (map item_of files)), block_length f)

swap : {X : Type 0} (a b : Bool) (x y z : X) → (a ≡ true → b ≡ true → ⊥) → cond a x (cond b y z) ≡ cond b y (cond a x z)
swap true true x y z apart = absurd (apart refl refl)
swap true false x y z apart = refl
swap false true x y z apart = refl
swap false false x y z apart = refl

-- With one file more behind them, the files lie where they lay.
pub place_more : (gate at : ℕ) (files : List HeldFile) (f : HeldFile) (name : List ℕ) → at ≡ gate + length (blocks (map item_of files))
    → is_one_of (names_in files) f.name ≡ false
    → place_from gate (files ++ f ∷ []) name ≡ cond (bytes_eq name f.name) (Some (record { offset = file_offset at f.name; size = length f.text })) (place_from gate files name)
place_more gate at [] f name is absent =
    let same : gate ≡ at = omega (arith, is) in
    ap (λ (n : ℕ). cond (bytes_eq name f.name) (Some (record { offset = file_offset n f.name; size = length f.text })) None) same
place_more gate at (g ∷ files) f name is absent =
    let free = none_there (bytes_eq f.name g.name) (is_one_of (names_in files) f.name) absent in
    ap (cond (bytes_eq name g.name) (Some (record { offset = file_offset gate g.name; size = length g.text })))
    (place_more (gate + item_room g.name g.text) at files f name (omega (arith, is, length-blocks g files)) free.1)
    ∙ swap (bytes_eq name g.name) (bytes_eq name f.name) _ _ _ (both free.0)
  where
    both : bytes_eq f.name g.name ≡ false → bytes_eq name g.name ≡ true → bytes_eq name f.name ≡ true → ⊥
    both apart first second =
        false≢true (sym apart ∙ subst (λ (l : List ℕ). bytes_eq l g.name ≡ true) ((bytes_decides name f.name).0 second) first)

-- The same in a store.
pub place_in_more : (files : List HeldFile) (f : HeldFile) (name : List ℕ) → is_one_of (names_in files) f.name ≡ false
    → place_in (files ++ f ∷ []) name
    ≡ cond (bytes_eq f.name name) (Some (record { offset = file_offset (length (prefix (map item_of files))) f.name; size = length f.text })) (place_in files name)
place_in_more files f name absent =
    place_more 8 (length (prefix (map item_of files))) files f name (omega arith) absent
    ∙ ap (λ (b : Bool). cond b (Some (record { offset = file_offset (length (prefix (map item_of files))) f.name; size = length f.text })) (place_in files name)) (nat_list_eq_equiv.symm name f.name)

-- The place of a file whose item is added behind those of these files.
pub record IsPlaceAfter (files : List HeldFile) (f : HeldFile) (place : Place) : Type 0 where
  pub offset : place.offset ≡ file_offset (length (prefix (map item_of files))) f.name
  pub size : place.size ≡ length f.text

abbrev place : ℕ → ℕ → Place
place offset size = record { offset = offset; size = size }

pub place_is : (p : Place) (offset size : ℕ) → p.offset ≡ offset → p.size ≡ size → p ≡ record { offset = offset; size = size }
place_is p offset size first second =
    ap (λ (n : ℕ). place n p.size) first ∙ ap (place offset) second

pub placed_more : (files : List HeldFile) (f : HeldFile) (place : Place) (name : List ℕ) → IsPlaceAfter files f place → is_one_of (names_in files) f.name ≡ false
    → cond (bytes_eq f.name name) (Some place) (place_in files name) ≡ place_in (files ++ f ∷ []) name
placed_more files f place name is absent =
    ap (λ (p : Place). cond (bytes_eq f.name name) (Some p) (place_in files name)) (place_is place _ _ is.offset is.size)
    ∙ sym (place_in_more files f name absent)

-- ---- what the area has there

-- What is in front of the text in the block of a file.
abbrev front : HeldFile → List ℕ
front f = 1 ∷ (size_bytes (length (item_of f)) ++ (1 ∷ length f.name ∷ (f.name ++ size_bytes (length f.text))))

front_length : (f : HeldFile) → length (front f) ≡ 11 + length f.name
front_length f =
    omega (
      arith,
      length-append (size_bytes (length (item_of f))) (1 ∷ length f.name ∷ (f.name ++ size_bytes (length f.text))),
      length-append f.name (size_bytes (length f.text)),
      length-size_bytes (length (item_of f)),
      length-size_bytes (length f.text),
    )

around : (before : List ℕ) (f : HeldFile) (files : List HeldFile) (rest : List ℕ)
    → before ++ (blocks (map item_of (f ∷ files)) ++ rest) ≡ (before ++ front f) ++ (f.text ++ (blocks (map item_of files) ++ rest))
unfolding size_bytes
around before f files rest = simp append_assoc refl

behind : (before : List ℕ) (f : HeldFile) (files : List HeldFile) (rest : List ℕ)
    → before ++ (blocks (map item_of (f ∷ files)) ++ rest) ≡ (before ++ block f) ++ (blocks (map item_of files) ++ rest)
unfolding size_bytes
behind before f files rest = simp append_assoc refl

-- A file has its text where it lies.
pub record LiesIn (bytes : List ℕ) (files : List HeldFile) (name : List ℕ) (place : Place) : Type 0 where
  pub within : place.offset + place.size ≤ length bytes
  pub text : text_in files name ≡ Some (take place.size (drop place.offset bytes))

some_place : (p q : Place) → Some p ≡ Some q → p ≡ q
some_place p q is = cc

lies_first : (before : List ℕ) (f : HeldFile) (files : List HeldFile) (rest : List ℕ) (name : List ℕ) → bytes_eq name f.name ≡ true
    → LiesIn (before ++ (blocks (map item_of (f ∷ files)) ++ rest)) (f ∷ files) name (record { offset = file_offset (length before) f.name; size = length f.text })
lies_first before f files rest name here = record {
  within = omega (arith, ap length is, length-append (before ++ front f) (f.text ++ behind_text), length-append f.text behind_text, counts);
  text = cond-true (bytes_eq name f.name) _ _ here ∙ ap (λ (l : List ℕ). Some l) (sym found);
}
  where
    behind_text : List ℕ
    behind_text = blocks (map item_of files) ++ rest

    is : before ++ (blocks (map item_of (f ∷ files)) ++ rest) ≡ (before ++ front f) ++ (f.text ++ behind_text)
    is = around before f files rest

    counts : length (before ++ front f) ≡ length before + 11 + length f.name
    counts = omega (arith, length-append before (front f), front_length f)

    found : take (length f.text) (drop (length before + 11 + length f.name) (before ++ (blocks (map item_of (f ∷ files)) ++ rest))) ≡ f.text
    found =
        ap (λ (l : List ℕ). take (length f.text) (drop (length before + 11 + length f.name) l)) is
        ∙ ap (take (length f.text)) (drop_at (before ++ front f) (f.text ++ behind_text) (length before + 11 + length f.name) counts)
        ∙ take_at f.text behind_text (length f.text) refl

pub lies_from : (before : List ℕ) (files : List HeldFile) (rest : List ℕ) (name : List ℕ) (place : Place) → place_from (length before) files name ≡ Some place
    → LiesIn (before ++ (blocks (map item_of files) ++ rest)) files name place
lies_from before [] rest name place is = absurd (none_some is)
  where
    none_some : None ≡ Some place → ⊥
    none_some e = cc
lies_from before (f ∷ files) rest name place is = elim (cases_Bool (bytes_eq name f.name)) [
  | inl here ↦
      subst (λ (p : Place). LiesIn (before ++ (blocks (map item_of (f ∷ files)) ++ rest)) (f ∷ files) name p)
      (some_place _ place (sym (cond-true (bytes_eq name f.name) _ _ here) ∙ is))
      (lies_first before f files rest name here)
  | inr other ↦
      let counts : length (before ++ block f) ≡ length before + item_room f.name f.text = omega (arith, length-append before (block f), block_length f) in
      let next = lies_from (before ++ block f) files rest name place
      (ap (λ (n : ℕ). place_from n files name) counts ∙ sym (cond-false (bytes_eq name f.name) _ _ other) ∙ is) in
      record {
        within = omega (arith, next.within, ap length (behind before f files rest));
        text = cond-false (bytes_eq name f.name) _ _ other ∙ next.text
            ∙ ap (λ (l : List ℕ). Some (take place.size (drop place.offset l))) (sym (behind before f files rest));
      }
]
