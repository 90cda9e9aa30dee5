-- Names that begin with the parts of another.
use Rattle.std.proofs.Common.{◌≡◌, ◌∙◌, ℕ, ◌+◌, ◌-◌, ◌<◌, ◌≤◌, ◌⊎◌, ◌&&◌, inl, inr, Bool, true, false, cond, List, [], ◌∷◌, ◌++◌, Option, Some, None, length, take, drop, get_or, map, refl, sym, ap, eqb, suc, arith, drop-cons, add-one}
use Rattle.std.specs.Bool.{Decides}
use Rattle.std.specs.List.{join_with_byte, slice_split, onto_first, list_any}
use Rattle.std.specs.Str.{bytes_eq}
use Rattle.std.proofs.lemmas.Bool.{false_from_ne_true}
use Rattle.std.proofs.lemmas.Bool.Decides.{Decides-eqb}
use Rattle.std.proofs.lemmas.List.{map-append, append_assoc, append-nil, append_cancel_left, take-append-drop, take_at, length-append, length-map, length-drop, get_or-drop, nil_from_length}
use Rattle.std.proofs.lemmas.List.Elements.{All-from_get_or}
use Rattle.std.proofs.lemmas.List.Folds.{list_any_none}
use Rattle.std.proofs.lemmas.List.Splits.{length-slice_split, join_with_byte-slice_split}
use Rattle.std.proofs.lemmas.Slice.Eq.{bytes_eq-Decides, starts_is}
use Rattle.memchr.specs.Find.{IsLastByte, is_byte}
use Rattle.pm_base.specs.Pieces.{pieces_of}
use Rattle.pm_dn.specs.Name.{Part, IsNameOf, part_of, part_text, name_text, name_of}
use Rattle.pm_dn.specs.Refusal.{first_code, part_refusal, name_refusal}
use Rattle.pm_dn.specs.Containment.{superior_text}
use Rattle.pm_dn.specs.Tree.{part_eq, is_under}
use Rattle.pm_dn.proofs.PieceLemmas.{is_comma, pieces_of-one}
use Rattle.pm_dn.proofs.NameLemmas.{IsNameOf-name_of, parts-of-unbroken, parts-none}

onto_first-append : {X : Type 0} (x : X) (parts more : List (List X)) → 1 ≤ length parts → onto_first x (parts ++ more) ≡ onto_first x parts ++ more
onto_first-append x [] more least = absurd (omega arith)
onto_first-append x (part ∷ parts) more least = refl

split-step : {X : Type 0} (here : Bool) (x : X) (whole parts more : List (List X)) → 1 ≤ length parts → whole ≡ parts ++ more → cond here ([] ∷ whole) (onto_first x whole) ≡ cond here ([] ∷ parts) (onto_first x parts) ++ more
split-step true x whole parts more least is = ap (λ l. [] ∷ l) is
split-step false x whole parts more least is = ap (onto_first x) is ∙ onto_first-append x parts more least

-- a list that is joined at an element that passes is split there
pub slice_split-append : {X : Type 0} (p : X → Bool) (xs : List X) (y : X) (ys : List X) → p y ≡ true → slice_split p (xs ++ y ∷ ys) ≡ slice_split p xs ++ slice_split p ys
slice_split-append p [] y ys passes = rw passes
slice_split-append p (x ∷ xs) y ys passes =
    split-step (p x) x (slice_split p (xs ++ y ∷ ys)) (slice_split p xs) (slice_split p ys) (omega (arith, length-slice_split p xs)) (slice_split-append p xs y ys passes)

pub join_with_byte-append : (c : ℕ) (xs : List (List ℕ)) (y : List ℕ) (ys : List (List ℕ)) → 1 ≤ length xs → join_with_byte c (xs ++ y ∷ ys) ≡ join_with_byte c xs ++ (c ∷ join_with_byte c (y ∷ ys))
join_with_byte-append c [] y ys least = absurd (omega arith)
join_with_byte-append c (x ∷ []) y ys least = refl
join_with_byte-append c (x ∷ z ∷ xs) y ys least =
    ap (λ l. x ++ (c ∷ l)) (join_with_byte-append c (z ∷ xs) y ys (omega arith))
    ∙ sym (append_assoc x (c ∷ join_with_byte c (z ∷ xs)) (c ∷ join_with_byte c (y ∷ ys)))

-- the name of two texts with a comma between them
pub name_of-append : (front rest : List ℕ) → name_of (front ++ 44 ∷ rest) ≡ name_of front ++ name_of rest
name_of-append front rest = ap (map part_of) (slice_split-append is_comma front 44 rest refl) ∙ map-append part_of (pieces_of 44 front) (pieces_of 44 rest)

-- a name that begins with the parts of another is that one, or has its text and a comma in front
pub text-of-prefix : (root text : List ℕ) (more : List Part) → IsNameOf root (name_of root) → IsNameOf text (name_of text) → name_of text ≡ name_of root ++ more → (text ≡ root) ⊎ ((rest : List ℕ) × (text ≡ root ++ 44 ∷ rest))
text-of-prefix root text [] named named' is =
    inl (sym named'.text ∙ ap name_text (is ∙ append-nil (name_of root)) ∙ named.text)
text-of-prefix root text (m ∷ ms) named named' is =
    let parts : map part_text (name_of root ++ m ∷ ms) ≡ map part_text (name_of root) ++ part_text m ∷ map part_text ms = map-append part_text (name_of root) (m ∷ ms) in
    inr (
      join_with_byte 44 (part_text m ∷ map part_text ms),
      sym named'.text ∙ ap name_text is ∙ ap (join_with_byte 44) parts
          ∙ join_with_byte-append 44 (map part_text (name_of root)) (part_text m) (map part_text ms) (omega (arith, length-map (name_of root) part_text, named.least))
          ∙ ap (λ l. l ++ (44 ∷ join_with_byte 44 (part_text m ∷ map part_text ms))) named.text,
    )

both-true : (a b : Bool) → (a && b) ≡ true → (a ≡ true) × (b ≡ true)
both-true true b is = (refl, is)
both-true false b is = cc

same-part : (c i d j : List ℕ) → c ≡ d → i ≡ j → let p : Part = record { class = c; id = i } in p ≡ record { class = d; id = j }
same-part c i d j p q = rw (p, q)

pub part_eq-Decides : (a b : Part) → Decides (part_eq a b) (a ≡ b)
part_eq-Decides a b = (
  λ is. let both = both-true (bytes_eq a.class b.class) (bytes_eq a.id b.id) is in same-part a.class a.id b.class b.id ((bytes_eq-Decides a.class b.class).0 both.0) ((bytes_eq-Decides a.id b.id).0 both.1),
  λ is.
      rw ((bytes_eq-Decides a.class b.class).1 (ap (λ (p : Part). p.class) is)) ((bytes_eq-Decides a.id b.id).1 (ap (λ (p : Part). p.id) is)),
)

-- `is_under` says that the root's parts come first
pub is_under-from_prefix : (root text : List ℕ) (more : List Part) → name_of text ≡ name_of root ++ more → is_under root text ≡ true
is_under-from_prefix root text more is = (starts_is part_eq-Decides (name_of text) (name_of root) (is_under root text) refl).1 more is

pub prefix-from_is_under : (root text : List ℕ) → is_under root text ≡ true → name_of text ≡ name_of root ++ drop (length (name_of root)) (name_of text)
prefix-from_is_under root text is = (starts_is part_eq-Decides (name_of text) (name_of root) (is_under root text) refl).0 is

-- the root itself
pub is_under-same : (root text : List ℕ) → text ≡ root → is_under root text ≡ true
is_under-same root text is = is_under-from_prefix root text [] (ap name_of is ∙ sym (append-nil (name_of root)))

-- a text that doesn't begin with the root's
pub is_under-none : (root text : List ℕ) → name_refusal root ≡ None → name_refusal text ≡ None → ((rest : List ℕ) → text ≡ root ++ rest → ⊥) → is_under root text ≡ false
is_under-none root text named named' none = false_from_ne_true (is_under root text) (λ is.
    elim (text-of-prefix root text _ (IsNameOf-name_of root named) (IsNameOf-name_of text named') (prefix-from_is_under root text is)) [
      | inl same ↦ none [] (same ∙ sym (append-nil root))
      | inr more ↦ none (44 ∷ more.0) more.1
    ])

more-step : (root text : List ℕ) (b : ℕ) (rest : List ℕ) → name_refusal root ≡ None → name_refusal text ≡ None → text ≡ root ++ b ∷ rest → (t : Bool) → eqb b 44 ≡ t → eqb b 44 ≡ is_under root text
more-step root text b rest named named' is true comma =
    let b-is : b ≡ 44 = (Decides-eqb b 44).0 comma in
    comma ∙ sym (is_under-from_prefix root text (name_of rest) (ap name_of (is ∙ ap (λ x. root ++ x ∷ rest) b-is) ∙ name_of-append root rest))
more-step root text b rest named named' is false other =
    other ∙ sym (false_from_ne_true (is_under root text) (λ under.
    elim (text-of-prefix root text _ (IsNameOf-name_of root named) (IsNameOf-name_of text named') (prefix-from_is_under root text under)) [
      | inl same ↦ absurd (omega (arith, ap length (sym same ∙ is), length-append root (b ∷ rest)))
      | inr more ↦
          let tails : 44 ∷ more.0 ≡ b ∷ rest = append_cancel_left root (44 ∷ more.0) (b ∷ rest) (sym more.1 ∙ is) in
          let b-is : b ≡ 44 = cc in
          let comma : eqb b 44 ≡ true = (Decides-eqb b 44).1 b-is in cc
    ]))

-- a text that goes on behind the root's
pub is_under-more : (root text : List ℕ) (b : ℕ) (rest : List ℕ) → name_refusal root ≡ None → name_refusal text ≡ None → text ≡ root ++ b ∷ rest → eqb b 44 ≡ is_under root text
is_under-more root text b rest named named' is = more-step root text b rest named named' is (eqb b 44) refl

-- what the code asks of the bytes behind the root's
pub under-end : (root text rest : List ℕ) → text ≡ root ++ rest → length rest ≡ 0 → is_under root text ≡ true
under-end root text rest is none =
    let empty : rest ≡ [] = nil_from_length rest none in is_under-same root text (is ∙ ap (λ l. root ++ l) empty ∙ append-nil root)

pub under-more : (root text rest : List ℕ) → name_refusal root ≡ None → name_refusal text ≡ None → text ≡ root ++ rest → 0 < length rest → eqb (get_or rest 0 0) 44 ≡ is_under root text
under-more root text [] named named' is some = absurd (omega arith)
under-more root text (b ∷ rest) named named' is some = is_under-more root text b rest named named' is

first_code-front : {E : Type 0} (xs ys : List (Option E)) → first_code (xs ++ ys) ≡ None → first_code xs ≡ None
first_code-front [] ys none = refl
first_code-front (Some code ∷ xs) ys none = cc
first_code-front (None ∷ xs) ys none = first_code-front xs ys none

lacks-behind : (byte : ℕ) (bytes : List ℕ) (from : ℕ) → ((k : ℕ) → from ≤ k → k < length bytes → eqb (get_or bytes k 0) byte ≡ true → ⊥) → list_any (λ b. eqb b byte) (drop from bytes) ≡ false
lacks-behind byte bytes from after =
    list_any_none (λ b. eqb b byte) (drop from bytes)
    (All-from_get_or (λ b. eqb b byte ≡ false) (drop from bytes) 0 (λ i lt.
    rw (get_or-drop from bytes i 0) (false_from_ne_true _ (after (from + i) (omega arith) (omega (arith, length-drop from bytes))))))

-- the text before the last comma is that of the superior
pub superior-some : (bytes : List ℕ) (at : ℕ) → name_refusal bytes ≡ None → IsLastByte (is_byte 44) bytes (Some at) → take at bytes ≡ superior_text bytes
superior-some bytes at none is =
    let front = take at bytes in
    let last = drop (at + 1) bytes in
    let lacks : list_any is_comma last ≡ false = lacks-behind 44 bytes (at + 1) is.0.after in
    let comma : get_or bytes at 0 ≡ 44 = (Decides-eqb _ 44).0 is.1 in
    let cut : drop at bytes ≡ 44 ∷ last = rw add-one (drop-cons bytes at 0 is.0.high ∙ ap (λ b. b ∷ drop (suc at) bytes) comma) in
    let whole : bytes ≡ front ++ 44 ∷ last = sym (take-append-drop at bytes) ∙ ap (λ l. front ++ l) cut in
    let cuts : pieces_of 44 bytes ≡ pieces_of 44 front ++ last ∷ [] =
    ap (pieces_of 44) whole ∙ slice_split-append is_comma front 44 last refl ∙ ap (λ l. pieces_of 44 front ++ l) (pieces_of-one 44 last lacks) in
    let names : name_of bytes ≡ name_of front ++ part_of last ∷ [] = ap (map part_of) cuts ∙ map-append part_of (pieces_of 44 front) (last ∷ []) in
    let short : length (name_of bytes) - 1 ≡ length (name_of front) = omega (arith, ap length names, length-append (name_of front) (part_of last ∷ [])) in
    let outer : take (length (name_of bytes) - 1) (name_of bytes) ≡ name_of front =
    ap (λ n. take n (name_of bytes)) short ∙ ap (take (length (name_of front))) names ∙ take_at (name_of front) (part_of last ∷ []) (length (name_of front)) refl in
    let unbroken : first_code (map part_refusal (pieces_of 44 bytes)) ≡ None = parts-none bytes none in
    let front-none : first_code (map part_refusal (pieces_of 44 front)) ≡ None =
    first_code-front (map part_refusal (pieces_of 44 front)) (part_refusal last ∷ [])
    (ap first_code (sym (map-append part_refusal (pieces_of 44 front) (last ∷ []))) ∙ ap (λ l. first_code (map part_refusal l)) (sym cuts) ∙ unbroken) in
    let texts : map part_text (name_of front) ≡ pieces_of 44 front = (parts-of-unbroken (pieces_of 44 front) front-none).1 in
    sym (ap name_text outer ∙ ap (join_with_byte 44) texts ∙ join_with_byte-slice_split 44 front)

-- a name of one part has no superior
pub superior-none : (bytes : List ℕ) → IsLastByte (is_byte 44) bytes None → superior_text bytes ≡ []
superior-none bytes nowhere =
    let lacks : list_any is_comma bytes ≡ false = list_any_none is_comma bytes (All-from_get_or (λ b. is_comma b ≡ false) bytes 0 (λ k lt. false_from_ne_true _ (nowhere k (omega arith) lt))) in
    let cuts : pieces_of 44 bytes ≡ bytes ∷ [] = pieces_of-one 44 bytes lacks in
    let names : name_of bytes ≡ part_of bytes ∷ [] = ap (map part_of) cuts in
    ap (λ l. name_text (take (length l - 1) l)) names
