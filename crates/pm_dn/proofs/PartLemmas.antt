-- The rules of one part, and the part that a piece spells.
use Rattle.std.proofs.Common.{◌≡◌, ◌∙◌, ℕ, ◌+◌, ◌≤◌, Bool, true, false, List, [], ◌∷◌, ◌++◌, ◌||◌, ◌&&◌, not, None, length, drop, get_or, refl, sym, ap, eqb, ltb, arith}
use Rattle.std.specs.List.{list_any, list_all, position_or_len, before_first, after_first, All}
use Rattle.std.specs.Char.{is_ascii_alphabetic, is_ascii_alphanumeric}
use Rattle.std.proofs.lemmas.Bool.{not-false, not_from_true, ltb-false, le-ltb}
use Rattle.std.proofs.lemmas.List.{take_at, drop_at, length-append, append_assoc}
use Rattle.std.proofs.lemmas.List.Elements.{All-head, All-tail, All-weaker}
use Rattle.std.proofs.lemmas.List.Sums.{split_at_first, passes_at_first, AllPass-from_list_all, list_all-from_AllPass}
use Rattle.std.proofs.lemmas.List.Folds.{list_any-append}
use Rattle.std.proofs.lemmas.Bool.Decides.{nat_tests}
use Rattle.pm_base.specs.Names.{is_name_char}
use Rattle.pm_dn.specs.Name.{Part, IsPart, part_of, part_text, is_equals}
use Rattle.pm_dn.specs.Refusal.{when_broken, first_code, part_refusal, is_of_class_alphabet, is_of_id_alphabet}
use Rattle.pm_dn.specs.declared.error.DnError.TheVariants.{N1, N2, N3, N4}
use Rattle.pm_dn.proofs.PieceLemmas.{position_or_len-lt-length}

-- nothing is refused exactly where no rule is broken
pub unbroken : {E : Type 0} (a b c d e : Bool) (p q r s t : E) → first_code (when_broken a p ∷ when_broken b q ∷ when_broken c r ∷ when_broken d s ∷ when_broken e t ∷ []) ≡ None → (a ≡ false) × (b ≡ false) × (c ≡ false) × (d ≡ false) × (e ≡ false)
unbroken true b c d e p q r s t none = cc
unbroken false true c d e p q r s t none = cc
unbroken false false true d e p q r s t none = cc
unbroken false false false true e p q r s t none = cc
unbroken false false false false true p q r s t none = cc
unbroken false false false false false p q r s t none = (refl, refl, refl, refl, refl)

pub unbroken-refusal : {E : Type 0} (a b c d e : Bool) (p q r s t : E) → a ≡ false → b ≡ false → c ≡ false → d ≡ false → e ≡ false → first_code (when_broken a p ∷ when_broken b q ∷ when_broken c r ∷ when_broken d s ∷ when_broken e t ∷ []) ≡ None
unbroken-refusal a b c d e p q r s t a0 b0 c0 d0 e0 = rw (a0, b0, c0, d0, e0)

or-left : (a b : Bool) → (a || b) ≡ false → (a ≡ false) × (b ≡ false)
or-left true b none = cc
or-left false b none = (refl, none)

and-both : (a b : Bool) → (a && b) ≡ true → (a ≡ true) × (b ≡ true)
and-both true b both = (refl, both)
and-both false b both = cc

-- what stands before and behind the first `=` gives the piece back
pub part_text-part_of : (piece : List ℕ) → list_any is_equals piece ≡ true → part_text (part_of piece) ≡ piece
part_text-part_of piece some =
    let lt = position_or_len-lt-length is_equals piece some in
    let at : get_or piece (position_or_len is_equals piece) 0 ≡ 61 = grind (arith, nat_tests, passes_at_first is_equals piece 0 lt) in
    ap (λ b. before_first is_equals piece ++ b ∷ after_first is_equals piece) (sym at) ∙ sym (split_at_first is_equals piece 0 lt)

empty-not : (n : ℕ) → eqb n 0 ≡ false → 1 ≤ n
empty-not n h = grind (arith, nat_tests)

-- a piece that breaks no rule is the text of a part
pub IsPart-part_of : (piece : List ℕ) → part_refusal piece ≡ None → IsPart (part_of piece) × (part_text (part_of piece) ≡ piece)
IsPart-part_of piece none =
    let part = part_of piece in
    let rules' =
    unbroken (eqb (length piece) 0) (not (list_any is_equals piece)) (eqb (length part.class) 0 || eqb (length part.id) 0) (not (is_of_class_alphabet part.class && is_of_id_alphabet part.id)) (ltb 64 (length part.class) || ltb 64 (length part.id)) N1 N2 N1 N3 N4 none in
    let words = or-left (eqb (length part.class) 0) (eqb (length part.id) 0) rules'.2 in
    let alphabet = and-both (is_of_class_alphabet part.class) (is_of_id_alphabet part.id) (not-false _ rules'.3) in
    let class = and-both (is_ascii_alphabetic (get_or part.class 0 0)) (list_all is_ascii_alphanumeric part.class) alphabet.0 in
    let long = or-left (ltb 64 (length part.class)) (ltb 64 (length part.id)) rules'.4 in (
      record {
        class_is = record {
          least = empty-not (length part.class) words.0;
          most = ltb-false 64 (length part.class) long.0;
          alphabet = AllPass-from_list_all is_ascii_alphanumeric part.class class.1;
          first = class.0;
        };
        id_is = record {
          least = empty-not (length part.id) words.1;
          most = ltb-false 64 (length part.id) long.1;
          alphabet = AllPass-from_list_all is_name_char part.id alphabet.1;
        };
      },
      part_text-part_of piece (not-false _ rules'.1),
    )

-- the first element that passes stands behind those that don't
pub position_or_len-append : {X : Type 0} (p : X → Bool) (xs : List X) (y : X) (ys : List X) → All (λ x. p x ≡ false) xs → p y ≡ true → position_or_len p (xs ++ y ∷ ys) ≡ length xs
position_or_len-append p [] y ys none passes = rw passes
position_or_len-append p (x ∷ xs) y ys none passes =
    rw (All-head (λ x. p x ≡ false) x xs none) (omega (arith, position_or_len-append p xs y ys (All-tail (λ x. p x ≡ false) x xs none) passes))

drop-append-cons : {X : Type 0} (xs : List X) (y : X) (ys : List X) → drop (length xs + 1) (xs ++ y ∷ ys) ≡ ys
drop-append-cons xs y ys =
    rw (← append_assoc xs (y ∷ []) ys) (drop_at (xs ++ y ∷ []) ys (length xs + 1) (length-append xs (y ∷ [])))

alphanumeric-not-equals : (b : ℕ) → is_ascii_alphanumeric b ≡ true → is_equals b ≡ false
alphanumeric-not-equals b is = grind (arith, nat_tests)

class-lacks-equals : (part : Part) → IsPart part → All (λ b. is_equals b ≡ false) part.class
class-lacks-equals part is = All-weaker (λ b. is_ascii_alphanumeric b ≡ true) (λ b. is_equals b ≡ false) alphanumeric-not-equals part.class is.class_is.alphabet

-- a part is the one that its text spells
pub part_of-part_text : (part : Part) → IsPart part → part_of (part_text part) ≡ part
part_of-part_text part is =
    let at : position_or_len is_equals (part_text part) ≡ length part.class = position_or_len-append is_equals part.class 61 part.id (class-lacks-equals part is) refl in
    let class : before_first is_equals (part_text part) ≡ part.class = rw at (take_at part.class (61 ∷ part.id) (length part.class) refl) in
    let id : after_first is_equals (part_text part) ≡ part.id = rw at (drop-append-cons part.class 61 part.id) in
    let both : (c i : List ℕ) → c ≡ part.class → i ≡ part.id → record { class = c; id = i } ≡ part = λ c i p q. rw (p, q) in
    both _ _ class id

not-empty : (n : ℕ) → 1 ≤ n → eqb n 0 ≡ false
not-empty n h = grind (arith, nat_tests)

or-none : (a b : Bool) → a ≡ false → b ≡ false → (a || b) ≡ false
or-none a b a0 b0 = rw (a0, b0)

and-all : (a b : Bool) → a ≡ true → b ≡ true → (a && b) ≡ true
and-all a b a1 b1 = rw (a1, b1)

-- a piece with an `=` that spells a part breaks no rule
refusal-of-part : (piece : List ℕ) (part : Part) → IsPart part → part_of piece ≡ part → 1 ≤ length piece → list_any is_equals piece ≡ true → part_refusal piece ≡ None
refusal-of-part piece part is spells least some =
    let class' : part.class ≡ (part_of piece).class = ap (λ (p : Part). p.class) (sym spells) in
    let id' : part.id ≡ (part_of piece).id = ap (λ (p : Part). p.id) (sym spells) in
    let on = λ (c i : List ℕ). unbroken-refusal (eqb (length piece) 0) (not (list_any is_equals piece)) (eqb (length c) 0 || eqb (length i) 0) (not (is_of_class_alphabet c && is_of_id_alphabet i)) (ltb 64 (length c) || ltb 64 (length i)) N1 N2 N1 N3 N4 in
    let class : is_of_class_alphabet part.class ≡ true =
    and-all (is_ascii_alphabetic (get_or part.class 0 0)) (list_all is_ascii_alphanumeric part.class) is.class_is.first (list_all-from_AllPass is_ascii_alphanumeric part.class is.class_is.alphabet) in
    let id : is_of_id_alphabet part.id ≡ true = list_all-from_AllPass is_name_char part.id is.id_is.alphabet in
    rw (← class', ← id')
    (on part.class part.id (not-empty _ least) (not_from_true _ some)
    (or-none _ _ (not-empty _ is.class_is.least) (not-empty _ is.id_is.least))
    (not_from_true _ (and-all _ _ class id))
    (or-none _ _ (le-ltb 64 _ is.class_is.most) (le-ltb 64 _ is.id_is.most)))

-- the text of a part breaks no rule
pub part_refusal-part_text : (part : Part) → IsPart part → part_refusal (part_text part) ≡ None
part_refusal-part_text part is =
    refusal-of-part (part_text part) part is (part_of-part_text part is) (omega (arith, length-append part.class (61 ∷ part.id)))
    (list_any-append is_equals part.class (61 ∷ part.id) ∙ grind arith)
