-- A text is refused, or it is the text of one name.
use Rattle.std.proofs.Common.{◌≡◌, ◌∙◌, ◌⊎◌, inl, inr, not, ◌||◌, ◌&&◌, ℕ, ◌≤◌, Bool, true, false, List, [], ◌∷◌, Option, Some, None, length, map, refl, sym, ap, eqb, ltb, arith}
use Rattle.std.specs.List.{join_with_byte, list_any, All}
use Rattle.std.specs.Char.{is_ascii_alphanumeric}
use Rattle.std.proofs.lemmas.Bool.{ltb-false, le-ltb}
use Rattle.std.proofs.lemmas.Bool.Decides.{nat_tests}
use Rattle.std.proofs.lemmas.List.{length-map}
use Rattle.std.proofs.lemmas.List.Elements.{All-cons, All-head, All-tail, All-nil, All-append, All-weaker}
use Rattle.std.proofs.lemmas.List.Splits.{slice_split_none, slice_split_at, join_with_byte-slice_split}
use Rattle.pm_base.specs.Names.{is_name_char}
use Rattle.pm_base.specs.Pieces.{pieces_of}
use Rattle.pm_base.proofs.PiecesLemmas.{length-pieces_of}
use Rattle.pm_dn.specs.declared.error.DnError.{DnError}
use Rattle.pm_dn.specs.declared.error.DnError.TheVariants.{N1, N2, N3, N4, N5, Memory}
use Rattle.pm_dn.specs.Name.{Part, IsPart, IsNameOf, part_of, part_text, name_text, name_of, is_equals}
use Rattle.pm_dn.specs.Refusal.{when_broken, first_code, part_refusal, name_refusal, is_of_class_alphabet, is_of_id_alphabet}
use Rattle.pm_dn.proofs.PieceLemmas.{is_comma}
use Rattle.pm_dn.proofs.PartLemmas.{IsPart-part_of, part_of-part_text, part_refusal-part_text}

pub first_code-none : {E : Type 0} (answer : Option E) (answers : List (Option E)) → first_code (answer ∷ answers) ≡ None → (answer ≡ None) × (first_code answers ≡ None)
first_code-none (Some code) answers none = cc
first_code-none None answers none = (refl, none)

class-lacks-comma : (b : ℕ) → is_ascii_alphanumeric b ≡ true → is_comma b ≡ false
class-lacks-comma b is = grind (arith, nat_tests)

id-lacks-comma : (b : ℕ) → is_name_char b ≡ true → is_comma b ≡ false
id-lacks-comma b is = grind (arith, nat_tests)

-- no comma stands in a part
pub part_text-lacks-comma : (part : Part) → IsPart part → All (λ b. is_comma b ≡ false) (part_text part)
part_text-lacks-comma part is =
    All-append (λ b. is_comma b ≡ false) part.class (61 ∷ part.id)
    (All-weaker (λ b. is_ascii_alphanumeric b ≡ true) (λ b. is_comma b ≡ false) class-lacks-comma part.class is.class_is.alphabet)
    (All-cons (λ b. is_comma b ≡ false) 61 part.id refl (All-weaker (λ b. is_name_char b ≡ true) (λ b. is_comma b ≡ false) id-lacks-comma part.id is.id_is.alphabet))

-- the text of a name is cut into the texts of its parts
pub pieces_of-name_text : (name : List Part) → All IsPart name → 1 ≤ length name → pieces_of 44 (name_text name) ≡ map part_text name
pieces_of-name_text [] parts least = absurd (omega arith)
pieces_of-name_text (p ∷ []) parts least = slice_split_none is_comma (part_text p) (part_text-lacks-comma p (All-head IsPart p [] parts))
pieces_of-name_text (p ∷ q ∷ name) parts least =
    slice_split_at is_comma (part_text p) 44 (name_text (q ∷ name)) (part_text-lacks-comma p (All-head IsPart p (q ∷ name) parts)) refl
    ∙ ap (λ l. part_text p ∷ l) (pieces_of-name_text (q ∷ name) (All-tail IsPart p (q ∷ name) parts) (omega arith))

-- parts are those that their texts spell
pub map-part_of : (name : List Part) → All IsPart name → map part_of (map part_text name) ≡ name
map-part_of [] parts = refl
map-part_of (p ∷ name) parts =
    let head : part_of (part_text p) ≡ p = part_of-part_text p (All-head IsPart p name parts) in
    let tail : map part_of (map part_text name) ≡ name = map-part_of name (All-tail IsPart p name parts) in cc

-- no piece of them breaks a rule
pub parts-unbroken : (name : List Part) → All IsPart name → first_code (map part_refusal (map part_text name)) ≡ None
parts-unbroken [] parts = refl
parts-unbroken (p ∷ name) parts =
    let head : part_refusal (part_text p) ≡ None = part_refusal-part_text p (All-head IsPart p name parts) in
    rw head (parts-unbroken name (All-tail IsPart p name parts))

-- pieces that break no rule are the texts of their parts
pub parts-of-unbroken : (ps : List (List ℕ)) → first_code (map part_refusal ps) ≡ None → All IsPart (map part_of ps) × (map part_text (map part_of ps) ≡ ps)
parts-of-unbroken [] none = (All-nil IsPart, refl)
parts-of-unbroken (p ∷ ps) none =
    let cut = first_code-none (part_refusal p) (map part_refusal ps) none in
    let here = IsPart-part_of p cut.0 in
    let later = parts-of-unbroken ps cut.1 in
    let whole : part_text (part_of p) ∷ map part_text (map part_of ps) ≡ p ∷ ps = let head = here.1 in let tail = later.1 in cc in
    (All-cons IsPart (part_of p) (map part_of ps) here.0 later.0, whole)

stages : (a c : Bool) (r : Option DnError) → first_code (when_broken a N4 ∷ r ∷ when_broken c N5 ∷ []) ≡ None → (a ≡ false) × (r ≡ None) × (c ≡ false)
stages true c r none = cc
stages false c (Some code) none = cc
stages false true None none = cc
stages false false None none = (refl, refl, refl)

-- no part of an unbroken text breaks a rule
pub parts-none : (bytes : List ℕ) → name_refusal bytes ≡ None → first_code (map part_refusal (pieces_of 44 bytes)) ≡ None
parts-none bytes none = (stages (ltb 256 (length bytes)) (ltb 8 (length (pieces_of 44 bytes))) (first_code (map part_refusal (pieces_of 44 bytes))) none).1

-- a text that breaks no rule is the text of the name that it spells
pub IsNameOf-name_of : (bytes : List ℕ) → name_refusal bytes ≡ None → IsNameOf bytes (name_of bytes)
IsNameOf-name_of bytes none =
    let rules' = stages (ltb 256 (length bytes)) (ltb 8 (length (pieces_of 44 bytes))) (first_code (map part_refusal (pieces_of 44 bytes))) none in
    let parts = parts-of-unbroken (pieces_of 44 bytes) rules'.1 in
    let many : length (name_of bytes) ≡ length (pieces_of 44 bytes) = length-map (pieces_of 44 bytes) part_of in
    record {
      text = ap (join_with_byte 44) parts.1 ∙ join_with_byte-slice_split 44 bytes;
      parts = parts.0;
      least = omega (arith, many, (length-pieces_of 44 bytes).0);
      most = omega (arith, many, ltb-false 8 (length (pieces_of 44 bytes)) rules'.2);
      short = ltb-false 256 (length bytes) rules'.0;
    }

-- a text spells no other name than the one of which it is the text
pub name_of-is : (bytes : List ℕ) (name : List Part) → IsNameOf bytes name → name_of bytes ≡ name
name_of-is bytes name is =
    let cut : pieces_of 44 bytes ≡ map part_text name = ap (pieces_of 44) (sym is.text) ∙ pieces_of-name_text name is.parts is.least in
    ap (map part_of) cut ∙ map-part_of name is.parts

pub IsNameOf-unique : (bytes : List ℕ) (name other : List Part) → IsNameOf bytes name → IsNameOf bytes other → name ≡ other
IsNameOf-unique bytes name other is is' = sym (name_of-is bytes name is) ∙ name_of-is bytes other is'

-- the text of a name breaks no rule
pub name_refusal-none : (bytes : List ℕ) (name : List Part) → IsNameOf bytes name → name_refusal bytes ≡ None
name_refusal-none bytes name is =
    let cut : pieces_of 44 bytes ≡ map part_text name = ap (pieces_of 44) (sym is.text) ∙ pieces_of-name_text name is.parts is.least in
    let many : length (pieces_of 44 bytes) ≡ length name = ap length cut ∙ length-map name part_text in
    let short = le-ltb 256 (length bytes) is.short in
    let few : ltb 8 (length (pieces_of 44 bytes)) ≡ false = le-ltb 8 (length (pieces_of 44 bytes)) (omega (arith, many, is.most)) in
    let parts : first_code (map part_refusal (pieces_of 44 bytes)) ≡ None = ap (λ l. first_code (map part_refusal l)) cut ∙ parts-unbroken name is.parts in
    rw (short, parts, few)

-- a text that breaks a rule is the text of no name
pub no_name : (bytes : List ℕ) (code : DnError) → name_refusal bytes ≡ Some code → (name : List Part) → IsNameOf bytes name → ⊥
no_name bytes code refused name is = let none = name_refusal-none bytes name is in cc

part-rules-memory : (a b c d e : Bool) → first_code (when_broken a N1 ∷ when_broken b N2 ∷ when_broken c N1 ∷ when_broken d N3 ∷ when_broken e N4 ∷ []) ≡ Some Memory → ⊥
part-rules-memory true b c d e is = cc
part-rules-memory false true c d e is = cc
part-rules-memory false false true d e is = cc
part-rules-memory false false false true e is = cc
part-rules-memory false false false false true is = cc
part-rules-memory false false false false false is = cc

some-first : {E : Type 0} (answer : Option E) (answers : List (Option E)) (code : E) → first_code (answer ∷ answers) ≡ Some code → (answer ≡ Some code) ⊎ (first_code answers ≡ Some code)
some-first (Some e) answers code is = inl is
some-first None answers code is = inr is

parts-memory : (ps : List (List ℕ)) → first_code (map part_refusal ps) ≡ Some Memory → ⊥
parts-memory [] is = cc
parts-memory (p ∷ ps) is =
    elim (some-first (part_refusal p) (map part_refusal ps) Memory is) [
      | inl here ↦
          part-rules-memory (eqb (length p) 0) (not (list_any is_equals p)) (eqb (length (part_of p).class) 0 || eqb (length (part_of p).id) 0) (not (is_of_class_alphabet (part_of p).class && is_of_id_alphabet (part_of p).id)) (ltb 64 (length (part_of p).class) || ltb 64 (length (part_of p).id)) here
      | inr later ↦ parts-memory ps later
    ]

stages-memory : (a c : Bool) (r : Option DnError) → (r ≡ Some Memory → ⊥) → first_code (when_broken a N4 ∷ r ∷ when_broken c N5 ∷ []) ≡ Some Memory → ⊥
stages-memory true c r not' is = cc
stages-memory false c (Some code) not' is = not' is
stages-memory false true None not' is = cc
stages-memory false false None not' is = cc

-- no rule has the code for want of memory
pub name_refusal-memory : (bytes : List ℕ) (code : DnError) → name_refusal bytes ≡ Some code → code ≡ Memory → ⊥
name_refusal-memory bytes code is memory =
    stages-memory (ltb 256 (length bytes)) (ltb 8 (length (pieces_of 44 bytes))) (first_code (map part_refusal (pieces_of 44 bytes))) (parts-memory (pieces_of 44 bytes)) (is ∙ ap Some memory)
