-- The texts of a permitted report are UTF-8.
use Rattle.std.proofs.Common.{◌≡◌, ℕ, zero, suc, ◌<◌, ◌&&◌, ◌||◌, Bool, true, false, List, [], ◌∷◌, Option, Some, None, refl, sym, subst, arith, lit<, take, drop, codes, bytes_eq, get_or, is_none}
use Rattle.std.specs.Char.{is_ascii_alphanumeric}
use Rattle.std.specs.Cmp.Lexicographic.{same_text}
use Rattle.std.specs.List.{list_all, All}
use Rattle.std.specs.Str.{IsUtf8}
use Rattle.std.proofs.lemmas.Bool.Decides.{nat_tests}
use Rattle.std.proofs.lemmas.List.{take-append-drop}
use Rattle.std.proofs.lemmas.List.Elements.{All-head, All-tail}
use Rattle.std.proofs.lemmas.List.Sums.{list_all-from_AllPass}
use Rattle.std.proofs.lemmas.Str.{IsUtf8-append, IsUtf8-nil, IsUtf8-from_ascii}
use Rattle.pm_base.specs.Class.{class_name}
use Rattle.pm_base.specs.Names.{is_id_char, is_name_char}
use Rattle.pm_base.specs.declared.class.Class.TheVariants.{ManagedElement, GnbCuCp, NrCellCu, GnbDu, NrCellDu}
use Rattle.pm_dn.specs.Name.{Part, IsPart, part_text, name_text, name_of}
use Rattle.pm_dn.specs.Refusal.{name_refusal}
use Rattle.pm_dn.proofs.NameLemmas.{IsNameOf-name_of}
use Rattle.pm_form.specs.Names.{job_id, measure_name, class_word}
use Rattle.pm_form.proofs.NameLemmas.{IsJobId-job_id, IsDnId-dn_id, IsMeasureName-measure_name}
use Rattle.pm_file.specs.ReportForm.{object_name, element_name}

both : (a b : Bool) → (a && b) ≡ true → (a ≡ true) × (b ≡ true)
both true b h = (refl, h)
both false b h = cc

one : (b : ℕ) → b < 128 → IsUtf8 (b ∷ [])
one b lt = IsUtf8-from_ascii (b ∷ []) at
  where
    at : (i : ℕ) → get_or (b ∷ []) i 0 < 128
    at zero = lt
    at (suc i) = omega arith

all : (p : ℕ → Bool) → ((b : ℕ) → p b ≡ true → b < 128) → (s : List ℕ) → list_all p s ≡ true → IsUtf8 s
all p small [] e = IsUtf8-nil
all p small (b ∷ s) e = let q = both (p b) (list_all p s) e in IsUtf8-append (b ∷ []) s (one b (small b q.0)) (all p small s q.1)

small_name : (b : ℕ) → is_name_char b ≡ true → b < 128
small_name b e = grind (arith, nat_tests)

small_id : (b : ℕ) → is_id_char b ≡ true → b < 128
small_id b e = grind (arith, nat_tests)

small_class : (b : ℕ) → is_ascii_alphanumeric b ≡ true → b < 128
small_class b e = grind (arith, nat_tests)

pub job_id-utf8 : (s : List ℕ) → job_id s ≡ true → IsUtf8 s
job_id-utf8 s e = all is_id_char small_id s (list_all-from_AllPass is_id_char s (IsJobId-job_id s e).alphabet)

pub measure_name-utf8 : (s : List ℕ) → measure_name s ≡ true → IsUtf8 s
measure_name-utf8 s e = all is_name_char small_name s (list_all-from_AllPass is_name_char s (IsMeasureName-measure_name s e).alphabet)

part-utf8 : (p : Part) → IsPart p → IsUtf8 (part_text p)
part-utf8 p is =
    IsUtf8-append p.class (61 ∷ p.id) (all is_ascii_alphanumeric small_class p.class (list_all-from_AllPass is_ascii_alphanumeric p.class is.class_is.alphabet))
    (IsUtf8-append (61 ∷ []) p.id (one 61 (lit< tt)) (all is_name_char small_name p.id (list_all-from_AllPass is_name_char p.id is.id_is.alphabet)))

name-utf8 : (name : List Part) → All IsPart name → IsUtf8 (name_text name)
name-utf8 [] parts = IsUtf8-nil
name-utf8 (p ∷ []) parts = part-utf8 p (All-head IsPart p [] parts)
name-utf8 (p ∷ q ∷ name) parts =
    IsUtf8-append (part_text p) (44 ∷ name_text (q ∷ name)) (part-utf8 p (All-head IsPart p (q ∷ name) parts))
    (IsUtf8-append (44 ∷ []) (name_text (q ∷ name)) (one 44 (lit< tt)) (name-utf8 (q ∷ name) (All-tail IsPart p (q ∷ name) parts)))

none : {A : Type 0} (o : Option A) → is_none o ≡ true → o ≡ None
none None e = refl
none (Some a) e = cc

pub object_name-utf8 : (s : List ℕ) → object_name s ≡ true → IsUtf8 s
object_name-utf8 s e =
    let is = IsNameOf-name_of s (none (name_refusal s) e) in subst IsUtf8 is.text (name-utf8 (name_of s) is.parts)

same_bytes : (a b : List ℕ) → bytes_eq a b ≡ true → a ≡ b
same_bytes a b e = same_text a b (sym e)

class_chars : (s : List ℕ) (w : List ℕ) → list_all is_ascii_alphanumeric w ≡ true → bytes_eq s w ≡ true → IsUtf8 s
class_chars s w e same = let at = same_bytes s w same in rw at (all is_ascii_alphanumeric small_class w e)

pub class_word-utf8 : (s : List ℕ) → class_word s ≡ true → IsUtf8 s
class_word-utf8 s e = by (bytes_eq s (class_name ManagedElement)) (bytes_eq s (class_name GnbCuCp)) (bytes_eq s (class_name NrCellCu)) (bytes_eq s (class_name GnbDu)) (bytes_eq s (class_name NrCellDu)) refl refl refl refl refl e
  where
    by : (a b c d f : Bool) → bytes_eq s (class_name ManagedElement) ≡ a → bytes_eq s (class_name GnbCuCp) ≡ b → bytes_eq s (class_name NrCellCu) ≡ c
        → bytes_eq s (class_name GnbDu) ≡ d → bytes_eq s (class_name NrCellDu) ≡ f → (a || b || c || d || f) ≡ true → IsUtf8 s
    by true b c d f p q r t u e = class_chars s (class_name ManagedElement) refl p
    by false true c d f p q r t u e = class_chars s (class_name GnbCuCp) refl q
    by false false true d f p q r t u e = class_chars s (class_name NrCellCu) refl r
    by false false false true f p q r t u e = class_chars s (class_name GnbDu) refl t
    by false false false false true p q r t u e = class_chars s (class_name NrCellDu) refl u
    by false false false false false p q r t u e = cc

pub element_name-utf8 : (s : List ℕ) → element_name s ≡ true → IsUtf8 s
element_name-utf8 s e =
    let p = both (bytes_eq (take 15 s) (codes "ManagedElement=")) _ e in
    let front : take 15 s ≡ codes "ManagedElement=" = same_bytes (take 15 s) (codes "ManagedElement=") p.0 in
    let word : IsUtf8 (take 15 s) = rw front (IsUtf8-append (codes "ManagedElement") (61 ∷ []) (all is_ascii_alphanumeric small_class (codes "ManagedElement") refl) (one 61 (lit< tt))) in
    let id : IsUtf8 (drop 15 s) = all is_name_char small_name (drop 15 s) (list_all-from_AllPass is_name_char (drop 15 s) (IsDnId-dn_id (drop 15 s) p.1).alphabet) in
    subst IsUtf8 (take-append-drop 15 s) (IsUtf8-append (take 15 s) (drop 15 s) word id)
