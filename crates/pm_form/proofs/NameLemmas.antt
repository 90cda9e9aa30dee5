-- The tests of names hold exactly of names.
use Rattle.std.proofs.Common.{rules, ◌≡◌, ◌≢◌, ◌↔◌, ℕ, ◌-◌, ◌&&◌, Bool, true, false, not, List, length, get_or, refl, sym, ap, ◌∙◌, arith, leb, eqb, IsTrue, Option, Some, None, MatchOption, is_some, bytes_eq}
use Rattle.std.specs.List.{list_any, list_all}
use Rattle.std.specs.Char.{is_ascii_alphabetic, is_ascii_alphanumeric}
use Rattle.std.specs.Cmp.{nat_eq_equiv}
use Rattle.std.specs.Cmp.Lexicographic.{same_text}
use Rattle.std.proofs.lemmas.Bool.{leb-true, le-leb}
use Rattle.std.proofs.lemmas.Bool.Decides.{nat_tests}
use Rattle.std.proofs.lemmas.List.Sums.{AllPass-from_list_all, list_all-from_AllPass}
use Rattle.std.proofs.lemmas.Map.Views.{Contains-from_any, list_any-from_Contains}
use Rattle.pm_base.specs.Class.{class_name}
use Rattle.pm_base.specs.declared.class.Class.{Class}
use Rattle.pm_base.specs.declared.class.Class.TheVariants.{ManagedElement, GnbCuCp, NrCellCu, GnbDu, NrCellDu}
use Rattle.pm_base.specs.Names.{is_id_char, is_name_char, IsJobId, IsDnId, IsMeasureName}
use Rattle.pm_form.specs.Names.{job_id, dn_id, measure_name, class_word}

-- two tests of one fact
pub same_test : {A : Type 0} (a b : Bool) → (IsTrue a ↔ A) → (b ≡ true → A) → (A → b ≡ true) → a ≡ b
same_test true true a to from = refl
same_test true false a to from = let e : false ≡ true = from (a.0 refl) in cc
same_test false true a to from = let e : false ≡ true = a.1 (to refl) in cc
same_test false false a to from = refl

both : (a b : Bool) → (a && b) ≡ true → (a ≡ true) × (b ≡ true)
both true b h = (refl, h)
both false b h = cc

and : (a b : Bool) → a ≡ true → b ≡ true → (a && b) ≡ true
and a b p q = rw (p, q) refl

pub IsJobId-job_id : (s : List ℕ) → job_id s ≡ true → IsJobId s
IsJobId-job_id s e =
    let p = both _ (is_ascii_alphanumeric (get_or s 0 0)) e in
    let q = both _ (list_all is_id_char s) p.0 in
    let r = both (leb 1 (length s)) (leb (length s) 32) q.0 in
    record {
      least = leb-true 1 (length s) r.0;
      most = leb-true (length s) 32 r.1;
      alphabet = AllPass-from_list_all is_id_char s q.1;
      first = p.1;
    }

pub job_id-IsJobId : (s : List ℕ) → IsJobId s → job_id s ≡ true
job_id-IsJobId s is =
    and _ _ (and _ _ (and (leb 1 (length s)) (leb (length s) 32) (le-leb 1 (length s) is.least) (le-leb (length s) 32 is.most))
    (list_all-from_AllPass is_id_char s is.alphabet)) is.first

pub IsDnId-dn_id : (s : List ℕ) → dn_id s ≡ true → IsDnId s
IsDnId-dn_id s e =
    let q = both _ (list_all is_name_char s) e in
    let r = both (leb 1 (length s)) (leb (length s) 64) q.0 in
    record { least = leb-true 1 (length s) r.0; most = leb-true (length s) 64 r.1; alphabet = AllPass-from_list_all is_name_char s q.1 }

pub dn_id-IsDnId : (s : List ℕ) → IsDnId s → dn_id s ≡ true
dn_id-IsDnId s is =
    and _ _ (and (leb 1 (length s)) (leb (length s) 64) (le-leb 1 (length s) is.least) (le-leb (length s) 64 is.most))
    (list_all-from_AllPass is_name_char s is.alphabet)

equal : (x y : ℕ) → eqb x y ≡ true → x ≡ y
equal x y e = grind (arith, nat_tests)

differ : (x y : ℕ) → not (eqb x y) ≡ true → x ≢ y
differ x y e = grind (arith, nat_tests)

differs : (x y : ℕ) → x ≢ y → not (eqb x y) ≡ true
differs x y ne = grind (arith, nat_tests)

pub IsMeasureName-measure_name : (s : List ℕ) → measure_name s ≡ true → IsMeasureName s
IsMeasureName-measure_name s e =
    let t = both _ (not (eqb (get_or s (length s - 1) 0) 46)) e in
    let o = both _ (list_any (eqb 46) s) t.0 in
    let p = both _ (is_ascii_alphabetic (get_or s 0 0)) o.0 in
    let q = both _ (list_all is_name_char s) p.0 in
    let r = both (leb 3 (length s)) (leb (length s) 64) q.0 in
    record {
      least = leb-true 3 (length s) r.0;
      most = leb-true (length s) 64 r.1;
      alphabet = AllPass-from_list_all is_name_char s q.1;
      first = p.1;
      dotted = Contains-from_any {eq = eqb} equal 46 s o.1;
      last = differ _ 46 t.1;
    }

pub measure_name-IsMeasureName : (s : List ℕ) → IsMeasureName s → measure_name s ≡ true
measure_name-IsMeasureName s is =
    and _ _ (and _ _ (and _ _ (and _ _ (and (leb 3 (length s)) (leb (length s) 64) (le-leb 3 (length s) is.least) (le-leb (length s) 64 is.most))
    (list_all-from_AllPass is_name_char s is.alphabet)) is.first) (list_any-from_Contains nat_eq_equiv 46 s is.dotted)) (differs _ 46 is.last)

same_bytes : (a b : List ℕ) → bytes_eq a b ≡ true → a ≡ b
same_bytes a b e = same_text a b (sym e)

itself : (a : List ℕ) → bytes_eq a a ≡ true
itself a = search rules

class_word-name : (class : Class) → class_word (class_name class) ≡ true
class_word-name ManagedElement = refl
class_word-name GnbCuCp = refl
class_word-name NrCellCu = refl
class_word-name GnbDu = refl
class_word-name NrCellDu = refl

-- the test, as the class is found
pub class_word-found : (s : List ℕ) (r : Option Class) → MatchOption r ((class : Class) → class_name class ≢ s) (λ class. class_name class ≡ s)
    → is_some r ≡ class_word s
class_word-found s (Some class) is = sym (class_word-name class) ∙ ap class_word is
class_word-found s None none = rw (no ManagedElement, no GnbCuCp, no NrCellCu, no GnbDu, no NrCellDu) refl
  where
    by : (class : Class) (b : Bool) → bytes_eq s (class_name class) ≡ b → b ≡ false
    by class true e = absurd (none class (sym (same_bytes s (class_name class) e)))
    by class false e = refl

    no : (class : Class) → bytes_eq s (class_name class) ≡ false
    no class = by class (bytes_eq s (class_name class)) refl
