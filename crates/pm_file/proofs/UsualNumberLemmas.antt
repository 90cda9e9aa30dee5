-- Numbers that were read as they are written.
use Rattle.std.proofs.Common.{◌≡◌, ◌≢◌, ℕ, ◌^◌, ◌<◌, false, List, length, get_or, decimal, sym, ap, ◌∙◌, arith, eqb, subst, refl}
use Rattle.std.proofs.lemmas.Bool.Decides.{nat_tests}
use Rattle.std.proofs.lemmas.Fmt.{decimal-digits_value}
use Rattle.std.proofs.lemmas.Str.Parse.{IsNumeralModel, numerals_by_value, tells_digits}
use Rattle.std.specs.Str.Parse.{AllDigits, IsNumeral, digits_value, without_leading_plus}

numerals : IsNumeralModel (AllDigits 10) (digits_value 10)
numerals = numerals_by_value (AllDigits 10) tells_digits

differ : (x y : ℕ) → x ≢ y → eqb x y ≡ false
differ x y ne = grind (arith, nat_tests)

no_plus : (s : List ℕ) → get_or s 0 0 ≢ 43 → without_leading_plus s ≡ s
no_plus s ne = rw (differ (get_or s 0 0) 43 ne) refl

-- digits that were read, of which neither a sign nor a needless zero is the first, are what their value is written as
pub written_so : (s : List ℕ) (n : ℕ) → (get_or s 0 0 ≢ 43) × (get_or s 0 0 ≡ 48 → length s ≡ 1)
    → (IsNumeral 10 (without_leading_plus s) × (digits_value 10 (without_leading_plus s) < 2 ^ 64))
    × (n ≡ digits_value 10 (without_leading_plus s))
    → s ≡ decimal n
written_so s n plain read =
    let same = no_plus s plain.0 in
    let P : List ℕ → Type 0 = λ t. (IsNumeral 10 t × (digits_value 10 t < 2 ^ 64)) × (n ≡ digits_value 10 t) in
    let is = subst P same read in
    sym (ap decimal is.1 ∙ decimal-digits_value numerals s is.0.0.1 is.0.0.0 plain.1 is.0.1)
