-- What is written as a number from 1 to 1,000.
use Rattle.std.proofs.Common.{◌≡◌, ◌≢◌, ℕ, zero, suc, ◌+◌, ◌*◌, ◌<◌, ◌≤◌, List, [], ◌∷◌, length, get_or, take, inl, inr, sym, ap, ◌∙◌, subst, arith}
use Rattle.std.proofs.lemmas.Fmt.{decimal_is_IsNumeral, length-decimal-le, first_decimal, decimal_digit, decimal-digits_value}
use Rattle.std.proofs.lemmas.Bool.{cases_lt}
use Rattle.std.proofs.lemmas.Int.Digits.{digits_more, digits_value_more}
use Rattle.std.proofs.lemmas.List.{length-take}
use Rattle.std.proofs.lemmas.Str.Parse.{IsNumeralModel, numerals_by_value, tells_digits, digits_value_short}
use Rattle.std.specs.Char.{digit_value}
use Rattle.std.specs.Fmt.{decimal}
use Rattle.std.specs.Str.Parse.{AllDigits, digits_value}

pub numerals : IsNumeralModel (AllDigits 10) (digits_value 10)
numerals = numerals_by_value (AllDigits 10) tells_digits

-- digits of which the first is not 0 are what their value is written as
pub decimal-value : (w : List ℕ) → AllDigits 10 w → 0 < length w → length w ≤ 4 → get_or w 0 0 ≢ 48 → decimal (digits_value 10 w) ≡ w
decimal-value w all some short led =
    let small = digits_value_short numerals w 4 all short in
    decimal-digits_value numerals w all some (λ zero. absurd (led zero)) (omega arith)

-- what a number from 1 to 1,000 is written as: at most four digits, of which the first is not 0
pub record IsWritten (n : ℕ) (w : List ℕ) : Type 0 where
  pub some : 0 < length w
  pub short : length w ≤ 4
  pub led : get_or w 0 0 ≢ 48
  pub all : AllDigits 10 w
  pub value : digits_value 10 w ≡ n

pub IsWritten-decimal : (n : ℕ) → 1 ≤ n → n ≤ 1000 → IsWritten n (decimal n)
IsWritten-decimal n least most =
    let numeral = decimal_is_IsNumeral n (omega arith) in
    let first = first_decimal n (omega arith) (omega arith) in
    record {
      some = numeral.0.0;
      short = length-decimal-le 4 n (omega arith) (omega arith) (omega arith);
      led = λ is. omega arith;
      all = numeral.0.1;
      value = numeral.1;
    }

pub IsWritten-word : (n : ℕ) (w : List ℕ) → 1 ≤ n → n ≤ 1000 → decimal n ≡ w → IsWritten n w
IsWritten-word n w least most is = subst (IsWritten n) is (IsWritten-decimal n least most)

-- a value of digits of which the first is not 0 is not 0
pub value-positive : (w : List ℕ) → AllDigits 10 w → 0 < length w → length w ≤ 4 → get_or w 0 0 ≢ 48 → 1 ≤ digits_value 10 w
value-positive w all some short led =
    let small = digits_value_short numerals w 4 all short in
    elim (cases_lt 0 (digits_value 10 w)) [
      | inl positive ↦ omega arith
      | inr none ↦
          let zero_is : digits_value 10 w ≡ 0 = omega arith in
          let written : decimal 0 ≡ w = ap decimal (sym zero_is) ∙ decimal-value w all some short led in
          absurd (led (ap (λ ds. get_or ds 0 0) (sym written) ∙ ap (λ ds. get_or ds 0 0) (decimal_digit 0 (omega arith))))
    ]

-- one more digit
pub value-more : (w : List ℕ) (i n d : ℕ) → i < length w → AllDigits 10 (take i w) → n ≡ digits_value 10 (take i w)
    → digit_value (get_or w i 0) < 10 → d ≡ digit_value (get_or w i 0)
    → AllDigits 10 (take (i + 1) w) × (n * 10 + d ≡ digits_value 10 (take (i + 1) w))
value-more w i n d within all is digit same =
    (digits_more 10 w i within all digit, ap (λ m. m * 10 + d) is ∙ ap (λ m. digits_value 10 (take i w) * 10 + m) same ∙ sym (digits_value_more 10 w i within))

-- the digits so far are worth less than 10,000
pub value-small : (w : List ℕ) (i n : ℕ) → i < length w → length w ≤ 4 → AllDigits 10 (take i w) → n ≡ digits_value 10 (take i w) → n < 1000
value-small w i n within short all is =
    let length_is : length (take i w) ≤ 3 = omega (arith, length-take i w) in
    let small = digits_value_short numerals (take i w) 3 all length_is in
    omega arith

pub AllDigits-at : (w : List ℕ) (i : ℕ) → AllDigits 10 w → i < length w → digit_value (get_or w i 0) < 10
AllDigits-at [] i all within = absurd (omega arith)
AllDigits-at (c ∷ cs) zero all within = all.0
AllDigits-at (c ∷ cs) (suc i) all within = AllDigits-at cs i all.1 (omega arith)
