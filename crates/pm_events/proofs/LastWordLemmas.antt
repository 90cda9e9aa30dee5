-- The number of the last digits of a line, one digit more at a time.
use Rattle.std.proofs.Common.{◌≡◌, ◌+◌, ◌-◌, ◌*◌, ◌^◌, ◌<◌, ◌≤◌, ℕ, suc, Bool, true, List, [], ◌∷◌, ◌&&◌, length, get_or, drop, sym, ◌∙◌, ap, subst, arith, nat_le, zero-add}
use Rattle.std.proofs.Math.Nat.{pow-succ', mul-le-mul_left}
use Rattle.std.proofs.lemmas.Bool.{le-leb}
use Rattle.std.proofs.lemmas.Bool.Decides.{nat_tests}
use Rattle.std.proofs.lemmas.List.{length-drop, drop_more}
use Rattle.std.specs.List.{fold, list_all}
use Rattle.std.specs.Char.{is_ascii_digit}
use Rattle.pm_base.specs.Number.{is_number, number_of, with_digit}
use Rattle.pm_base.proofs.NumberLemmas.{tens_mono}

spread : (p n d rest : ℕ) → p * (10 * n + d) + rest ≡ 10 * p * n + (p * (10 * 0 + d) + rest)
spread p n d rest = omega arith

-- digits behind a number
digits-behind : (n : ℕ) (digits : List ℕ) → fold with_digit n digits ≡ 10 ^ length digits * n + number_of digits
digits-behind n [] = omega arith
digits-behind n (d ∷ digits) =
    let here : fold with_digit (10 * n + (d - 48)) digits ≡ 10 ^ length digits * (10 * n + (d - 48)) + number_of digits = digits-behind (10 * n + (d - 48)) digits in
    let alone : number_of (d ∷ digits) ≡ 10 ^ length digits * (10 * 0 + (d - 48)) + number_of digits = digits-behind (10 * 0 + (d - 48)) digits in
    let tenfold : 10 ^ suc (length digits) ≡ 10 * 10 ^ length digits = pow-succ' 10 (length digits) in
    here ∙ spread (10 ^ length digits) n (d - 48) (number_of digits) ∙ ap (λ (m : ℕ). 10 * 10 ^ length digits * n + m) (sym alone) ∙ ap (λ (p : ℕ). p * n + number_of (d ∷ digits)) (sym tenfold)

-- the number of a digit and those behind it
number_of-cons : (d : ℕ) (digits : List ℕ) → number_of (d ∷ digits) ≡ 10 ^ length digits * (d - 48) + number_of digits
number_of-cons d digits =
    digits-behind (10 * 0 + (d - 48)) digits ∙ ap (λ (n : ℕ). 10 ^ length digits * n + number_of digits) (zero-add (d - 48))

-- the last digits, one more of them
more : (words : List ℕ) (digits at : ℕ) → at + (digits + 1) ≡ length words → drop (length words - (digits + 1)) words ≡ get_or words at 0 ∷ drop (length words - digits) words
more words digits at place =
    let here : length words - (digits + 1) ≡ at = omega (arith, place) in
    let behind : at + 1 ≡ length words - digits = omega (arith, place) in
    ap (λ (n : ℕ). drop n words) here ∙ drop_more words at 0 (omega (arith, place)) ∙ ap (λ (n : ℕ). get_or words at 0 ∷ drop n words) behind

-- The value of one more digit.
pub more-value : (words : List ℕ) (digits at value scale byte : ℕ) → at + (digits + 1) ≡ length words → byte ≡ get_or words at 0 → value ≡ number_of (drop (length words - digits) words) → scale ≡ 10 ^ digits → value + scale * (byte - 48) ≡ number_of (drop (length words - (digits + 1)) words)
more-value words digits at value scale byte place byte-is value-is scale-is =
    let behind : List ℕ = drop (length words - digits) words in
    let many : length behind ≡ digits = omega (arith, place, length-drop (length words - digits) words) in
    let product : scale * (byte - 48) ≡ 10 ^ length behind * (get_or words at 0 - 48) =
    ap (λ (n : ℕ). n * (byte - 48)) (scale-is ∙ ap (λ (n : ℕ). 10 ^ n) (sym many)) ∙ ap (λ (n : ℕ). 10 ^ length behind * (n - 48)) byte-is in
    let whole : number_of (drop (length words - (digits + 1)) words) ≡ 10 ^ length behind * (get_or words at 0 - 48) + number_of behind = ap number_of (more words digits at place) ∙ number_of-cons (get_or words at 0) behind in
    omega (arith, product, whole, value-is)

-- One more digit is a digit.
pub more-digits : (words : List ℕ) (digits at byte : ℕ) → at + (digits + 1) ≡ length words → byte ≡ get_or words at 0 → list_all is_ascii_digit (drop (length words - digits) words) ≡ true → is_ascii_digit byte ≡ true → list_all is_ascii_digit (drop (length words - (digits + 1)) words) ≡ true
more-digits words digits at byte place byte-is all is =
    ap (list_all is_ascii_digit) (more words digits at place)
    ∙ ap (λ (b : Bool). b && list_all is_ascii_digit (drop (length words - digits) words)) (ap is_ascii_digit (sym byte-is) ∙ is)
    ∙ all

-- A digit stands for 9 at the most.
pub digit-small : (b : ℕ) → is_ascii_digit b ≡ true → b - 48 ≤ 9
digit-small b is = grind (arith, nat_tests)

-- Room for one more digit.
pub more-room : (digits value scale digit : ℕ) → digits < 8 → scale ≡ 10 ^ digits → value < 10 ^ digits → digit ≤ 9 → (scale * digit ≤ 90000000) × (value + scale * digit < 10 ^ (digits + 1)) × (scale * 10 ≡ 10 ^ (digits + 1)) × (10 ^ (digits + 1) ≤ 100000000)
more-room digits value scale digit few scale-is short small =
    let next : digits + 1 ≡ suc digits = omega arith in
    let tenfold : 10 ^ suc digits ≡ 10 * 10 ^ digits = pow-succ' 10 digits in
    let most : 10 ^ suc digits ≤ 10 ^ 8 = tens_mono (suc digits) 8 (omega (arith, few)) in
    let times : scale * digit ≤ scale * 9 = mul-le-mul_left scale small in
    rw next (omega (arith, tenfold, most, times, scale-is, short), omega (arith, tenfold, times, scale-is, short), omega (arith, tenfold, scale-is), omega (arith, most))

-- The last digits are a number, where they are few.
pub last-number : (words : List ℕ) (digits at : ℕ) → at + (digits + 1) ≡ length words → 0 < digits → digits ≤ 10 → list_all is_ascii_digit (drop (length words - digits) words) ≡ true → is_number 10 (drop (at + 1) words) ≡ true
last-number words digits at place some few all =
    let behind : length words - digits ≡ at + 1 = omega (arith, place) in
    let many : length (drop (at + 1) words) ≡ digits = omega (arith, place, length-drop (at + 1) words) in
    let last : List ℕ = drop (at + 1) words in
    ap (λ (b : Bool). (b && nat_le (length last) 10) && list_all is_ascii_digit last) (le-leb 1 (length last) (omega (arith, many, some)))
    ∙ ap (λ (b : Bool). b && list_all is_ascii_digit last) (le-leb (length last) 10 (omega (arith, many, few)))
    ∙ subst (λ (n : ℕ). list_all is_ascii_digit (drop n words) ≡ true) behind all
