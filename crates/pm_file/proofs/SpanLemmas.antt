-- A period that a file name can say, as a test.
use Rattle.std.proofs.Common.{◌≡◌, ℕ, zero, suc, ◌-◌, ◌/◌, ◌%◌, ◌<◌, ◌&&◌, Bool, true, false, [], ◌∷◌, refl, subst, arith, leb, ltb, eqb}
use Rattle.std.specs.Cmp.{nat_eq_equiv}
use Rattle.std.proofs.lemmas.Bool.{leb-true, le-leb}
use Rattle.std.proofs.lemmas.Bool.Decides.{nat_tests}
use Rattle.std.proofs.lemmas.Map.Views.{Contains-from_any, list_any-from_Contains}
use Rattle.pm_name.specs.FileName.{file_type, IsFileLength, IsFileSpan, minute_of_day}
use Rattle.pm_file.specs.Agreement.{is_file_length, is_file_span}

both : (a b : Bool) → (a && b) ≡ true → (a ≡ true) × (b ≡ true)
both true b h = (refl, h)
both false b h = cc

and : (a b : Bool) → a ≡ true → b ≡ true → (a && b) ≡ true
and a b p q = rw (p, q) refl

equal : (x y : ℕ) → eqb x y ≡ true → x ≡ y
equal x y e = grind (arith, nat_tests)

same : (x y : ℕ) → x ≡ y → eqb x y ≡ true
same x y e = grind (arith, nat_tests)

less : (x y : ℕ) → ltb x y ≡ true → x < y
less x y e = grind (arith, nat_tests)

less' : (x y : ℕ) → x < y → ltb x y ≡ true
less' x y e = grind (arith, nat_tests)

IsFileLength-test : (one : Bool) (m : ℕ) → is_file_length one m ≡ true → IsFileLength (file_type one) m
IsFileLength-test true m e = Contains-from_any {eq = eqb} equal m (1 ∷ 5 ∷ 15 ∷ 30 ∷ 60 ∷ []) e
IsFileLength-test false m e =
    let p = both _ (eqb (1440 % m) 0) e in
    let q = both (leb 2 m) (leb m 1440) p.0 in
    (leb-true 2 m q.0, leb-true m 1440 q.1, equal _ 0 p.1)

test-IsFileLength : (one : Bool) (m : ℕ) → IsFileLength (file_type one) m → is_file_length one m ≡ true
test-IsFileLength true m is = list_any-from_Contains nat_eq_equiv m (1 ∷ 5 ∷ 15 ∷ 30 ∷ 60 ∷ []) is
test-IsFileLength false m is = and _ _ (and _ _ (le-leb 2 m is.0) (le-leb m 1440 is.1)) (same _ 0 is.2)

-- no file covers nothing
some : (one : Bool) (m : ℕ) → is_file_length one m ≡ true → 0 < m
some true m e = by m e
  where
    by : (m : ℕ) → is_file_length true m ≡ true → 0 < m
    by zero e = let bad : false ≡ true = e in cc
    by (suc n) e = omega arith
some false m e = let p = both _ (eqb (1440 % m) 0) e in let q = both (leb 2 m) (leb m 1440) p.0 in let least = leb-true 2 m q.0 in omega (arith, least)

pub IsFileSpan-test : (one : Bool) (begin end : ℕ) → is_file_span one begin end ≡ true → IsFileSpan (file_type one) begin end
IsFileSpan-test one begin end e =
    let m = (end - begin) / 60 in
    let aligned = both _ (eqb (minute_of_day begin % m) 0) e in
    let long = both _ (is_file_length one m) aligned.0 in
    let whole' = both _ (eqb (end % 60) 0) long.0 in
    let whole = both _ (eqb (begin % 60) 0) whole'.0 in
    let bounds = both (ltb begin end) (leb end 253402300740) whole.0 in
    let lt = less begin end bounds.0 in
    let at = equal (begin % 60) 0 whole.1 in
    let at' = equal (end % 60) 0 whole'.1 in
    record {
      minutes = m;
      permitted = IsFileLength-test one m long.1;
      end_is = omega (arith, lt, at, at');
      whole = at;
      aligned = equal _ 0 aligned.1;
      end_in = leb-true end 253402300740 bounds.1;
    }

pub test-IsFileSpan : (one : Bool) (begin end : ℕ) → IsFileSpan (file_type one) begin end → is_file_span one begin end ≡ true
test-IsFileSpan one begin end span =
    let at = span.end_is in
    let whole = span.whole in
    let long = test-IsFileLength one span.minutes span.permitted in
    let least = some one span.minutes long in
    let m : span.minutes ≡ (end - begin) / 60 = omega (arith, at) in
    and _ _ (and _ _ (and _ _ (and _ _ (and _ _ (less' begin end (omega (arith, at, least))) (le-leb end 253402300740 span.end_in))
    (same (begin % 60) 0 whole)) (same (end % 60) 0 (omega (arith, at, whole))))
    (let P : ℕ → Type 0 = λ n. is_file_length one n ≡ true in subst P m long))
    (let P : ℕ → Type 0 = λ n. eqb (minute_of_day begin % n) 0 ≡ true in subst P m (same _ 0 span.aligned))
