-- Bytes that are compared sixteen at a time, as the lanes of a vector.
use Rattle.std.proofs.Common.{◌≡◌, ◌+◌, ◌-◌, ◌/◌, ◌%◌, ◌*◌, ◌^◌, ◌<◌, ◌≤◌, ℕ, zero, Bool, true, false, cond, List, [], ◌∷◌, length, get_or, not, refl, sym, ◌∙◌, ap, subst, arith}
use Rattle.std.proofs.Math.Dec.{eqb}
use Rattle.std.proofs.Math.Nat.{zero-div}
use Rattle.std.proofs.lemmas.Bool.{eqb-true, eq-eqb}
use Rattle.std.proofs.lemmas.Simd.{tops_compared, mask_l-mod, bit_mask_l, get_or-zip2, length-zip2, length-chunk, get_or-chunk}
use Rattle.std.specs.Prelude.{map}
use lib.Lanes.{zip2, mask_l, top, chunk}
use mir.Syntax.{w8}

cleared : (b : Bool) → cond {A = ℕ} b 1 0 ≡ zero → b ≡ false
cleared true is = absurd (cc (is))
cleared false is = refl

-- where no bit is set, no lane passes the test
none-set : (t : ℕ → ℕ → Bool) (xs ys : List ℕ) (k : ℕ) → length xs ≡ 16 → length ys ≡ 16 → mask_l (map (top 7) (zip2 (λ a b. cond (t a b) 255 0) xs ys)) % 18446744073709551616 ≡ 0 → k < 16 → t (get_or xs k 0) (get_or ys k 0) ≡ false
none-set t xs ys k many as-many none lt =
    let lanes : List Bool = zip2 t xs ys in
    let long : length lanes ≡ 16 = length-zip2 t xs ys (many ∙ sym as-many) ∙ many in
    let empty : mask_l lanes ≡ 0 = sym (mask_l-mod lanes 64 (omega (arith, long))) ∙ ap (λ (ms : List Bool). mask_l ms % 18446744073709551616) (sym (tops_compared w8 t xs ys)) ∙ none in
    let bit : cond {A = ℕ} (get_or lanes k false) 1 0 ≡ zero = sym (bit_mask_l lanes k) ∙ ap (λ (m : ℕ). m / 2 ^ k % 2) empty ∙ ap (λ (m : ℕ). m % 2) (zero-div (2 ^ k)) in
    sym (get_or-zip2 t xs ys k 0 0 false (omega (arith, many, lt)) (omega (arith, as-many, lt))) ∙ cleared (get_or lanes k false) bit

-- two negations are none
twice : (b : Bool) → not (not b) ≡ true → b ≡ true
twice true is = refl
twice false is = absurd (cc (is))

once : (b : Bool) → not b ≡ false → b ≡ true
once true is = refl
once false is = absurd (cc (is))

-- Lanes of which none differs are the same bytes.
pub same-lanes : (left right : List ℕ) (at k : ℕ) → at + 16 ≤ length left → at + 16 ≤ length right → not (not (eqb (mask_l (map (top 7) (zip2 (λ a b. cond (not (eqb a b)) 255 0) (chunk at 16 left) (chunk at 16 right))) % 18446744073709551616) 0)) ≡ true → at ≤ k → k < at + 16 → get_or left k 0 ≡ get_or right k 0
same-lanes left right at k fits as-fits is from to =
    let t : ℕ → ℕ → Bool = λ x y. not (eqb x y) in
    let lane : ℕ = k - at in
    let lt : lane < 16 = omega (arith, from, to) in
    let place : at + lane ≡ k = omega (arith, from) in
    let mask : ℕ = mask_l (map (top 7) (zip2 (λ a b. cond (t a b) 255 0) (chunk at 16 left) (chunk at 16 right))) % 18446744073709551616 in
    let none : mask ≡ 0 = eqb-true mask 0 (twice (eqb mask 0) is) in
    let same : get_or (chunk at 16 left) lane 0 ≡ get_or (chunk at 16 right) lane 0 =
    eqb-true _ _ (once (eqb (get_or (chunk at 16 left) lane 0) (get_or (chunk at 16 right) lane 0)) (none-set t (chunk at 16 left) (chunk at 16 right) lane (length-chunk at 16 left fits) (length-chunk at 16 right as-fits) none lt)) in
    ap (λ (i : ℕ). get_or left i 0) (sym place) ∙ sym (get_or-chunk at 16 left lane 0 lt) ∙ same ∙ get_or-chunk at 16 right lane 0 lt ∙ ap (λ (i : ℕ). get_or right i 0) place

-- equal lanes set no bit
none-differs : (xs : List ℕ) → mask_l (map (top 7) (zip2 (λ a b. cond (not (eqb a b)) 255 0) xs xs)) ≡ 0
none-differs [] = refl
none-differs (x ∷ xs) =
    ap (λ (b : Bool). cond {A = ℕ} (top 7 (cond (not b) 255 0)) 1 0 + 2 * mask_l (map (top 7) (zip2 (λ a b. cond (not (eqb a b)) 255 0) xs xs))) (eq-eqb x x refl)
    ∙ ap (λ (n : ℕ). 0 + 2 * n) (none-differs xs)

-- The lanes of equal texts don't differ.
pub whole-same : (left right : List ℕ) (at : ℕ) → left ≡ right → not (not (eqb (mask_l (map (top 7) (zip2 (λ a b. cond (not (eqb a b)) 255 0) (chunk at 16 left) (chunk at 16 right))) % 18446744073709551616) 0)) ≡ true
whole-same left right at same =
    subst (λ (l : List ℕ). not (not (eqb (mask_l (map (top 7) (zip2 (λ a b. cond (not (eqb a b)) 255 0) (chunk at 16 left) (chunk at 16 l))) % 18446744073709551616) 0)) ≡ true) same
    (ap (λ (n : ℕ). not (not (eqb (n % 18446744073709551616) 0))) (none-differs (chunk at 16 left)))
