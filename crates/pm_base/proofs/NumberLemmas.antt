-- Room for the numbers of a few digits.
use Rattle.std.proofs.Common.{◌≡◌, ◌+◌, ◌-◌, ◌*◌, ◌^◌, ◌<◌, ◌≤◌, ℕ, zero, suc, subst, arith}
use Rattle.std.proofs.Math.Nat.{pow-succ', le_refl}

-- a power of ten is at most a later one
tens_add : (i k : ℕ) → 10 ^ i ≤ 10 ^ (k + i)
tens_add i zero = let same : zero + i ≡ i = omega arith in rw same (le_refl (10 ^ i))
tens_add i (suc k) =
    let next : suc k + i ≡ suc (k + i) = omega arith in
    let tenfold : 10 ^ suc (k + i) ≡ 10 * 10 ^ (k + i) = pow-succ' 10 (k + i) in
    rw next (omega (arith, tenfold, tens_add i k))

pub tens_mono : (i j : ℕ) → i ≤ j → 10 ^ i ≤ 10 ^ j
tens_mono i j le = let parts : j - i + i ≡ j = omega (arith, le) in subst (λ (n : ℕ). 10 ^ i ≤ 10 ^ n) parts (tens_add i (j - i))

-- a further digit behind fewer than nineteen leaves a number of 64 bits
pub room_for_digit : (value i : ℕ) → value < 10 ^ i → i < 19 → 10 * value + 9 < 18446744073709551616
room_for_digit value i short few =
    let tenfold : 10 ^ suc i ≡ 10 * 10 ^ i = pow-succ' 10 i in
    let most : 10 ^ suc i ≤ 10 ^ 19 = tens_mono (suc i) 19 (omega (arith, few)) in
    omega (arith, short, tenfold, most)
