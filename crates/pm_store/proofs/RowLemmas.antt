-- Rows at the front of bytes.
use Rattle.std.proofs.Common.{◌≡◌, ℕ, zero, suc, ◌+◌, ◌*◌, ◌/◌, ◌<◌, ◌≤◌, Bool, false, cond, ltb, List, length, map, take, drop, Some, None, refl, ap, ◌∙◌, arith}
use Rattle.std.specs.Simd.{first_chunks}
use Rattle.std.proofs.lemmas.Bool.{le-ltb}
use Rattle.std.proofs.lemmas.List.{take-take, drop-take, length-take}
use Rattle.std.proofs.Math.Nat.{mul-div_cancel}
use Rattle.pm_store.specs.Format.{Format, tested}
use Rattle.pm_store.specs.Rows.{Row, values, listed}

first_chunks-take : {A : Type 0} (n k m : ℕ) (xs : List A) → m ≡ k * n → first_chunks n k (take m xs) ≡ first_chunks n k xs
first_chunks-take n zero m xs e = refl
first_chunks-take n (suc k) m xs e =
    let split : m ≡ n + k * n = omega arith in
    let le : n ≤ n + k * n = omega arith in
    rw (split, take-take n (n + k * n) xs le, drop-take n (k * n) xs, first_chunks-take n k (k * n) (drop n xs) refl) refl

-- The rows that a slice of bytes was cut into are the values at the front of the bytes that it begins.
pub values_are : {A : Type 0} (row : Row A) (count size : ℕ) (bs front : List ℕ) (rows : List (List ℕ)) → 0 < row.size
    → size ≡ count * row.size → size ≤ length bs → front ≡ take size bs
    → rows ≡ first_chunks row.size (length front / row.size) front
    → map row.value rows ≡ values row count bs
values_are row count size bs front rows some e le f r =
    let len : length front ≡ count * row.size = ap length f ∙ omega (arith, length-take size bs) in
    let few : length front / row.size ≡ count = rw len (mul-div_cancel count some) in
    ap (map row.value) (r ∙ rw (few, f) (first_chunks-take row.size count size bs e))

-- What is read where the number of rows was, and they are all there.
pub listed_read : {A : Type 0} (count : Format ℕ) (row : Row A) (bs rest after : List ℕ) (n : ℕ) (xs : List A)
    → count.read bs ≡ Some (n, rest)
    → n * row.size ≤ length rest → xs ≡ values row n rest → after ≡ drop (n * row.size) rest
    → (listed count row).read bs ≡ Some (xs, after)
listed_read count row bs rest after n xs read le x a =
    let long : ltb (length rest) (n * row.size) ≡ false = le-ltb _ _ le in
    rw (read, long, x, a) refl

-- The same where it then passes the test, or doesn't.
pub tested_read : {A : Type 0} (test : A → Bool) (f : Format A) (bs after : List ℕ) (x : A) (passes : Bool)
    → f.read bs ≡ Some (x, after)
    → passes ≡ test x → (tested test f).read bs ≡ cond passes (Some (x, after)) None
tested_read test f bs after x passes read t = rw (read, t) refl
