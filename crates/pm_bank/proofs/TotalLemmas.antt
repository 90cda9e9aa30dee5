-- Sums over the views, and what one step changes of them.
use Rattle.std.proofs.Common.{◌≡◌, ◌≢◌, ℕ, zero, suc, ◌+◌, ◌*◌, ◌≤◌, List, [], ◌∷◌, ◌++◌, length, set, refl, sym, ap, arith}
use mathlib.Core.Option.{some, some-ne-none, some-injective}
use Rattle.std.specs.Prelude.{slice_index}
use lib.ListN.{get_elem?}
use Rattle.pm_bank.specs.declared.view.View.{View}
use Rattle.pm_bank.specs.Rule.{total}

pub total_set : (f : View → ℕ) (vs : List View) (i : ℕ) (v w : View) → get_elem? vs i ≡ some v → total f (set vs i w) + f v ≡ total f vs + f w
total_set f [] i v w e = absurd (some-ne-none v (sym e))
total_set f (x ∷ xs) zero v w e = let same : f x ≡ f v = ap f (some-injective x v e) in omega (arith, same)
total_set f (x ∷ xs) (suc i) v w e = let more = total_set f xs i v w e in omega (arith, more)

pub total_snoc : (f : View → ℕ) (vs : List View) (w : View) → total f (vs ++ w ∷ []) ≡ total f vs + f w
total_snoc f [] w = omega arith
total_snoc f (x ∷ xs) w = let more = total_snoc f xs w in omega (arith, more)

pub total_at : (f : View → ℕ) (vs : List View) (i : ℕ) (v : View) → get_elem? vs i ≡ some v → f v ≤ total f vs
total_at f [] i v e = absurd (some-ne-none v (sym e))
total_at f (x ∷ xs) zero v e = let same : f x ≡ f v = ap f (some-injective x v e) in omega (arith, same)
total_at f (x ∷ xs) (suc i) v e = let more = total_at f xs i v e in omega (arith, more)

-- what each view has at most, all have at most
pub total_within : (f g h : View → ℕ) (vs : List View) → ((i : ℕ) (v : View) → get_elem? vs i ≡ some v → f v ≤ g v + h v) → total f vs ≤ total g vs + total h vs
total_within f g h [] each = omega arith
total_within f g h (x ∷ xs) each = let more = total_within f g h xs (λ i v e. each (suc i) v e) in let one = each 0 x refl in omega (arith, more, one)

pub total_none : (f : View → ℕ) (vs : List View) → ((i : ℕ) (v : View) → get_elem? vs i ≡ some v → f v ≡ 0) → total f vs ≡ 0
total_none f [] each = refl
total_none f (x ∷ xs) each = let more = total_none f xs (λ i v e. each (suc i) v e) in let one = each 0 x refl in omega (arith, more, one)

-- one view alone has any
pub total_alone : (f : View → ℕ) (vs : List View) (k : ℕ) (v : View) → get_elem? vs k ≡ some v → ((i : ℕ) (u : View) → i ≢ k → get_elem? vs i ≡ some u → f u ≡ 0) → total f vs ≡ f v
total_alone f [] k v e each = absurd (some-ne-none v (sym e))
total_alone f (x ∷ xs) zero v e each =
    let more = total_none f xs (λ i u h. each (suc i) u (λ z. omega arith) h) in let same : f x ≡ f v = ap f (some-injective x v e) in omega (arith, more, same)
total_alone f (x ∷ xs) (suc k) v e each =
    let more = total_alone f xs k v e (λ i u n h. each (suc i) u (λ z. n (omega arith)) h) in let one = each 0 x (λ z. omega arith) refl in omega (arith, more, one)

pub length_set : {A : Type 0} (xs : List A) (i : ℕ) (a : A) → length (set xs i a) ≡ length xs
length_set [] i a = refl
length_set (x ∷ xs) zero a = refl
length_set (x ∷ xs) (suc i) a = ap suc (length_set xs i a)

-- what each view has no less of, all have no less of
pub total_le : (f g : View → ℕ) (vs : List View) → ((v : View) → f v ≤ g v) → total f vs ≤ total g vs
total_le f g [] each = omega arith
total_le f g (x ∷ xs) each = let more = total_le f g xs each in let one = each x in omega (arith, more, one)

-- a word that is written as it was
pub set_self : (ws : List ℕ) (i : ℕ) → set ws i (slice_index ws i) ≡ ws
set_self [] i = refl
set_self (w ∷ ws) zero = refl
set_self (w ∷ ws) (suc i) = λ j. w ∷ set_self ws i j

-- what is the same of each view, is the same of all
pub total_same : (f g : View → ℕ) (vs : List View) → ((i : ℕ) (v : View) → get_elem? vs i ≡ some v → f v ≡ g v) → total f vs ≡ total g vs
total_same f g [] each = refl
total_same f g (x ∷ xs) each = let more = total_same f g xs (λ i v e. each (suc i) v e) in let one = each 0 x refl in omega (arith, more, one)

-- a view's part moves to another
pub total_moves : (f : View → ℕ) (vs : List View) (i j : ℕ) (v w p u : View) → get_elem? vs i ≡ some v → get_elem? (set vs i w) j ≡ some p → total f (set (set vs i w) j u) + (f v + f p) ≡ total f vs + (f w + f u)
total_moves f vs i j v w p u at_i at_j = let a = total_set f vs i v w at_i in let b = total_set f (set vs i w) j p u at_j in omega (arith, a, b)

-- what each view has at most c times, all have at most c times
pub total_times : (c : ℕ) (f g : View → ℕ) (vs : List View) → ((i : ℕ) (v : View) → get_elem? vs i ≡ some v → f v ≤ c * g v) → total f vs ≤ c * total g vs
total_times c f g [] each = omega arith
total_times c f g (x ∷ xs) each = let more = total_times c f g xs (λ i v e. each (suc i) v e) in let one = each 0 x refl in omega (arith, more, one)

-- a view that is put back as it was
pub set_view : (vs : List View) (i : ℕ) (v : View) → get_elem? vs i ≡ some v → set vs i v ≡ vs
set_view [] i v at = refl
set_view (u ∷ us) zero v at = λ j. some-injective v u (sym at) j ∷ us
set_view (u ∷ us) (suc i) v at = λ j. u ∷ set_view us i v at j
