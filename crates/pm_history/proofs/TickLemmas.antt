-- Runs of ticks.
use Rattle.std.proofs.Common.{◌≡◌, ℕ, zero, suc, ◌+◌, ◌<◌, ◌≤◌, Bool, true, false, ◌&&◌, ◌||◌, leb, ltb, List, [], ◌++◌, refl, sym, ap, ◌∙◌, arith, append_assoc, le-ltb}
use Rattle.std.proofs.lemmas.Bool.{and_right, leb-true, ltb-true, and_parts}
use Rattle.std.proofs.lemmas.List.{append-nil}
use Rattle.pm_history.specs.Ticks.{at_some, at_each, is_within, behind}

pub or_false : (x y : Bool) → y ≡ false → (x || y) ≡ x
or_false true y h = refl
or_false false y h = h

pub and_same : (x y z : Bool) → (x ≡ true → y ≡ z) → (x && y) ≡ (x && z)
and_same true y z f = f refl
and_same false y z f = refl

-- tests that agree below n
pub at_some-same : (n : ℕ) (p q : ℕ → Bool) → ((k : ℕ) → k < n → p k ≡ q k) → at_some n p ≡ at_some n q
at_some-same zero p q same = refl
at_some-same (suc n) p q same =
    let rest = at_some-same n p q (λ k lt. same k (omega arith)) in
    let this = same n (omega arith) in
    λ i. rest i || this i

pub at_each-same : (n : ℕ) (p q : ℕ → Bool) → ((k : ℕ) → k < n → p k ≡ q k) → at_each n p ≡ at_each n q
at_each-same zero p q same = refl
at_each-same (suc n) p q same =
    let rest = at_each-same n p q (λ k lt. same k (omega arith)) in
    let this = same n (omega arith) in
    λ i. rest i && this i

pub is_within-true : (first n t : ℕ) → is_within first n t ≡ true → (first ≤ t) × (t < first + n)
is_within-true first n t passes =
    let both = and_parts (leb first t) (ltb t (first + n)) passes in (leb-true _ _ both.0, ltb-true _ _ both.1)

pub is_within-past : (first n t : ℕ) → first + n ≤ t → is_within first n t ≡ false
is_within-past first n t past = and_right (leb first t) (ltb t (first + n)) (le-ltb _ _ past)

-- what is said alike at the n ticks after one
pub behind-same : {A : Type 0} (f g : ℕ → List A) (t n : ℕ) → ((k : ℕ) → t < k → k ≤ t + n → f k ≡ g k) → behind f t n ≡ behind g t n
behind-same f g t zero same = refl
behind-same f g t (suc n) same =
    let rest = behind-same f g t n (λ k lt le. same k lt (omega arith)) in
    let this = same (suc (t + n)) (omega arith) (omega arith) in
    λ i. rest i ++ this i

-- ticks after those after one
pub behind-add : {A : Type 0} (f : ℕ → List A) (t n k : ℕ) → behind f t (n + k) ≡ behind f t n ++ behind f (t + n) k
behind-add f t n zero = let same : n + zero ≡ n = omega arith in ap (behind f t) same ∙ sym (append-nil (behind f t n))
behind-add f t n (suc k) =
    let next : n + suc k ≡ suc (n + k) = omega arith in
    let at : suc (t + (n + k)) ≡ suc (t + n + k) = omega arith in
    ap (behind f t) next
    ∙ ((λ i. behind-add f t n k i ++ f (at i)) ∙ append_assoc (behind f t n) (behind f (t + n) k) (f (suc (t + n + k))))

-- where nothing is said at the n ticks after one
pub behind-none : {A : Type 0} (f : ℕ → List A) (t n : ℕ) → ((k : ℕ) → t < k → k ≤ t + n → f k ≡ []) → behind f t n ≡ []
behind-none f t zero none = refl
behind-none f t (suc n) none =
    let rest = behind-none f t n (λ k lt le. none k lt (omega arith)) in
    let this = none (suc (t + n)) (omega arith) (omega arith) in
    λ i. rest i ++ this i
