-- What holds of each of a list.
use Rattle.std.specs.List.{insert, remove}
use Rattle.std.proofs.Common.{◌≡◌, ◌<◌, ◌++◌, ℕ, zero, suc, List, [], ◌∷◌, length, get_or, arith}

-- a fact of each of a list
abbrev pub Each : {X : Type 0} → (X → Type 0) → List X → Type 0
Each {X} P xs = (k : ℕ) (d : X) → k < length xs → P (get_or xs k d)

pub each-append : {X : Type 0} (P : X → Type 0) (xs ys : List X) → Each P xs → Each P ys → Each P (xs ++ ys)
each-append P [] ys first second k d lt = second k d lt
each-append P (x ∷ xs) ys first second zero d lt = first zero d (omega arith)
each-append P (x ∷ xs) ys first second (suc k) d lt =
    each-append P xs ys (λ j z less. first (suc j) z (omega (arith, less))) second k d (omega (arith, lt))

pub each-one : {X : Type 0} (P : X → Type 0) (x : X) → P x → Each P (x ∷ [])
each-one P x is zero d lt = is
each-one P x is (suc k) d lt = absurd (omega (arith, lt))

pub each-none : {X : Type 0} (P : X → Type 0) (xs : List X) → length xs ≡ 0 → Each P xs
each-none P xs none k d lt = absurd (omega (arith, none, lt))

pub each-push : {X : Type 0} (P : X → Type 0) (xs : List X) (x : X) → Each P xs → P x → Each P (xs ++ x ∷ [])
each-push P xs x each is = each-append P xs (x ∷ []) each (each-one P x is)

pub each-insert : {X : Type 0} (P : X → Type 0) (xs : List X) (place : ℕ) (x : X) → Each P xs → P x → Each P (insert xs place x)
each-insert P xs zero x each is zero d lt = is
each-insert P xs zero x each is (suc k) d lt = each k d (omega (arith, lt))
each-insert P [] (suc place) x each is k d lt = each-one P x is k d lt
each-insert P (y ∷ ys) (suc place) x each is zero d lt = each zero d (omega arith)
each-insert P (y ∷ ys) (suc place) x each is (suc k) d lt =
    each-insert P ys place x (λ j z less. each (suc j) z (omega (arith, less))) is k d (omega (arith, lt))

pub each-remove : {X : Type 0} (P : X → Type 0) (xs : List X) (place : ℕ) → Each P xs → Each P (remove xs place)
each-remove P [] zero each k d lt = each k d lt
each-remove P [] (suc place) each k d lt = each k d lt
each-remove P (y ∷ ys) zero each k d lt = each (suc k) d (omega (arith, lt))
each-remove P (y ∷ ys) (suc place) each zero d lt = each zero d (omega arith)
each-remove P (y ∷ ys) (suc place) each (suc k) d lt =
    each-remove P ys place (λ j z less. each (suc j) z (omega (arith, less))) k d (omega (arith, lt))

-- the same of facts that speak of places
pub each-push-at : {X : Type 0} (P : ℕ → X → Type 0) (xs : List X) (x : X)
    → ((k : ℕ) (d : X) → k < length xs → P k (get_or xs k d)) → P (length xs) x
    → (k : ℕ) (d : X) → k < length (xs ++ x ∷ []) → P k (get_or (xs ++ x ∷ []) k d)
each-push-at P [] x each is zero d lt = is
each-push-at P [] x each is (suc k) d lt = absurd (omega (arith, lt))
each-push-at P (y ∷ ys) x each is zero d lt = each zero d (omega arith)
each-push-at P (y ∷ ys) x each is (suc k) d lt =
    each-push-at (λ j z. P (suc j) z) ys x (λ j z less. each (suc j) z (omega (arith, less))) is k d (omega (arith, lt))
