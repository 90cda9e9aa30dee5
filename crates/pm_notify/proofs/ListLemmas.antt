-- What holds of each element of lists that are made of others.
use Rattle.std.proofs.Common.{◌≡◌, ℕ, zero, suc, ◌+◌, ◌<◌, Bool, true, false, cond, List, [], ◌∷◌, length, map, get_or, arith}
use Rattle.std.specs.List.{filter, flat_map, enumerate_from, AllByRecursion}
use Rattle.pm_history.proofs.DistinctLemmas.{each-append}

pub each-flat : {A B : Type 0} (P : A → Type 0) (Q : B → Type 0) (f : A → List B) (xs : List A) → ((x : A) → P x → AllByRecursion Q (f x))
    → AllByRecursion P xs → AllByRecursion Q (flat_map f xs)
each-flat P Q f [] each all = tt
each-flat P Q f (x ∷ xs) each all = each-append Q (f x) (flat_map f xs) (each x all.0) (each-flat P Q f xs each all.1)

pub each-any : {A : Type 0} (P : A → Type 0) (xs : List A) → ((x : A) → P x) → AllByRecursion P xs
each-any P [] each = tt
each-any P (x ∷ xs) each = (each x, each-any P xs each)

pub each-of_map : {A B : Type 0} (Q : B → Type 0) (f : A → B) (xs : List A) → AllByRecursion (λ (x : A). Q (f x)) xs → AllByRecursion Q (map f xs)
each-of_map Q f [] all = tt
each-of_map Q f (x ∷ xs) all = (all.0, each-of_map Q f xs all.1)

pub each-from_map : {A B : Type 0} (Q : B → Type 0) (f : A → B) (xs : List A) → AllByRecursion Q (map f xs) → AllByRecursion (λ (x : A). Q (f x)) xs
each-from_map Q f [] all = tt
each-from_map Q f (x ∷ xs) all = (all.0, each-from_map Q f xs all.1)

pub each-filter : {A : Type 0} (P : A → Type 0) (p : A → Bool) (xs : List A) → AllByRecursion P xs → AllByRecursion P (filter p xs)
each-filter P p [] all = tt
each-filter {A} P p (x ∷ xs) all = by (p x) (each-filter P p xs all.1)
  where
    by : (b : Bool) → AllByRecursion P (filter p xs) → AllByRecursion P (cond b (x ∷ filter p xs) (filter p xs))
    by true more = (all.0, more)
    by false more = more

-- numbers that an enumeration gives
each-numbered : {A : Type 0} (from end : ℕ) (xs : List A) → from + length xs ≡ end → AllByRecursion (λ (item : ℕ × A). item.0 < end) (enumerate_from from xs)
each-numbered from end [] is = tt
each-numbered from end (x ∷ xs) is = (omega (arith, is), each-numbered (from + 1) end xs (omega (arith, is)))

pub each-below : {A : Type 0} (xs : List A) → AllByRecursion (λ (item : ℕ × A). item.0 < length xs) (enumerate_from 0 xs)
each-below xs = each-numbered 0 (length xs) xs (omega arith)

pub each_at : {A : Type 0} (P : A → Type 0) (xs : List A) (i : ℕ) (d : A) → AllByRecursion P xs → i < length xs → P (get_or xs i d)
each_at P [] i d all lt = absurd (omega arith)
each_at P (x ∷ xs) zero d all lt = all.0
each_at P (x ∷ xs) (suc i) d all lt = each_at P xs i d all.1 (omega (arith, lt))
