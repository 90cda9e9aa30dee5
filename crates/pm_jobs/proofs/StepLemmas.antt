-- Tests of the items of a list, one after the other.
use Rattle.std.proofs.Common.{◌≡◌, ℕ, ◌+◌, ◌<◌, ◌≤◌, ◌||◌, Bool, true, false, List, [], ◌∷◌, length, map, take, get_or, Some, refl, sym, ap, ◌∙◌}
use Rattle.std.specs.Prelude.{slice_get, ◌==◌}
use Rattle.std.specs.List.{list_any, list_all}
use Rattle.std.proofs.lemmas.Bool.{true_from_ne_false}
use Rattle.std.proofs.lemmas.List.{take_more, take_all, map-append}
use Rattle.std.proofs.lemmas.List.Folds.{list_any-append, list_any_at, list_all_at}
use Rattle.std.proofs.lemmas.Option.{get_or_from_slice_get}
use Rattle.pm_jobs.proofs.MarkLemmas.{or_assoc, or_none}

-- ---- some item

pub any_more : {X : Type 0} (p : X → Bool) (xs : List X) (i : ℕ) (d : X) → i < length xs → list_any p (take (i + 1) xs) ≡ (list_any p (take i xs) || p (get_or xs i d))
any_more p xs i d lt =
    rw (take_more xs i d lt) (list_any-append p (take i xs) (get_or xs i d ∷ []) ∙ ap (λ b. list_any p (take i xs) || b) (or_none (p (get_or xs i d))))

pub none_more : {X : Type 0} (p : X → Bool) (xs : List X) (i : ℕ) (x : X) → i < length xs → slice_get xs i ≡ Some x → p x ≡ false
    → list_any p (take i xs) ≡ false → list_any p (take (i + 1) xs) ≡ false
none_more p xs i x lt at own before = any_more p xs i x lt ∙ rw (before, get_or_from_slice_get xs i x x at, own) refl

pub one_passes : {X : Type 0} (p : X → Bool) (xs : List X) (i : ℕ) (x : X) → i < length xs → slice_get xs i ≡ Some x → p x ≡ true → true ≡ list_any p xs
one_passes p xs i x lt at own = sym (list_any_at p xs i x lt (ap p (get_or_from_slice_get xs i x x at) ∙ own))

pub none_passes : {X : Type 0} (p : X → Bool) (xs : List X) (i : ℕ) → length xs ≤ i → list_any p (take i xs) ≡ false → false ≡ list_any p xs
none_passes p xs i le before = sym (rw (take_all i xs le) at before)

-- ---- each item

pub each_passes : {X : Type 0} (p : X → Bool) (xs : List X) (i : ℕ) (d : X) → i < length xs → list_all p xs ≡ true → p (get_or xs i d) ≡ true
each_passes p xs i d lt all = true_from_ne_false (p (get_or xs i d)) (λ none. cc (sym all ∙ list_all_at p xs i d lt none))

-- ---- names by which something is asked

pub more_names : {X : Type 0} (f : X → List ℕ) (q : List ℕ → Bool) (names : List X) (i : ℕ) (d : X) (a : Bool) → i < length names
    → ((a || list_any q (map f (take i names))) || q (f (get_or names i d))) ≡ (a || list_any q (map f (take (i + 1) names)))
more_names f q names i d a lt =
    or_assoc a (list_any q (map f (take i names))) (q (f (get_or names i d)))
    ∙ ap (λ b. a || b)
    (rw (take_more names i d lt, map-append f (take i names) (get_or names i d ∷ []))
    (sym (list_any-append q (map f (take i names)) (f (get_or names i d) ∷ []) ∙ ap (λ b. list_any q (map f (take i names)) || b) (or_none (q (f (get_or names i d)))))))

-- ---- numbers

pub more_numbers : (numbers : List ℕ) (i k : ℕ) (a b c : Bool) → i < length numbers → a ≡ (b || list_any (λ n. n == k) (take i numbers))
    → c ≡ (a || get_or numbers i 0 == k) → c ≡ (b || list_any (λ n. n == k) (take (i + 1) numbers))
more_numbers numbers i k a b c lt before now =
    now ∙ ap (λ x. x || get_or numbers i 0 == k) before ∙ or_assoc b (list_any (λ n. n == k) (take i numbers)) (get_or numbers i 0 == k)
    ∙ ap (λ x. b || x) (sym (any_more (λ n. n == k) numbers i 0 lt))

pub any-map : {X Y : Type 0} (p : Y → Bool) (f : X → Y) (xs : List X) → list_any p (map f xs) ≡ list_any (λ x. p (f x)) xs
any-map p f [] = refl
any-map p f (x ∷ xs) = ap (λ b. p (f x) || b) (any-map p f xs)
