-- The places of what passes a test, one item after the other.
use Rattle.std.proofs.Common.{◌≡◌, ◌∙◌, ℕ, ◌+◌, ◌<◌, Bool, true, false, cond, List, [], ◌∷◌, ◌++◌, length, take, get_or, map, refl, ap, arith}
use Rattle.std.specs.List.{filter, enumerate_from}
use Rattle.std.proofs.lemmas.List.{map-append, append-nil, take_more, length-take-le}
use Rattle.std.proofs.lemmas.List.Elements.{filter-append}
use Rattle.pm_jobs.specs.Places.{places_where}

enumerate_from-push : {X : Type 0} (n : ℕ) (xs : List X) (y : X) → enumerate_from n (xs ++ y ∷ []) ≡ enumerate_from n xs ++ (n + length xs, y) ∷ []
enumerate_from-push n [] y = let here : n ≡ n + 0 = omega arith in ap (λ m. (m, y) ∷ []) here
enumerate_from-push n (x ∷ xs) y =
    let shift : n + 1 + length xs ≡ n + length (x ∷ xs) = omega arith in
    ap (λ l. (n, x) ∷ l) (enumerate_from-push (n + 1) xs y ∙ ap (λ m. enumerate_from (n + 1) xs ++ (m, y) ∷ []) shift)

one : {A : Type 0} (passes : Bool) (m n : ℕ) (x : A) → m ≡ n → map (λ (item : ℕ × A). item.0) (cond passes ((m, x) ∷ []) []) ≡ cond passes (n ∷ []) []
one true m n x is = ap (λ k. k ∷ []) is
one false m n x is = refl

-- one more item
pub places_where-push : {A : Type 0} (passes : A → Bool) (xs : List A) (x : A) → places_where passes (xs ++ x ∷ []) ≡ places_where passes xs ++ cond (passes x) (length xs ∷ []) []
places_where-push {A} passes xs x =
    let test = λ (item : ℕ × A). passes item.1 in
    let place = λ (item : ℕ × A). item.0 in
    let last : map place (filter test ((0 + length xs, x) ∷ [])) ≡ cond (passes x) (length xs ∷ []) [] = one (passes x) (0 + length xs) (length xs) x (omega arith) in
    ap (λ l. map place (filter test l)) (enumerate_from-push 0 xs x)
    ∙ ap (map place) (filter-append test (enumerate_from 0 xs) ((0 + length xs, x) ∷ []))
    ∙ map-append place (filter test (enumerate_from 0 xs)) (filter test ((0 + length xs, x) ∷ []))
    ∙ ap (λ l. places_where passes xs ++ l) last

pub places_where_yes : {A : Type 0} (passes : A → Bool) (xs : List A) (i : ℕ) (d : A) (found : List ℕ) → i < length xs → passes (get_or xs i d) ≡ true
    → found ≡ places_where passes (take i xs) → found ++ i ∷ [] ≡ places_where passes (take (i + 1) xs)
places_where_yes passes xs i d found lt passed is =
    let many : length (take i xs) ≡ i = length-take-le i xs (omega (arith, lt)) in
    rw (take_more xs i d lt, places_where-push passes (take i xs) (get_or xs i d), passed, many) (ap (λ l. l ++ i ∷ []) is)

pub places_where_no : {A : Type 0} (passes : A → Bool) (xs : List A) (i : ℕ) (d : A) (found : List ℕ) → i < length xs → passes (get_or xs i d) ≡ false
    → found ≡ places_where passes (take i xs) → found ≡ places_where passes (take (i + 1) xs)
places_where_no passes xs i d found lt failed is =
    rw (take_more xs i d lt, places_where-push passes (take i xs) (get_or xs i d), failed, append-nil) is
