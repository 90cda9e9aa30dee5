-- A span of files in order is those that pass its two tests.
use Rattle.std.proofs.Common.{◌≡◌, ℕ, zero, suc, ◌+◌, ◌-◌, ◌&&◌, Bool, true, false, cond, List, [], ◌∷◌, length, take, drop, refl, sym, ap, subst, ◌∙◌, arith}
use Rattle.std.specs.List.{filter, AllWithin}
use Rattle.std.proofs.lemmas.List.{get_or-drop, length-drop}

-- only what passes the first test may pass both
starts : {A : Type 0} (a b : A → Bool) (xs : List A) (first : ℕ) → AllWithin (λ x. a x ≡ false) xs 0 first → AllWithin (λ x. a x ≡ true) xs first (length xs)
    → filter (λ x. a x && b x) xs ≡ filter b (drop first xs)
starts a b [] zero before after = refl
starts a b [] (suc first) before after = refl
starts a b (x ∷ xs) zero before after =
    let passes : a x ≡ true = after zero x (omega arith) (omega arith) in
    let rest = starts a b xs zero (λ k d le lt. absurd (omega arith)) (λ k d le lt. after (suc k) d (omega arith) (omega (arith, lt))) in
    (λ i. cond (passes i && b x) (x ∷ filter (λ y. a y && b y) xs) (filter (λ y. a y && b y) xs)) ∙ (λ i. cond (b x) (x ∷ rest i) (rest i))
starts a b (x ∷ xs) (suc first) before after =
    let fails : a x ≡ false = before zero x (omega arith) (omega arith) in
    let rest = starts a b xs first (λ k d le lt. before (suc k) d (omega arith) (omega (arith, lt))) (λ k d le lt. after (suc k) d (omega (arith, le)) (omega (arith, lt))) in
    (λ i. cond (fails i && b x) (x ∷ filter (λ y. a y && b y) xs) (filter (λ y. a y && b y) xs)) ∙ rest

ends : {A : Type 0} (b : A → Bool) (xs : List A) (n : ℕ) → AllWithin (λ x. b x ≡ true) xs 0 n → AllWithin (λ x. b x ≡ false) xs n (length xs) → filter b xs ≡ take n xs
ends b [] zero before after = refl
ends b [] (suc n) before after = refl
ends b (x ∷ xs) zero before after =
    let fails : b x ≡ false = after zero x (omega arith) (omega arith) in
    let rest = ends b xs zero (λ k d le lt. absurd (omega arith)) (λ k d le lt. after (suc k) d (omega arith) (omega (arith, lt))) in
    (λ i. cond (fails i) (x ∷ filter b xs) (filter b xs)) ∙ rest
ends b (x ∷ xs) (suc n) before after =
    let passes : b x ≡ true = before zero x (omega arith) (omega arith) in
    let rest = ends b xs n (λ k d le lt. before (suc k) d (omega arith) (omega (arith, lt))) (λ k d le lt. after (suc k) d (omega (arith, le)) (omega (arith, lt))) in
    (λ i. cond (passes i) (x ∷ filter b xs) (filter b xs)) ∙ ap (λ l. x ∷ l) rest

pub range-is : {A : Type 0} (a b : A → Bool) (xs : List A) (first last : ℕ) → AllWithin (λ x. a x ≡ false) xs 0 first → AllWithin (λ x. a x ≡ true) xs first (length xs)
    → AllWithin (λ x. b x ≡ true) xs 0 last → AllWithin (λ x. b x ≡ false) xs last (length xs)
    → take (last - first) (drop first xs) ≡ filter (λ x. a x && b x) xs
range-is {A} a b xs first last early late soon over =
    let long = length-drop first xs in
    sym (starts a b xs first early late
    ∙ ends b (drop first xs) (last - first)
    (λ k d le lt. subst (λ (x : A). b x ≡ true) (sym (get_or-drop first xs k d)) (soon (first + k) d (omega arith) (omega (arith, lt))))
    (λ k d le lt. subst (λ (x : A). b x ≡ false) (sym (get_or-drop first xs k d)) (over (first + k) d (omega (arith, le)) (omega (arith, lt, long)))))
