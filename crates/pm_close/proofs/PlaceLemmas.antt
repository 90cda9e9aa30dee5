-- Lists place by place, as a loop goes on.
use Rattle.std.proofs.Common.{◌≡◌, ◌<◌, ◌+◌, ◌++◌, ◌∷◌, [], ℕ, zero, suc, List, length, map, take, drop, set, get_or, refl, sym, ap, subst, ◌∙◌, arith, inl, inr}
use Rattle.std.specs.List.{flat_map, insert}
use Rattle.std.proofs.lemmas.Bool.{cases_lt}
use Rattle.std.proofs.lemmas.List.{get_or-set_other, get_or_default, map-append, take-map, drop-map, take_more, append-nil, get_or_append_left, get_or_push}
use Rattle.std.proofs.lemmas.Grind.{get_or-set_at, flat_map-append}
use Rattle.std.proofs.Math.Seq.{take-append_seam, drop-append_seam}

-- a fact of each place before one, and of what comes into it
pub each-more : {X : Type 0} (P : ℕ → X → Type 0) (now : List X) (k : ℕ) (new : X) → k < length now → P k new
    → ((j : ℕ) (d : X) → j < k → P j (get_or now j d))
    → (j : ℕ) (d : X) → j < k + 1 → P j (get_or (set now k new) j d)
each-more P now k new room is before j d lt =
    elim (cases_lt j k) [
      | inl below ↦ subst (P j) (sym (get_or-set_other now k j new d (omega arith))) (before j d below)
      | inr past ↦
          let at : k ≡ j = omega (arith, lt, past) in
          subst (P j) (sym (get_or-set_at now k j new d (omega (arith, at)) room)) (subst (λ i. P i new) at is)
    ]

-- the same where one is added at the end
pub each-push : {X : Type 0} (P : ℕ → X → Type 0) (xs : List X) (x : X) (k : ℕ) → length xs ≡ k → P k x
    → ((j : ℕ) (d : X) → j < k → P j (get_or xs j d))
    → (j : ℕ) (d : X) → j < k + 1 → P j (get_or (xs ++ x ∷ []) j d)
each-push P xs x k long is before j d lt =
    elim (cases_lt j k) [
      | inl below ↦ subst (P j) (sym (get_or_append_left xs (x ∷ []) d j (omega (arith, below, long)))) (before j d below)
      | inr past ↦
          let at : k ≡ j = omega (arith, lt, past) in
          subst (P j) (sym (get_or_push xs x d j (omega (arith, long, at)))) (subst (λ i. P i x) at is)
    ]

-- the element that is read, whatever stands past the end
pub element-is : {X : Type 0} (xs : List X) (k : ℕ) (x d : X) → k < length xs → x ≡ get_or xs k x → get_or xs k d ≡ x
element-is xs k x d lt is = get_or_default xs k d x lt ∙ sym is

-- what stands at a place
pub element-of : {X : Type 0} (xs : List X) (k : ℕ) → k < length xs → (x : X) × ((d : X) → get_or xs k d ≡ x)
element-of [] k lt = absurd (omega (arith, lt))
element-of (x ∷ xs) zero lt = (x, λ d. refl)
element-of (x ∷ xs) (suc k) lt = element-of xs k (omega (arith, lt))

drop-next : {X : Type 0} (k : ℕ) (xs : List X) → drop 1 (drop k xs) ≡ drop (suc k) xs
drop-next zero [] = refl
drop-next zero (x ∷ xs) = refl
drop-next (suc k) [] = refl
drop-next (suc k) (x ∷ xs) = drop-next k xs

pub drop-more : {X : Type 0} (k : ℕ) (xs : List X) → drop 1 (drop k xs) ≡ drop (k + 1) xs
drop-more k xs = let next : suc k ≡ k + 1 = omega arith in drop-next k xs ∙ ap (λ n. drop n xs) next

pub flat_map-take : {X Y : Type 0} (f : X → List Y) (xs : List X) (i : ℕ) (x : X) → i < length xs → get_or xs i x ≡ x
    → flat_map f (take (i + 1) xs) ≡ flat_map f (take i xs) ++ f x
flat_map-take f xs i x lt is =
    ap (flat_map f) (take_more xs i x lt)
    ∙ (flat_map-append f (take i xs) (get_or xs i x ∷ [])
    ∙ (λ j. flat_map f (take i xs) ++ (append-nil (f (get_or xs i x)) ∙ ap f is) j))

pub map-insert : {A B : Type 0} (f : A → B) (xs : List A) (place : ℕ) (x : A) (before after : List B)
    → map f xs ≡ before ++ after → place ≡ length before → map f (insert xs place x) ≡ before ++ f x ∷ after
map-insert f xs place x before after is at =
    map-append f (take place xs) (x ∷ drop place xs)
    ∙ (λ i. front i ++ f x ∷ back i)
  where
    front : map f (take place xs) ≡ before
    front = sym (take-map f place xs) ∙ ((λ i. take (at i) (is i)) ∙ take-append_seam before after)

    back : map f (drop place xs) ≡ after
    back = sym (drop-map f place xs) ∙ ((λ i. drop (at i) (is i)) ∙ drop-append_seam before after)
