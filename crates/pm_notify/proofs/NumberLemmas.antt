-- The numbers of notices.
use Rattle.std.proofs.Common.{◌≡◌, ℕ, zero, suc, ◌+◌, ◌<◌, Bool, true, false, cond, Vec, Global, vec_len, rules, List, [], ◌∷◌, ◌++◌, length, All, sym, subst, ◌∙◌, arith}
use Rattle.std.specs.List.{AllPairs, filter}
use Rattle.std.proofs.lemmas.List.Elements.{All-append, All-filter, All-head, All-tail, filter-append}
use Rattle.std.proofs.lemmas.List.Kept.{AllPairs-cons, AllPairs-filter}
use Rattle.pm_notice.specs.declared.notice.Notice.{Notice}
use Rattle.pm_notify.specs.Numbered.{AreNumbered}

abbrev Comes : Notice → Notice → Type 0
Comes m n = m.number < n.number

-- one more
pub numbered-push : (first : ℕ) (xs ys : List Notice) (x : Notice) → AreNumbered first xs → x.number ≡ first + length xs → ys ≡ xs ++ x ∷ []
    → AreNumbered first ys
numbered-push first xs ys x are at is = subst (AreNumbered first) (sym is) (by first xs are at)
  where
    by : (first : ℕ) (xs : List Notice) → AreNumbered first xs → x.number ≡ first + length xs → AreNumbered first (xs ++ x ∷ [])
    by first [] are at zero d lt = omega (arith, at)
    by first [] are at (suc k) d lt = absurd (omega (arith, lt))
    by first (y ∷ ys) are at zero d lt = are zero d (omega arith)
    by first (y ∷ ys) are at (suc k) d lt =
        let more = by (first + 1) ys (λ j e less. let here = are (suc j) e (omega (arith, less)) in omega (arith, here)) (omega (arith, at)) k d (omega (arith, lt)) in
        omega (arith, more)

numbered-tail : (first : ℕ) (x : Notice) (xs : List Notice) → AreNumbered first (x ∷ xs) → AreNumbered (first + 1) xs
numbered-tail first x xs are k d lt = let here = are (suc k) d (omega (arith, lt)) in omega (arith, here)

numbered-rise : (first : ℕ) (xs : List Notice) → AreNumbered first xs → AllPairs Comes xs
numbered-rise first xs are i j d lt within =
    let one = are i d (omega (arith, lt, within)) in
    let other = are j d within in
    omega (arith, one, other, lt)

-- those of notices, and then of ones that are numbered on from all of them
rising-append : (total : ℕ) (xs ys : List Notice) → AllPairs Comes xs → All (λ (n : Notice). n.number < total) xs → AreNumbered total ys
    → AllPairs Comes (xs ++ ys)
rising-append total [] ys rising below are = numbered-rise total ys are
rising-append total (x ∷ xs) ys rising below are =
    let head : All (Comes x) xs = λ k d lt. rising zero (suc k) d (omega arith) (omega (arith, lt)) in
    let first = All-head (λ (n : Notice). n.number < total) x xs below in
    let others : All (Comes x) ys = λ k d lt. let at = are k d lt in omega (arith, first, at) in
    AllPairs-cons Comes x (xs ++ ys) (All-append (Comes x) xs ys head others)
    (rising-append total xs ys (λ i j d lt within. rising (suc i) (suc j) d (omega (arith, lt)) (omega (arith, within)))
    (All-tail (λ (n : Notice). n.number < total) x xs below) are)

below-append : (total most : ℕ) (xs ys : List Notice) → All (λ (n : Notice). n.number < total) xs → AreNumbered total ys → total + length ys ≡ most
    → All (λ (n : Notice). n.number < most) (xs ++ ys)
below-append total most xs ys below are is =
    All-append (λ (n : Notice). n.number < most) xs ys
    (λ k d lt. let less = below k d lt in omega (arith, less, is))
    (λ k d lt. let at = are k d lt in omega (arith, at, lt, is))

-- of those, some are kept
pub kept-rise : (p : Notice → Bool) (total : ℕ) (xs ys new : List Notice) → AllPairs Comes xs → All (λ (n : Notice). n.number < total) xs
    → AreNumbered total ys → new ≡ filter p (xs ++ ys) → AllPairs Comes new
kept-rise p total xs ys new rising below are is =
    subst (AllPairs Comes) (sym is) (AllPairs-filter Comes p (xs ++ ys) (rising-append total xs ys rising below are))

pub kept-below : (p : Notice → Bool) (total most : ℕ) (xs ys new : List Notice) → All (λ (n : Notice). n.number < total) xs → AreNumbered total ys
    → total + length ys ≡ most → new ≡ filter p (xs ++ ys) → All (λ (n : Notice). n.number < most) new
kept-below p total most xs ys new below are count is =
    subst (All (λ (n : Notice). n.number < most)) (sym is)
    (All-filter p (λ (n : Notice). n.number < most) (xs ++ ys) (below-append total most xs ys below are count))

-- whether or not there is room for the ones that come
pub renewed : (p : Notice → Bool) (total most : ℕ) (xs ys one two new : List Notice) (room : Bool) → AllPairs Comes xs
    → All (λ (n : Notice). n.number < total) xs → AreNumbered total ys → total + length ys ≡ most → one ≡ filter p xs → two ≡ filter p ys
    → new ≡ cond room (one ++ two) one → AllPairs Comes new × All (λ (n : Notice). n.number < most) new
renewed p total most xs ys one two new true rising below are count is others new_is =
    let all : new ≡ filter p (xs ++ ys) = new_is ∙ (λ i. is i ++ others i) ∙ sym (filter-append p xs ys) in
    (kept-rise p total xs ys new rising below are all, kept-below p total most xs ys new below are count all)
renewed p total most xs ys one two new false rising below are count is others new_is =
    let all : new ≡ filter p xs = new_is ∙ is in (
      subst (AllPairs Comes) (sym all) (AllPairs-filter Comes p xs rising),
      subst (All (λ (n : Notice). n.number < most)) (sym all)
          (All-filter p (λ (n : Notice). n.number < most) xs (λ k d lt. let less = below k d lt in omega (arith, less, count))),
    )

pub vec_len_is : {A : Type 0} (v : Vec A Global) → vec_len v ≡ length v.items
vec_len_is v = search rules
