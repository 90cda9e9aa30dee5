-- The tests of crossings say what the relations say.
use Rattle.std.proofs.Common.{◌≡◌, ℕ, zero, suc, ◌<◌, ◌↔◌, Bool, true, false, ◌&&◌, ◌||◌, not, leb, ltb, List, length, get_or, inl, inr, refl, ap, ◌∙◌, arith, lt-ltb, le-leb}
use Rattle.std.proofs.lemmas.Bool.{and_parts, and_from, or_cases, or_left, or_right, leb-true, ltb-true, cases_lt, false≢true}
use Rattle.pm_history.specs.Ticks.{at_some, at_each}
use Rattle.pm_history.specs.Crossing.{IsRearmedBetween, IsRearmedBefore, IsRaisedBefore, CrossesUp, CrossesDown}
use Rattle.pm_history.specs.Crossed.{rearms, is_rearmed_between, is_rearmed_before, stays_over, is_raised_before, crosses_up, crosses_down}

-- ---- tests below a number

pub at_some-parts : (n : ℕ) (p : ℕ → Bool) → at_some n p ≡ true → (k : ℕ) × (k < n) × (p k ≡ true)
at_some-parts zero p holds = absurd (false≢true holds)
at_some-parts (suc n) p holds =
    elim (or_cases (at_some n p) (p n) holds) [
      | inl old ↦ let found = at_some-parts n p old in let lt = found.1 in (found.0, omega arith, found.2)
      | inr now ↦ (n, omega arith, now)
    ]

pub at_some-from : (n : ℕ) (p : ℕ → Bool) (k : ℕ) → k < n → p k ≡ true → at_some n p ≡ true
at_some-from zero p k lt holds = absurd (omega arith)
at_some-from (suc n) p k lt holds =
    elim (cases_lt k n) [
      | inl less ↦ or_left (at_some n p) (p n) (at_some-from n p k less holds)
      | inr more ↦ let same : n ≡ k = omega arith in or_right (at_some n p) (p n) (ap p same ∙ holds)
    ]

pub at_each-parts : (n : ℕ) (p : ℕ → Bool) → at_each n p ≡ true → (k : ℕ) → k < n → p k ≡ true
at_each-parts zero p holds k lt = absurd (omega arith)
at_each-parts (suc n) p holds k lt =
    let both = and_parts (at_each n p) (p n) holds in
    elim (cases_lt k n) [
      | inl less ↦ at_each-parts n p both.0 k less
      | inr more ↦ let same : k ≡ n = omega arith in ap p same ∙ both.1
    ]

pub at_each-from : (n : ℕ) (p : ℕ → Bool) → ((k : ℕ) → k < n → p k ≡ true) → at_each n p ≡ true
at_each-from zero p holds = refl
at_each-from (suc n) p holds =
    and_from (at_each n p) (p n) (at_each-from n p (λ k lt. holds k (omega arith))) (holds n (omega arith))

-- an implication as a test
implied : (x y : Bool) → (not x || y) ≡ true → x ≡ true → y ≡ true
implied true y h is = h
implied false y h is = absurd (false≢true is)

implies : (x y : Bool) → (x ≡ true → y ≡ true) → (not x || y) ≡ true
implies true y f = f refl
implies false y f = refl

-- ---- upward

between-is : (high low : ℕ) (values : List ℕ) (after end : ℕ) → is_rearmed_between high low values after end ≡ true → IsRearmedBetween high low values after end
between-is high low values after end holds =
    let found = at_some-parts end (λ k. ltb after k && rearms high low (get_or values k 0)) holds in
    let k = found.0 in
    let both = and_parts (ltb after k) (rearms high low (get_or values k 0)) found.2 in
    let low_and_high = and_parts (leb (get_or values k 0) low) (ltb (get_or values k 0) high) both.1 in
    record {
      place = k;
      later = ltb-true after k both.0;
      earlier = found.1;
      at_most_low = leb-true (get_or values k 0) low low_and_high.0;
      under_high = ltb-true (get_or values k 0) high low_and_high.1;
    }

between-holds : (high low : ℕ) (values : List ℕ) (after end : ℕ) → IsRearmedBetween high low values after end → is_rearmed_between high low values after end ≡ true
between-holds high low values after end is =
    at_some-from end (λ k. ltb after k && rearms high low (get_or values k 0)) is.place is.earlier
    (and_from _ _ (lt-ltb after is.place is.later) (and_from _ _ (le-leb _ _ is.at_most_low) (lt-ltb _ _ is.under_high)))

rearmed-is : (high low : ℕ) (values : List ℕ) (end : ℕ) → is_rearmed_before high low values end ≡ true → IsRearmedBefore high low values end
rearmed-is high low values end holds =
    λ j lt reached.
    let test = at_each-parts end (λ j. not (leb high (get_or values j 0)) || is_rearmed_between high low values j end) holds j lt in
    between-is high low values j end (implied (leb high (get_or values j 0)) _ test (le-leb high (get_or values j 0) reached))

rearmed-holds : (high low : ℕ) (values : List ℕ) (end : ℕ) → IsRearmedBefore high low values end → is_rearmed_before high low values end ≡ true
rearmed-holds high low values end is =
    at_each-from end (λ j. not (leb high (get_or values j 0)) || is_rearmed_between high low values j end)
    (λ j lt. implies (leb high (get_or values j 0)) _ (λ reached. between-holds high low values j end (is j lt (leb-true high (get_or values j 0) reached))))

pub crosses_up-is : (high low : ℕ) (values : List ℕ) (place : ℕ) → (crosses_up high low values place ≡ true) ↔ CrossesUp high low values place
crosses_up-is high low values place = (is, holds)
  where
    is : crosses_up high low values place ≡ true → CrossesUp high low values place
    is test =
        let both = and_parts (ltb place (length values) && leb high (get_or values place 0)) (is_rearmed_before high low values place) test in
        let first = and_parts (ltb place (length values)) (leb high (get_or values place 0)) both.0 in
        record {
          within = ltb-true place (length values) first.0;
          at_least_high = leb-true high (get_or values place 0) first.1;
          rearmed = rearmed-is high low values place both.1;
        }

    holds : CrossesUp high low values place → crosses_up high low values place ≡ true
    holds c =
        and_from _ _ (and_from _ _ (lt-ltb place (length values) c.within) (le-leb high (get_or values place 0) c.at_least_high)) (rearmed-holds high low values place c.rearmed)

-- ---- downward

over-is : (low : ℕ) (values : List ℕ) (after end : ℕ) → stays_over low values after end ≡ true → (k : ℕ) → after < k → k < end → low < get_or values k 0
over-is low values after end holds k later earlier =
    let test = at_each-parts end (λ k. not (ltb after k) || ltb low (get_or values k 0)) holds k earlier in
    ltb-true low (get_or values k 0) (implied (ltb after k) _ test (lt-ltb after k later))

over-holds : (low : ℕ) (values : List ℕ) (after end : ℕ) → ((k : ℕ) → after < k → k < end → low < get_or values k 0) → stays_over low values after end ≡ true
over-holds low values after end is =
    at_each-from end (λ k. not (ltb after k) || ltb low (get_or values k 0))
    (λ k lt. implies (ltb after k) _ (λ later. lt-ltb low (get_or values k 0) (is k (ltb-true after k later) lt)))

raised-is : (high low : ℕ) (values : List ℕ) (end : ℕ) → is_raised_before high low values end ≡ true → IsRaisedBefore high low values end
raised-is high low values end holds =
    let found = at_some-parts end (λ j. leb high (get_or values j 0) && ltb low (get_or values j 0) && stays_over low values j end) holds in
    let j = found.0 in
    let both = and_parts (leb high (get_or values j 0) && ltb low (get_or values j 0)) (stays_over low values j end) found.2 in
    let first = and_parts (leb high (get_or values j 0)) (ltb low (get_or values j 0)) both.0 in
    record {
      place = j;
      earlier = found.1;
      at_least_high = leb-true high (get_or values j 0) first.0;
      over_low = ltb-true low (get_or values j 0) first.1;
      none_low = over-is low values j end both.1;
    }

raised-holds : (high low : ℕ) (values : List ℕ) (end : ℕ) → IsRaisedBefore high low values end → is_raised_before high low values end ≡ true
raised-holds high low values end is =
    at_some-from end (λ j. leb high (get_or values j 0) && ltb low (get_or values j 0) && stays_over low values j end) is.place is.earlier
    (and_from _ _ (and_from _ _ (le-leb _ _ is.at_least_high) (lt-ltb _ _ is.over_low)) (over-holds low values is.place end is.none_low))

pub crosses_down-is : (high low : ℕ) (values : List ℕ) (place : ℕ) → (crosses_down high low values place ≡ true) ↔ CrossesDown high low values place
crosses_down-is high low values place = (is, holds)
  where
    is : crosses_down high low values place ≡ true → CrossesDown high low values place
    is test =
        let both = and_parts (ltb place (length values) && leb (get_or values place 0) low) (is_raised_before high low values place) test in
        let first = and_parts (ltb place (length values)) (leb (get_or values place 0) low) both.0 in
        record {
          within = ltb-true place (length values) first.0;
          at_most_low = leb-true (get_or values place 0) low first.1;
          raised = raised-is high low values place both.1;
        }

    holds : CrossesDown high low values place → crosses_down high low values place ≡ true
    holds c =
        and_from _ _ (and_from _ _ (lt-ltb place (length values) c.within) (le-leb (get_or values place 0) low c.at_most_low)) (raised-holds high low values place c.raised)
