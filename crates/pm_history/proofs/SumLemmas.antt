-- Sums of counted events over periods and ticks.
use Rattle.std.proofs.Common.{◌≡◌, ℕ, zero, suc, ◌+◌, ◌<◌, inl, inr, Bool, true, false, ◌&&◌, ◌||◌, cond, ltb, leb, eqb, List, [], ◌∷◌, ◌++◌, sum, refl, sym, ap, ◌∙◌, arith, lt-ltb, le-ltb, le-leb}
use Rattle.std.proofs.lemmas.Bool.{cond-false, lt-leb, ne_eqb, eq-eqb, and_left, and_right, ltb-true, eqb-true, and_parts, or_parts, cases_lt, cases_order}
use Rattle.std.proofs.lemmas.List.Sums.{sum_by-append}
use Rattle.pm_base.specs.Moment.{tick_of}
use Rattle.pm_history.specs.declared.entry.Side.{Side}
use Rattle.pm_history.specs.declared.entry.Entry.{Entry}
use Rattle.pm_history.specs.declared.entry.Entry.TheVariants.{Event}
use Rattle.pm_history.specs.Entry.{moment_of}
use Rattle.pm_history.specs.History.{History, Start, ◌▷◌}
use Rattle.pm_history.specs.Terms.{Terms}
use Rattle.pm_history.specs.Ticks.{is_within}
use Rattle.pm_history.specs.Standing.{Making}
use Rattle.pm_history.specs.Counted.{is_counted, some_counted}
use Rattle.pm_history.specs.Value.{value_where, values_where, counted_values}
use Rattle.pm_history.proofs.StayLemmas.{value_where-fails, values_where-same}

sum-append : (xs ys : List ℕ) → sum (xs ++ ys) ≡ sum xs + sum ys
sum-append xs ys = sum_by-append (λ x. x) xs ys

-- events of ticks that pass one of two tests, but never both
value_where-split : (o m : ℕ) (p q r : ℕ → Bool) (e : Entry) → ((t : ℕ) → r t ≡ (p t || q t)) → ((t : ℕ) → p t ≡ true → q t ≡ false)
    → sum (value_where o m r e) ≡ sum (value_where o m p e) + sum (value_where o m q e)
value_where-split o m p q r (Event moment object metric value registered) either apart =
    split (eqb object o && eqb metric m && registered) (p (tick_of moment)) (q (tick_of moment)) (r (tick_of moment)) (either (tick_of moment)) (apart (tick_of moment))
  where
    split : (a x y z : Bool) → z ≡ (x || y) → (x ≡ true → y ≡ false)
        → sum (cond (a && z) (value ∷ []) []) ≡ sum (cond (a && x) (value ∷ []) []) + sum (cond (a && y) (value ∷ []) [])
    split false x y z is f = refl
    split true true true z is f = absurd (cc (f refl))
    split true true false z is f = rw is (omega arith)
    split true false true z is f = rw is (omega arith)
    split true false false z is f = rw is refl
value_where-split o m p q r _ either apart = refl

pub values_where-split : (o m : ℕ) (p q r : ℕ → Bool) (h : History) → ((t : ℕ) → r t ≡ (p t || q t)) → ((t : ℕ) → p t ≡ true → q t ≡ false)
    → sum (values_where o m r h) ≡ sum (values_where o m p h) + sum (values_where o m q h)
values_where-split o m p q r Start either apart = refl
values_where-split o m p q r (h ▷ e) either apart =
    omega (
      arith,
      values_where-split o m p q r h either apart,
      value_where-split o m p q r e either apart,
      sum-append (values_where o m r h) (value_where o m r e),
      sum-append (values_where o m p h) (value_where o m p e),
      sum-append (values_where o m q h) (value_where o m q e),
    )

pub values_where-none : (o m : ℕ) (p : ℕ → Bool) (h : History) → ((t : ℕ) → p t ≡ false) → values_where o m p h ≡ []
values_where-none o m p Start none = refl
values_where-none o m p (h ▷ e) none =
    ap (λ vs. vs ++ value_where o m p e) (values_where-none o m p h none) ∙ value_where-fails o m p e (none (tick_of (moment_of e)))

false-or : (x : Bool) → (x || false) ≡ x
false-or true = refl
false-or false = refl

within_step : (first n t : ℕ) → is_within first (suc n) t ≡ (is_within first n t || eqb t (first + n))
within_step first n t =
    elim (cases_order t (first + n)) [
      | inl same ↦
          let a : leb first t ≡ true = le-leb _ _ (omega arith) in
          let b : ltb t (first + suc n) ≡ true = lt-ltb _ _ (omega arith) in
          let c : ltb t (first + n) ≡ false = le-ltb _ _ (omega arith) in
          let d : eqb t (first + n) ≡ true = eq-eqb _ _ same in
          rw (a, b, c, d) refl
      | inr other ↦
          elim other [
            | inl less ↦
                let b : ltb t (first + suc n) ≡ true = lt-ltb _ _ (omega arith) in
                let c : ltb t (first + n) ≡ true = lt-ltb _ _ less in
                let d : eqb t (first + n) ≡ false = ne_eqb _ _ (λ same. omega arith) in
                rw (b, c, d) (sym (false-or (leb first t && true)))
            | inr more ↦
                let b : ltb t (first + suc n) ≡ false = le-ltb _ _ (omega arith) in
                let c : ltb t (first + n) ≡ false = le-ltb _ _ (omega arith) in
                let d : eqb t (first + n) ≡ false = ne_eqb _ _ (λ same. omega arith) in
                rw (b, c, d) (sym (false-or (leb first t && false)))
          ]
    ]

pub or_and : (x y z : Bool) → ((x || y) && z) ≡ ((x && z) || (y && z))
or_and true true true = refl
or_and true true false = refl
or_and true false true = refl
or_and true false false = refl
or_and false y z = refl

both_true : (a b : Bool) → (a ≡ true → b ≡ true) → (a && b) ≡ a
both_true true b f = f refl
both_true false b f = refl

both_false : (a b : Bool) → (a ≡ true → b ≡ false) → (a && b) ≡ false
both_false true b f = f refl
both_false false b f = refl

-- the events of one tick, where it passes
one_tick : (o m x : ℕ) (c : ℕ → Bool) (h : History) (b : Bool) → c x ≡ b
    → sum (values_where o m (λ t. eqb t x && c t) h) ≡ cond b (sum (values_where o m (λ t. eqb t x) h)) 0
one_tick o m x c h true is =
    ap sum (values_where-same o m (λ t. eqb t x && c t) (λ t. eqb t x) h (λ t. both_true (eqb t x) (c t) (λ at. ap c (eqb-true t x at) ∙ is)))
one_tick o m x c h false is =
    ap sum (values_where-none o m (λ t. eqb t x && c t) h (λ t. both_false (eqb t x) (c t) (λ at. ap c (eqb-true t x at) ∙ is)))

within_none : (first t : ℕ) → is_within first zero t ≡ false
within_none first t =
    elim (cases_lt t first) [
      | inl lt ↦ and_left (leb first t) (ltb t (first + zero)) (lt-leb first t lt)
      | inr le ↦ and_right (leb first t) (ltb t (first + zero)) (le-ltb t (first + zero) (omega arith))
    ]

module _ (terms : Side → List ℕ → Terms) where
  -- the sum of one tick where it is counted, else 0
  abbrev pub share_of : History → Making → ℕ → ℕ → ℕ → ℕ
  share_of h w o m t = cond (is_counted terms h w t) (sum (values_where o m (λ u. eqb u t) h)) 0

  -- one more tick adds its share
  pub counted_sum-next : (h : History) (w : Making) (o m first n : ℕ)
      → sum (counted_values terms h w o m first (suc n)) ≡ sum (counted_values terms h w o m first n) + share_of h w o m (first + n)
  counted_sum-next h w o m first n =
      let c : ℕ → Bool = λ t. is_counted terms h w t in
      let p : ℕ → Bool = λ t. is_within first n t && c t in
      let q : ℕ → Bool = λ t. eqb t (first + n) && c t in
      let r : ℕ → Bool = λ t. is_within first (suc n) t && c t in
      let either : (t : ℕ) → r t ≡ (p t || q t) = λ t. ap (λ b. b && c t) (within_step first n t) ∙ or_and (is_within first n t) (eqb t (first + n)) (c t) in
      let apart : (t : ℕ) → p t ≡ true → q t ≡ false = λ t in_p.
      let inside : t < first + n = ltb-true t (first + n) (and_parts (leb first t) (ltb t (first + n)) (and_parts (is_within first n t) (c t) in_p).0).1 in
      and_left (eqb t (first + n)) (c t) (ne_eqb t (first + n) (λ same. omega arith)) in
      values_where-split o m p q r h either apart ∙ ap (λ k. sum (values_where o m p h) + k) (one_tick o m (first + n) c h (c (first + n)) refl)

  pub counted_sum-empty : (h : History) (w : Making) (o m first : ℕ) → sum (counted_values terms h w o m first zero) ≡ 0
  counted_sum-empty h w o m first =
      ap sum (values_where-none o m (λ t. is_within first zero t && is_counted terms h w t) h (λ t. and_left (is_within first zero t) (is_counted terms h w t) (within_none first t)))

  -- two adjoining periods add up
  pub counted_sum-add : (h : History) (w : Making) (o m first a b : ℕ)
      → sum (counted_values terms h w o m first (a + b)) ≡ sum (counted_values terms h w o m first a) + sum (counted_values terms h w o m (first + a) b)
  counted_sum-add h w o m first a zero =
      let same : a + zero ≡ a = omega arith in
      ap (λ n. sum (counted_values terms h w o m first n)) same ∙ (let e = counted_sum-empty h w o m (first + a) in omega (arith, e))
  counted_sum-add h w o m first a (suc b) =
      let next : a + suc b ≡ suc (a + b) = omega arith in
      let at : first + (a + b) ≡ first + a + b = omega arith in
      let x = ap (λ n. sum (counted_values terms h w o m first n)) next in
      let y = counted_sum-next h w o m first (a + b) in
      let z = ap (share_of h w o m) at in
      let v = counted_sum-next h w o m (first + a) b in
      let rest = counted_sum-add h w o m first a b in
      omega (arith, x, y, z, v, rest)

  -- where no tick is counted the sum is 0
  pub counted_sum-none : (h : History) (w : Making) (o m first n : ℕ) → some_counted terms h w first n ≡ false → sum (counted_values terms h w o m first n) ≡ 0
  counted_sum-none h w o m first zero none = counted_sum-empty h w o m first
  counted_sum-none h w o m first (suc n) none =
      let both = or_parts (some_counted terms h w first n) (is_counted terms h w (first + n)) none in
      let rest = counted_sum-none h w o m first n both.0 in
      let share : share_of h w o m (first + n) ≡ 0 = cond-false (is_counted terms h w (first + n)) _ 0 both.1 in
      omega (arith, counted_sum-next h w o m first n, rest, share)
