-- The values of a period, by the cells of its ticks.
use Rattle.std.proofs.Common.{◌≡◌, ℕ, zero, suc, ◌+◌, ◌<◌, Bool, true, false, ◌&&◌, ◌||◌, cond, leb, ltb, eqb, [], refl, sym, ap, ◌∙◌, arith, inl, inr, lt-ltb, le-ltb, le-leb}
use Rattle.std.proofs.lemmas.Bool.{cases_lt, cases_order, ne_eqb, eq-eqb, eqb-true, and_left, lt-leb}
use Rattle.pm_meas.specs.Cell.{cell_of, merged}
use Rattle.pm_history.specs.History.{History}
use Rattle.pm_history.specs.Ticks.{is_within}
use Rattle.pm_history.specs.Value.{values_where}
use Rattle.pm_history.proofs.TickLemmas.{is_within-past}
use Rattle.pm_history.proofs.StayLemmas.{values_where-same}
use Rattle.pm_history.proofs.SumLemmas.{values_where-none, or_and}
use Rattle.pm_items.proofs.CellLemmas.{values-split}

false-or : (x : Bool) → (x || false) ≡ x
false-or true = refl
false-or false = refl

within-step : (first n t : ℕ) → is_within first (suc n) t ≡ (is_within first n t || eqb t (first + n))
within-step first n t =
    elim (cases_order t (first + n)) [
      | inl same ↦
          let a : leb first t ≡ true = le-leb _ _ (omega arith) in
          let b : ltb t (first + suc n) ≡ true = lt-ltb _ _ (omega arith) in
          let c : ltb t (first + n) ≡ false = le-ltb _ _ (omega arith) in
          let d : eqb t (first + n) ≡ true = eq-eqb _ _ same in
          rw (a, b, c, d) refl
      | inr other ↦
          elim other [
            | inl less ↦
                let b : ltb t (first + suc n) ≡ true = lt-ltb _ _ (omega arith) in
                let c : ltb t (first + n) ≡ true = lt-ltb _ _ less in
                let d : eqb t (first + n) ≡ false = ne_eqb _ _ (λ same. omega arith) in
                rw (b, c, d) (sym (false-or (leb first t && true)))
            | inr more ↦
                let b : ltb t (first + suc n) ≡ false = le-ltb _ _ (omega arith) in
                let c : ltb t (first + n) ≡ false = le-ltb _ _ (omega arith) in
                let d : eqb t (first + n) ≡ false = ne_eqb _ _ (λ same. omega arith) in
                rw (b, c, d) (sym (false-or (leb first t && false)))
          ]
    ]

within-zero : (first t : ℕ) → is_within first zero t ≡ false
within-zero first t =
    elim (cases_lt t first) [
      | inl lt ↦ and_left _ _ (lt-leb first t lt)
      | inr le ↦ is_within-past first zero t (omega arith)
    ]

-- the values of one tick under a test that it passes or fails
one-tick : (o m : ℕ) (h : History) (c : ℕ → Bool) (at : ℕ) (b : Bool) → c at ≡ b
    → values_where o m (λ t. eqb t at && c t) h ≡ cond b (values_where o m (λ t. eqb t at) h) []
one-tick o m h c at true is = values_where-same o m (λ t. eqb t at && c t) (λ t. eqb t at) h (λ t. by t (eqb t at) refl)
  where
    by : (t : ℕ) (b : Bool) → eqb t at ≡ b → (b && c t) ≡ b
    by t true same = ap c (eqb-true _ _ same) ∙ is
    by t false same = refl
one-tick o m h c at false is = values_where-none o m (λ t. eqb t at && c t) h (λ t. by t (eqb t at) refl)
  where
    by : (t : ℕ) (b : Bool) → eqb t at ≡ b → (b && c t) ≡ false
    by t true same = ap c (eqb-true _ _ same) ∙ is
    by t false same = refl

one-tick-cells : (g h : History) (o m at : ℕ) (c d : ℕ → Bool) → c at ≡ d at
    → (c at ≡ true → cell_of (values_where o m (λ k. eqb k at) g) ≡ cell_of (values_where o m (λ k. eqb k at) h))
    → cell_of (values_where o m (λ t. eqb t at && c t) g) ≡ cell_of (values_where o m (λ t. eqb t at && d t) h)
one-tick-cells g h o m at c d same cells = by (c at) refl
  where
    by : (b : Bool) → c at ≡ b
        → cell_of (values_where o m (λ t. eqb t at && c t) g) ≡ cell_of (values_where o m (λ t. eqb t at && d t) h)
    by true is =
        ap cell_of (one-tick o m g c at true is) ∙ (cells is ∙ sym (ap cell_of (one-tick o m h d at true (sym same ∙ is))))
    by false is = ap cell_of (one-tick o m g c at false is) ∙ sym (ap cell_of (one-tick o m h d at false (sym same ∙ is)))

-- histories with the same cells in the ticks of a period that pass have the same cell of it
pub period-cells : (g h : History) (o m first n : ℕ) (c d : ℕ → Bool) → ((t : ℕ) → t < first + n → c t ≡ d t)
    → ((t : ℕ) → t < first + n → c t ≡ true → cell_of (values_where o m (λ k. eqb k t) g) ≡ cell_of (values_where o m (λ k. eqb k t) h))
    → cell_of (values_where o m (λ t. is_within first n t && c t) g) ≡ cell_of (values_where o m (λ t. is_within first n t && d t) h)
period-cells g h o m first zero c d same cells =
    ap cell_of (values_where-none o m (λ t. is_within first zero t && c t) g (λ t. and_left _ _ (within-zero first t)))
    ∙ sym (ap cell_of (values_where-none o m (λ t. is_within first zero t && d t) h (λ t. and_left _ _ (within-zero first t))))
period-cells g h o m first (suc n) c d same cells =
    let rest = period-cells g h o m first n c d (λ t lt. same t (omega arith)) (λ t lt is. cells t (omega arith) is) in
    let this = one-tick-cells g h o m (first + n) c d (same (first + n) (omega arith)) (cells (first + n) (omega arith)) in
    parts g c ∙ ((λ i. merged (rest i) (this i)) ∙ sym (parts h d))
  where
    parts : (x : History) (c : ℕ → Bool) → cell_of (values_where o m (λ t. is_within first (suc n) t && c t) x)
        ≡ merged (cell_of (values_where o m (λ t. is_within first n t && c t) x)) (cell_of (values_where o m (λ t. eqb t (first + n) && c t) x))
    parts x c =
        values-split o m (λ t. is_within first n t && c t) (λ t. eqb t (first + n) && c t) (λ t. is_within first (suc n) t && c t) x
        (λ t. ap (λ b. b && c t) (within-step first n t) ∙ or_and (is_within first n t) (eqb t (first + n)) (c t))
        (λ t passes. by t (eqb t (first + n)) refl passes)
      where
        by : (t : ℕ) (b : Bool) → eqb t (first + n) ≡ b → (is_within first n t && c t) ≡ true → (b && c t) ≡ false
        by t false is passes = refl
        by t true is passes =
            let at = eqb-true _ _ is in
            let out : (is_within first n t && c t) ≡ false = and_left _ _ (is_within-past first n t (omega arith)) in
            absurd cc
