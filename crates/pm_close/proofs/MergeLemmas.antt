-- A period's value is what the merge of the cells of its counted ticks reads.
use Rattle.std.proofs.Common.{◌≡◌, ℕ, zero, suc, ◌+◌, ◌<◌, ◌≤◌, Bool, true, false, ◌&&◌, ◌||◌, cond, ltb, leb, eqb, List, [], ◌∷◌, length, sum, max, min, Option, None, refl, sym, ap, ◌∙◌, arith, inl, inr, lt-ltb, le-ltb, le-leb}
use Rattle.std.proofs.lemmas.Bool.{cond-true, cond-false, lt-leb, ne_eqb, and_left, and_right, ltb-true, eqb-true, and_parts, cases_lt, cases_order, eq-eqb}
use Rattle.pm_base.specs.Moment.{tick_of}
use Rattle.pm_meas.specs.declared.cell.Cell.{Cell}
use Rattle.pm_meas.specs.Cell.{greatest, lowest, cell_of, merged, reduced}
use Rattle.pm_meas.proofs.CellLemmas.{cell_of-append, least-at_most}
use Rattle.pm_history.specs.declared.entry.Side.{Side}
use Rattle.pm_history.specs.declared.entry.Entry.{Entry}
use Rattle.pm_history.specs.declared.entry.Entry.TheVariants.{Event}
use Rattle.pm_history.specs.History.{History, Start, ◌▷◌}
use Rattle.pm_history.specs.declared.metric.Metric.{Metric}
use Rattle.pm_history.specs.Terms.{Terms}
use Rattle.pm_history.specs.Ticks.{is_within}
use Rattle.pm_history.specs.Standing.{Making}
use Rattle.pm_history.specs.Counted.{is_counted, some_counted}
use Rattle.pm_history.specs.Value.{value_where, values_where, counted_values, measured_value}
use Rattle.pm_history.proofs.StayLemmas.{values_where-same}
use Rattle.pm_history.proofs.SumLemmas.{values_where-none, or_and}
use Rattle.pm_close.specs.Values.{merged_where}

-- the cell of an object and a metric in a tick
abbrev pub fold_in : History → ℕ → ℕ → ℕ → Cell
fold_in h o m tick = cell_of (values_where o m (λ t. eqb t tick) h)

-- as in pm_history's SumLemmas, where they are not public
false-or : (x : Bool) → (x || false) ≡ x
false-or true = refl
false-or false = refl

within_step : (first n t : ℕ) → is_within first (suc n) t ≡ (is_within first n t || eqb t (first + n))
within_step first n t =
    elim (cases_order t (first + n)) [
      | inl same ↦
          let a : leb first t ≡ true = le-leb _ _ (omega arith) in
          let b : ltb t (first + suc n) ≡ true = lt-ltb _ _ (omega arith) in
          let c : ltb t (first + n) ≡ false = le-ltb _ _ (omega arith) in
          let d : eqb t (first + n) ≡ true = eq-eqb _ _ same in
          rw (a, b, c, d) refl
      | inr other ↦
          elim other [
            | inl less ↦
                let b : ltb t (first + suc n) ≡ true = lt-ltb _ _ (omega arith) in
                let c : ltb t (first + n) ≡ true = lt-ltb _ _ less in
                let d : eqb t (first + n) ≡ false = ne_eqb _ _ (λ same. omega arith) in
                rw (b, c, d) (sym (false-or (leb first t && true)))
            | inr more ↦
                let b : ltb t (first + suc n) ≡ false = le-ltb _ _ (omega arith) in
                let c : ltb t (first + n) ≡ false = le-ltb _ _ (omega arith) in
                let d : eqb t (first + n) ≡ false = ne_eqb _ _ (λ same. omega arith) in
                rw (b, c, d) (sym (false-or (leb first t && false)))
          ]
    ]

both_true : (a b : Bool) → (a ≡ true → b ≡ true) → (a && b) ≡ a
both_true true b f = f refl
both_true false b f = refl

both_false : (a b : Bool) → (a ≡ true → b ≡ false) → (a && b) ≡ false
both_false true b f = f refl
both_false false b f = refl

within_none : (first t : ℕ) → is_within first zero t ≡ false
within_none first t =
    elim (cases_lt t first) [
      | inl lt ↦ and_left (leb first t) (ltb t (first + zero)) (lt-leb first t lt)
      | inr le ↦ and_right (leb first t) (ltb t (first + zero)) (le-ltb t (first + zero) (omega arith))
    ]

lowest_fits : (vs : List ℕ) → lowest vs ≤ 4294967295
lowest_fits vs = least-at_most 4294967295 vs

-- the empty cell changes no cell of a list
pub merged-empty : (vs : List ℕ) → merged (cell_of vs) (cell_of []) ≡ cell_of vs
merged-empty vs =
    let n_is : length vs + 0 ≡ length vs = omega arith in
    let sum_is : sum vs + 0 ≡ sum vs = omega arith in
    let max_is : max (greatest vs) 0 ≡ greatest vs = omega arith in
    let fits = lowest_fits vs in
    let min_is : min (lowest vs) 4294967295 ≡ lowest vs = omega arith in
    λ i. record { n = n_is i; sum = sum_is i; max = max_is i; min = min_is i }

pub merged-crosswise : (a b c d : Cell) → merged (merged a b) (merged c d) ≡ merged (merged a c) (merged b d)
merged-crosswise a b c d =
    let n_is : a.n + b.n + (c.n + d.n) ≡ a.n + c.n + (b.n + d.n) = omega arith in
    let sum_is : a.sum + b.sum + (c.sum + d.sum) ≡ a.sum + c.sum + (b.sum + d.sum) = omega arith in
    let max_is : max (max a.max b.max) (max c.max d.max) ≡ max (max a.max c.max) (max b.max d.max) = omega arith in
    let min_is : min (min a.min b.min) (min c.min d.min) ≡ min (min a.min c.min) (min b.min d.min) = omega arith in
    λ i. record { n = n_is i; sum = sum_is i; max = max_is i; min = min_is i }

-- events of ticks that pass one of two tests, but never both
cell_where-split : (o m : ℕ) (p q r : ℕ → Bool) (e : Entry) → ((t : ℕ) → r t ≡ (p t || q t))
    → ((t : ℕ) → p t ≡ true → q t ≡ false)
    → cell_of (value_where o m r e) ≡ merged (cell_of (value_where o m p e)) (cell_of (value_where o m q e))
cell_where-split o m p q r (Event moment object metric value registered) either apart =
    split (eqb object o && eqb metric m && registered) (p (tick_of moment)) (q (tick_of moment)) (r (tick_of moment))
    (either (tick_of moment)) (apart (tick_of moment))
  where
    split : (a x y z : Bool) → z ≡ (x || y) → (x ≡ true → y ≡ false)
        → cell_of (cond (a && z) (value ∷ []) []) ≡ merged (cell_of (cond (a && x) (value ∷ []) []))
        (cell_of (cond (a && y) (value ∷ []) []))
    split false x y z is f = sym (merged-empty [])
    split true true true z is f = absurd (cc (f refl))
    split true true false z is f = rw is (sym (merged-empty (value ∷ [])))
    split true false true z is f = rw is (cell_of-append [] (value ∷ []))
    split true false false z is f = rw is (sym (merged-empty []))
cell_where-split o m p q r _ either apart = sym (merged-empty [])

pub cells_where-split : (o m : ℕ) (p q r : ℕ → Bool) (h : History) → ((t : ℕ) → r t ≡ (p t || q t))
    → ((t : ℕ) → p t ≡ true → q t ≡ false)
    → cell_of (values_where o m r h) ≡ merged (cell_of (values_where o m p h)) (cell_of (values_where o m q h))
cells_where-split o m p q r Start either apart = sym (merged-empty [])
cells_where-split o m p q r (h ▷ e) either apart =
    let rest = cells_where-split o m p q r h either apart in
    let this = cell_where-split o m p q r e either apart in
    let join = λ (t : ℕ → Bool). cell_of-append (values_where o m t h) (value_where o m t e) in
    join r
    ∙ ((λ i. merged (rest i) (this i))
    ∙ (merged-crosswise _ _ _ _ ∙ sym (λ i. merged (join p i) (join q i))))

module _ (terms : Side → List ℕ → Terms) where
  -- the counted events of one more tick
  one_tick : (o m x : ℕ) (c : ℕ → Bool) (h : History) (b : Bool) (acc : List ℕ) → c x ≡ b
      → merged (cell_of acc) (cell_of (values_where o m (λ t. eqb t x && c t) h)) ≡ cond b
      (merged (cell_of acc) (fold_in h o m x)) (cell_of acc)
  one_tick o m x c h true acc is =
      ap (λ vs. merged (cell_of acc) (cell_of vs))
      (values_where-same o m (λ t. eqb t x && c t)
      (λ t. eqb t x) h (λ t. both_true (eqb t x) (c t) (λ at. ap c (eqb-true t x at) ∙ is)))
  one_tick o m x c h false acc is =
      ap (λ vs. merged (cell_of acc) (cell_of vs))
      (values_where-none o m (λ t. eqb t x && c t) h (λ t. both_false (eqb t x) (c t) (λ at. ap c (eqb-true t x at) ∙ is)))
      ∙ merged-empty acc

  -- the cell of the counted events of a period is the merge of the cells of its counted ticks
  pub counted_cell : (h : History) (w : Making) (o m first n : ℕ)
      → cell_of (counted_values terms h w o m first n) ≡ merged_where (is_counted terms h w) (fold_in h o m) first n
  counted_cell h w o m first zero =
      ap cell_of (values_where-none o m (λ t. is_within first zero t && is_counted terms h w t) h
      (λ t. and_left (is_within first zero t) (is_counted terms h w t) (within_none first t)))
  counted_cell h w o m first (suc n) =
      let c : ℕ → Bool = λ t. is_counted terms h w t in
      let p : ℕ → Bool = λ t. is_within first n t && c t in
      let q : ℕ → Bool = λ t. eqb t (first + n) && c t in
      let r : ℕ → Bool = λ t. is_within first (suc n) t && c t in
      let either : (t : ℕ) → r t ≡ (p t || q t) = λ t. ap (λ b. b && c t) (within_step first n t)
      ∙ or_and (is_within first n t) (eqb t (first + n)) (c t) in
      let apart : (t : ℕ) → p t ≡ true → q t ≡ false = λ t in_p.
      let inside : t < first + n = ltb-true t (first + n)
      (and_parts (leb first t) (ltb t (first + n)) (and_parts (is_within first n t) (c t) in_p).0).1 in
      and_left (eqb t (first + n)) (c t) (ne_eqb t (first + n) (λ same. omega arith)) in
      cells_where-split o m p q r h either apart
      ∙ (one_tick o m (first + n) c h (c (first + n)) (values_where o m p h) refl
      ∙ (let rest = counted_cell h w o m first n in λ i. cond (c (first + n)) (merged (rest i) (fold_in h o m (first + n)))
      (rest i)))

  -- MERGE: any list whose cell is the merge, with values that a cell holds, reads as the value; null where no tick is counted
  pub measured_none : (h : History) (w : Making) (o : ℕ) (m : Metric) (first n : ℕ) → some_counted terms h w first n ≡ false
      → measured_value terms h w o m first n ≡ None
  measured_none h w o m first n none = cond-false (some_counted terms h w first n) _ None none

  -- what a call whose clause is that of `Cell::reduce` gives of the merge
  pub measured_by : (h : History) (w : Making) (o : ℕ) (m : Metric) (first n : ℕ) (cell : Cell) (answer : Option ℕ)
      → cell ≡ merged_where (is_counted terms h w) (fold_in h o m.number) first n
      → ((values : List ℕ) → cell ≡ cell_of values → answer ≡ reduced m.reduce values)
      → some_counted terms h w first n ≡ true
      → measured_value terms h w o m first n ≡ answer
  measured_by h w o m first n cell answer is reads some =
      cond-true (some_counted terms h w first n) _ None some
      ∙ sym (reads (counted_values terms h w o m.number first n) (is ∙ sym (counted_cell h w o m.number first n)))
