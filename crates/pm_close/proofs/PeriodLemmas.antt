-- From what is known of the ticks of a period to its value.
use Rattle.std.proofs.Common.{◌≡◌, ℕ, zero, suc, ◌+◌, ◌<◌, Bool, true, false, ◌&&◌, not, cond, List, Option, None, refl, sym, ap, ◌∙◌, arith}
use Rattle.pm_meas.specs.declared.cell.Cell.{Cell}
use Rattle.pm_meas.specs.declared.kind.Reduce.{Reduce}
use Rattle.pm_meas.specs.Cell.{cell_of, merged, reduced}
use Rattle.pm_history.specs.declared.entry.Side.{Side}
use Rattle.pm_history.specs.History.{History, is_cut, is_over}
use Rattle.pm_history.specs.Terms.{Terms}
use Rattle.pm_history.specs.Standing.{Making}
use Rattle.pm_history.specs.Counted.{is_counted, ran, is_touched}
use Rattle.pm_history.specs.Value.{counted_values, measured_value}
use Rattle.pm_history.specs.declared.metric.Metric.{Metric}
use Rattle.pm_history.specs.Ticks.{at_some}
use Rattle.pm_history.proofs.TickLemmas.{at_some-same}
use Rattle.pm_close.specs.Values.{merged_where}
use Rattle.pm_close.proofs.MergeLemmas.{fold_in, counted_cell}

-- the same of a run that begins elsewhere, and agrees where its test passes
pub merged_where-same : (p q : ℕ → Bool) (c d : ℕ → Cell) (a b n : ℕ)
    → ((k : ℕ) → k < n → p (a + k) ≡ q (b + k)) → ((k : ℕ) → k < n → q (b + k) ≡ true → c (a + k) ≡ d (b + k))
    → merged_where p c a n ≡ merged_where q d b n
merged_where-same p q c d a b zero tests cells = refl
merged_where-same p q c d a b (suc n) tests cells =
    let rest = merged_where-same p q c d a b n (λ k lt. tests k (omega arith)) (λ k lt. cells k (omega arith)) in
    (λ i. cond (tests n (omega arith) i) (merged (rest i) (c (a + n))) (rest i))
    ∙ by (q (b + n)) (merged_where q d b n) (cells n (omega arith))
  where
    by : (t : Bool) (acc : Cell) → (t ≡ true → c (a + n) ≡ d (b + n))
        → cond t (merged acc (c (a + n))) acc ≡ cond t (merged acc (d (b + n))) acc
    by true acc same = ap (merged acc) (same refl)
    by false acc same = refl

-- a column by itself: where the marks are what is counted, and each marked cell that of its tick
module _ (terms : Side → List ℕ → Terms) where
  pub value_by-marks : (h : History) (w : Making) (o : ℕ) (m : Metric) (first n : ℕ) (marked : ℕ → Bool) (cells : ℕ → Cell)
      (reduce : Reduce) (cell : Cell) (some : Bool) (answer : Option ℕ)
      → ((k : ℕ) → k < n → marked k ≡ is_counted terms h w (first + k))
      → ((k : ℕ) → k < n → is_counted terms h w (first + k) ≡ true → cells k ≡ fold_in h o m.number (first + k))
      → reduce ≡ m.reduce
      → some ≡ at_some n marked
      → cell ≡ merged_where marked cells 0 n
      → ((values : List ℕ) → cell ≡ cell_of values → answer ≡ reduced reduce values)
      → cond some answer None ≡ measured_value terms h w o m first n
  value_by-marks h w o m first n marked cells reduce cell some answer marks stand same some_is cell_is reads =
      let begun : (k : ℕ) → 0 + k ≡ k = λ k. omega arith in
      let cell_counted : cell ≡ cell_of (counted_values terms h w o m.number first n) =
      cell_is ∙ (merged_where-same marked (is_counted terms h w) cells (fold_in h o m.number) 0 first n
      (λ k lt. ap marked (begun k) ∙ marks k lt) (λ k lt counted. ap cells (begun k) ∙ stand k lt counted)
      ∙ sym (counted_cell terms h w o m.number first n)) in
      let some_counted_is = some_is ∙ at_some-same n marked (λ k. is_counted terms h w (first + k)) marks in
      let answer_is = reads (counted_values terms h w o m.number first n) cell_counted
      ∙ ap (λ r. reduced r (counted_values terms h w o m.number first n)) same in
      λ i. cond (some_counted_is i) (answer_is i) None

module _ (terms : Side → List ℕ → Terms) where
  pub counted-uncut : (h : History) (w : Making) (t : ℕ) → is_counted terms h w t ≡ true → is_cut h t ≡ false
  counted-uncut h w t counted =
      by (is_over h t) (is_cut h t) (ran terms h w t) (not (is_touched terms h w t)) counted
    where
      by : (a c r u : Bool) → (a && not c && r && u) ≡ true → c ≡ false
      by true true r u e = absurd cc
      by true false r u e = refl
      by false c r u e = absurd cc
