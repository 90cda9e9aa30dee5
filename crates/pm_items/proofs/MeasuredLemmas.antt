-- What one making in each of two histories has measured, where of the ticks before one the same are counted and their cells are the same.
use Rattle.std.proofs.Common.{◌≡◌, ℕ, zero, suc, ◌+◌, ◌-◌, ◌*◌, ◌%◌, ◌<◌, ◌≤◌, Bool, true, false, ◌&&◌, not, cond, leb, eqb, List, [], ◌∷◌, ◌++◌, map, Some, None, refl, ap, ◌∙◌, arith, suc-mul}
use Rattle.std.proofs.lemmas.Bool.{leb-true, and_parts}
use Rattle.pm_base.specs.Moment.{tick_of}
use Rattle.pm_meas.specs.Cell.{cell_of}
use Rattle.pm_history.specs.declared.entry.Side.{Side}
use Rattle.pm_history.specs.History.{History, last_moment, IsHistory, is_cut}
use Rattle.pm_history.specs.declared.metric.Metric.{Metric}
use Rattle.pm_history.specs.Terms.{Terms, Measured, reporting}
use Rattle.pm_history.specs.Ticks.{is_within}
use Rattle.pm_history.specs.Standing.{Making, Standing, making_of, standing_after}
use Rattle.pm_history.specs.Counted.{is_counted, some_counted}
use Rattle.pm_history.specs.Value.{values_where, counted_values, measured_value, is_suspect}
use Rattle.pm_history.specs.Files.{part_of, parts_of, report_of, is_due}
use Rattle.pm_history.proofs.TickLemmas.{and_same, at_some-same, at_each-same}
use Rattle.pm_history.proofs.StayLemmas.{cond_same}
use Rattle.pm_items.proofs.PeriodLemmas.{period-cells}
use Rattle.pm_items.proofs.CellLemmas.{reduced-same, small-values}
use Rattle.pm_items.specs.Alike.{AreAlike}

pub record HaveSame (terms : Side → List ℕ → Terms) (g h : History) (v w : Making) (last : ℕ) : Type 0 where
  pub history : IsHistory g
  pub ids : v.id ≡ w.id
  pub counted : (t : ℕ) → t < last → is_counted terms g v t ≡ is_counted terms h w t
  pub cells : (o m t : ℕ) → t < last → is_cut g t ≡ false
      → cell_of (values_where o m (λ k. eqb k t) g) ≡ cell_of (values_where o m (λ k. eqb k t) h)

not-true : (b : Bool) → not b ≡ true → b ≡ false
not-true true is = absurd cc
not-true false is = refl

counted-whole : (terms : Side → List ℕ → Terms) (h : History) (w : Making) (t : ℕ) → is_counted terms h w t ≡ true
    → is_cut h t ≡ false
counted-whole terms h w t is = not-true _ (and_parts _ _ (and_parts _ _ (and_parts _ _ is).0).0).1

module _ (terms : Side → List ℕ → Terms) (g h : History) (v w : Making) (last : ℕ) (same : HaveSame terms g h v w last) where
  some-same : (first n : ℕ) → first + n ≤ last → some_counted terms g v first n ≡ some_counted terms h w first n
  some-same first n within = at_some-same n _ _ (λ k lt. same.counted (first + k) (omega arith))

  pub suspect-same : (first n : ℕ) → first + n ≤ last → is_suspect terms g v first n ≡ is_suspect terms h w first n
  suspect-same first n within = ap not (at_each-same n _ _ (λ k lt. same.counted (first + k) (omega arith)))

  pub measured-same : (o : ℕ) (m : Metric) (first n : ℕ) → first + n ≤ last
      → measured_value terms g v o m first n ≡ measured_value terms h w o m first n
  measured-same o m first n within =
      let some = some-same first n within in
      let xs = counted_values terms g v o m.number first n in
      let ys = counted_values terms h w o m.number first n in
      let cell : cell_of xs ≡ cell_of ys =
      period-cells g h o m.number first n (is_counted terms g v) (is_counted terms h w) (λ t lt. same.counted t (omega arith)) (λ t lt is. same.cells o m.number t (omega arith) (counted-whole terms g v t is)) in
      let value = reduced-same m.reduce xs ys cell (small-values o m.number (λ t. is_within first n t && is_counted terms g v t) g same.history) in
      λ i. cond (some i) (value i) None

  part-same : (t : Terms) (first : ℕ) → first + t.granularity ≤ last → part_of terms g v t first ≡ part_of terms h w t first
  part-same t first within =
      let value : (o : ℕ) (m : Metric) → measured_value terms g v o m first t.granularity ≡ measured_value terms h w o m first t.granularity = λ o m. measured-same o m first t.granularity within in
      let suspect = suspect-same first t.granularity within in
      λ i. record {
        begin = first;
        end = first + t.granularity;
        groups = map
            (λ (g : Measured). record {
              class = g.class;
              metrics = map (λ (m : Metric). m.number) g.metrics;
              rows = map (λ o. record { object = o; results = map (λ (m : Metric). value o m i) g.metrics; suspect = suspect i }) g.objects;
            })
            t.measured;
      }

  parts-same : (t : Terms) (first n : ℕ) → first + n * t.granularity ≤ last
      → parts_of terms g v t first n ≡ parts_of terms h w t first n
  parts-same t first zero within = refl
  parts-same t first (suc n) within =
      let product = suc-mul n t.granularity in
      let rest = parts-same t first n (omega arith) in
      let this = part-same t (first + n * t.granularity) (omega arith) in
      λ i. rest i ++ this i ∷ []

  report-same : (t : Terms) (end : ℕ) → reporting t ≤ end → end ≤ last → report_of terms g v t end ≡ report_of terms h w t end
  report-same t end room within =
      let parts = parts-same t (end - reporting t) t.parts (omega arith) in
      let id = same.ids in
      λ i. record { job = id i; begin = end - reporting t; end = end; parts = parts i }

  due-same : (t : Terms) (end : ℕ) → end ≤ last → is_due terms g v t end ≡ is_due terms h w t end
  due-same t end within =
      and_same (leb (reporting t) end && eqb (end % reporting t) 0) _ _ (λ due.
      let room = leb-true (reporting t) end (and_parts _ _ due).0 in
      some-same (end - reporting t) (reporting t) (omega arith))

  pub file-same : (t : Terms) (end : ℕ) → end ≤ last
      → cond (is_due terms g v t end) (report_of terms g v t end ∷ []) [] ≡ cond (is_due terms h w t end) (report_of terms h w t end ∷ []) []
  file-same t end within =
      ap (λ b. cond b (report_of terms g v t end ∷ []) []) (due-same t end within)
      ∙ cond_same (is_due terms h w t end) _ _ [] (λ due.
      let room = leb-true (reporting t) end (and_parts _ _ (and_parts _ _ due).0).0 in
      ap (λ r. r ∷ []) (report-same t end room within))

-- so it is of what exists in both under one id, where they are alike
pub have-same : (terms : Side → List ℕ → Terms) (g h : History) (side : Side) (id : List ℕ) (s r : Standing) → IsHistory g
    → AreAlike terms g h
    → standing_after terms side g id ≡ Some s → standing_after terms side h id ≡ Some r
    → HaveSame terms g h (making_of side id s) (making_of side id r) (tick_of (last_moment g))
have-same terms g h side id s r ig alike is ir =
    record { history = ig; ids = refl; counted = alike.counted side id s r is ir; cells = alike.cells }
