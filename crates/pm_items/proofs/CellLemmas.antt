-- Reductions by cells, and cells by parts.
use Rattle.std.proofs.Common.{◌≡◌, ℕ, ◌+◌, ◌/◌, ◌<◌, ◌≤◌, Bool, true, false, ◌&&◌, ◌||◌, cond, ltb, eqb, List, [], ◌∷◌, max, min, Some, refl, sym, ap, ◌∙◌, arith}
use Rattle.std.proofs.lemmas.List.{append-nil}
use Rattle.std.specs.Bool.{then_some}
use Rattle.pm_base.specs.Moment.{tick_of}
use Rattle.pm_meas.specs.declared.cell.Cell.{Cell}
use Rattle.pm_meas.specs.declared.kind.Reduce.{Reduce}
use Rattle.pm_meas.specs.declared.kind.Reduce.TheVariants.{Sum, Mean, Max, Min}
use Rattle.pm_meas.specs.Cell.{greatest, cell_of, merged, reduced}
use Rattle.pm_meas.proofs.CellLemmas.{greatest-append, cell_of-append, reduced-Min}
use Rattle.pm_history.specs.declared.entry.Entry.{Entry}
use Rattle.pm_history.specs.declared.entry.Entry.TheVariants.{Event}
use Rattle.pm_history.specs.History.{History, Start, ◌▷◌, IsHistory}
use Rattle.pm_history.specs.Value.{value_where, values_where}
use Rattle.pm_history.specs.Entry.{value_of}
use Rattle.pm_meas.specs.declared.cell.TheConstants.{MAX_VALUE}

-- ---- a cell tells the reduction of its values

pub reduced-same : (r : Reduce) (xs ys : List ℕ) → cell_of xs ≡ cell_of ys → greatest xs < 4294967296
    → reduced r xs ≡ reduced r ys
reduced-same Sum xs ys same fits = λ i. Some (same i).sum
reduced-same Mean [] [] same fits = refl
reduced-same Mean [] (y ∷ ys) same fits = let n = ap (λ (c : Cell). c.n) same in absurd (omega (arith, n))
reduced-same Mean (x ∷ xs) [] same fits = let n = ap (λ (c : Cell). c.n) same in absurd (omega (arith, n))
reduced-same Mean (x ∷ xs) (y ∷ ys) same fits = λ i. Some ((same i).sum / (same i).n)
reduced-same Max [] [] same fits = refl
reduced-same Max [] (y ∷ ys) same fits = let n = ap (λ (c : Cell). c.n) same in absurd (omega (arith, n))
reduced-same Max (x ∷ xs) [] same fits = let n = ap (λ (c : Cell). c.n) same in absurd (omega (arith, n))
reduced-same Max (x ∷ xs) (y ∷ ys) same fits = λ i. Some (same i).max
reduced-same Min xs ys same fits =
    let most = ap (λ (c : Cell). c.max) same in
    sym (reduced-Min (cell_of xs) xs refl fits)
    ∙ ((λ i. then_some (ltb 0 (same i).n) (same i).min) ∙ reduced-Min (cell_of ys) ys refl (omega (arith, most)))

small-value : (o m : ℕ) (p : ℕ → Bool) (e : Entry) → value_of e ≤ MAX_VALUE → greatest (value_where o m p e) < 4294967296
small-value o m p (Event k object metric value registered) small =
    by (eqb object o && eqb metric m && registered && p (tick_of k))
  where
    by : (b : Bool) → greatest (cond b (value ∷ []) []) < 4294967296
    by true = omega arith
    by false = omega arith
small-value o m p _ small = omega arith

pub small-values : (o m : ℕ) (p : ℕ → Bool) (h : History) → IsHistory h → greatest (values_where o m p h) < 4294967296
small-values o m p Start is = omega arith
small-values o m p (h ▷ e) is =
    let old = small-values o m p h is.0 in
    let new = small-value o m p e is.1.value in
    omega (arith, greatest-append (values_where o m p h) (value_where o m p e))

-- ---- cells by parts

merged-right : (xs : List ℕ) → cell_of xs ≡ merged (cell_of xs) (cell_of [])
merged-right xs = ap cell_of (sym (append-nil xs)) ∙ cell_of-append xs []

merged-four : (a b c d : Cell) → merged (merged a b) (merged c d) ≡ merged (merged a c) (merged b d)
merged-four a b c d =
    let n_is : a.n + b.n + (c.n + d.n) ≡ a.n + c.n + (b.n + d.n) = omega arith in
    let sum_is : a.sum + b.sum + (c.sum + d.sum) ≡ a.sum + c.sum + (b.sum + d.sum) = omega arith in
    let max_is : max (max a.max b.max) (max c.max d.max) ≡ max (max a.max c.max) (max b.max d.max) = omega arith in
    let min_is : min (min a.min b.min) (min c.min d.min) ≡ min (min a.min c.min) (min b.min d.min) = omega arith in
    λ i. record { n = n_is i; sum = sum_is i; max = max_is i; min = min_is i }

value-split : (o m : ℕ) (p q r : ℕ → Bool) (e : Entry) → ((t : ℕ) → r t ≡ (p t || q t)) → ((t : ℕ) → p t ≡ true → q t ≡ false)
    → cell_of (value_where o m r e) ≡ merged (cell_of (value_where o m p e)) (cell_of (value_where o m q e))
value-split o m p q r (Event k object metric value registered) either apart =
    split (eqb object o && eqb metric m && registered) (p (tick_of k)) (q (tick_of k)) (r (tick_of k)) (either (tick_of k)) (apart (tick_of k))
  where
    split : (a x y z : Bool) → z ≡ (x || y) → (x ≡ true → y ≡ false)
        → cell_of (cond (a && z) (value ∷ []) []) ≡ merged (cell_of (cond (a && x) (value ∷ []) [])) (cell_of (cond (a && y) (value ∷ []) []))
    split false x y z is f = merged-right []
    split true true true z is f = absurd (cc (f refl))
    split true true false z is f = ap (λ b. cell_of (cond b (value ∷ []) [])) is ∙ merged-right (value ∷ [])
    split true false true z is f = ap (λ b. cell_of (cond b (value ∷ []) [])) is ∙ cell_of-append [] (value ∷ [])
    split true false false z is f = ap (λ b. cell_of (cond b (value ∷ []) [])) is ∙ merged-right []
value-split o m p q r _ either apart = merged-right []

pub values-split : (o m : ℕ) (p q r : ℕ → Bool) (h : History) → ((t : ℕ) → r t ≡ (p t || q t))
    → ((t : ℕ) → p t ≡ true → q t ≡ false)
    → cell_of (values_where o m r h) ≡ merged (cell_of (values_where o m p h)) (cell_of (values_where o m q h))
values-split o m p q r Start either apart = merged-right []
values-split o m p q r (h ▷ e) either apart =
    let old = values-split o m p q r h either apart in
    let new = value-split o m p q r e either apart in
    let a = cell_of-append (values_where o m p h) (value_where o m p e) in
    let b = cell_of-append (values_where o m q h) (value_where o m q e) in
    cell_of-append (values_where o m r h) (value_where o m r e)
    ∙ ((λ i. merged (old i) (new i))
    ∙ (merged-four (cell_of (values_where o m p h)) (cell_of (values_where o m q h)) (cell_of (value_where o m p e)) (cell_of (value_where o m q e))
    ∙ sym (λ i. merged (a i) (b i))))
