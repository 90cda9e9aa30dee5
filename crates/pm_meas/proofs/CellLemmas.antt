-- Folds of joined lists.
use Rattle.std.proofs.Common.{◌≡◌, ℕ, suc, ◌+◌, ◌<◌, ◌≤◌, List, [], ◌∷◌, ◌++◌, length, sum, max, min, Some, true, false, ltb, lt-ltb, refl, sym, ap, ◌∙◌, arith, length-append}
use Rattle.std.proofs.lemmas.List.Sums.{sum_by-append}
use Rattle.std.specs.Bool.{then_some}
use Rattle.pm_meas.specs.declared.cell.Cell.{Cell}
use Rattle.pm_meas.specs.declared.kind.Reduce.TheVariants.{Min}
use Rattle.pm_meas.specs.Cell.{greatest, least, lowest, cell_of, with_value, merged, reduced}

pub sum-append : (xs ys : List ℕ) → sum (xs ++ ys) ≡ sum xs + sum ys
sum-append xs ys = sum_by-append (λ x. x) xs ys

pub greatest-append : (xs ys : List ℕ) → greatest (xs ++ ys) ≡ max (greatest xs) (greatest ys)
greatest-append [] ys = omega arith
greatest-append (x ∷ xs) ys = omega (arith, greatest-append xs ys)

pub least-min : (a b : ℕ) (vs : List ℕ) → least (min a b) vs ≡ min a (least b vs)
least-min a b [] = refl
least-min a b (v ∷ vs) = omega arith

pub least-append : (v : ℕ) (xs ys : List ℕ) → least v (xs ++ ys) ≡ least (least v xs) ys
least-append v [] ys = refl
least-append v (x ∷ xs) ys = ap (min v) (least-append x xs ys) ∙ sym (least-min v (least x xs) ys)

pub least-at_most : (v : ℕ) (vs : List ℕ) → least v vs ≤ v
least-at_most v [] = omega arith
least-at_most v (w ∷ ws) = omega arith

pub lowest-append : (xs ys : List ℕ) → lowest (xs ++ ys) ≡ min (lowest xs) (lowest ys)
lowest-append xs ys =
    let capped : least 4294967295 xs ≡ min (least 4294967295 xs) 4294967295 = omega (arith, least-at_most 4294967295 xs) in
    least-append 4294967295 xs ys ∙ ap (λ a. least a ys) capped ∙ least-min (least 4294967295 xs) 4294967295 ys

-- the cell of joined lists is the merge of their cells
pub cell_of-append : (xs ys : List ℕ) → cell_of (xs ++ ys) ≡ merged (cell_of xs) (cell_of ys)
cell_of-append xs ys =
    λ i. record {
      n = length-append xs ys i;
      sum = sum-append xs ys i;
      max = greatest-append xs ys i;
      min = lowest-append xs ys i;
    }

pub cell_of-push : (xs : List ℕ) (v : ℕ) → v < 4294967296 → cell_of (xs ++ v ∷ []) ≡ with_value (cell_of xs) v
cell_of-push xs v fits =
    let last : min 4294967295 v ≡ v = omega arith in
    let greatest_is : max v 0 ≡ v = omega arith in
    let sum_is : 0 + v ≡ v = omega arith in
    cell_of-append xs (v ∷ []) ∙ (λ i. record {
      n = length xs + 1;
      sum = sum xs + sum_is i;
      max = max (greatest xs) (greatest_is i);
      min = min (lowest xs) (last i);
    })

pub merged-comm : (a b : Cell) → merged a b ≡ merged b a
merged-comm a b =
    let n_is : a.n + b.n ≡ b.n + a.n = omega arith in
    let sum_is : a.sum + b.sum ≡ b.sum + a.sum = omega arith in
    let max_is : max a.max b.max ≡ max b.max a.max = omega arith in
    let min_is : min a.min b.min ≡ min b.min a.min = omega arith in
    λ i. record { n = n_is i; sum = sum_is i; max = max_is i; min = min_is i }

-- cells of two lists merge into the cell of the joined list, in either order
pub merged-in_order : (a b : Cell) (xs ys : List ℕ) → a ≡ cell_of xs → b ≡ cell_of ys → merged a b ≡ cell_of (xs ++ ys)
merged-in_order a b xs ys first second = (λ i. merged (first i) (second i)) ∙ sym (cell_of-append xs ys)

pub merged-in_other_order : (a b : Cell) (xs ys : List ℕ) → a ≡ cell_of xs → b ≡ cell_of ys → merged a b ≡ cell_of (ys ++ xs)
merged-in_other_order a b xs ys first second = merged-comm a b ∙ merged-in_order b a ys xs second first

-- the least value that a cell keeps is the least of its values, which fit 32 bits as their greatest does
pub reduced-Min : (c : Cell) (vs : List ℕ) → c ≡ cell_of vs → c.max < 4294967296 → then_some (ltb 0 c.n) c.min ≡ reduced Min vs
reduced-Min c [] is fits =
    let none : ltb 0 c.n ≡ false = ap (λ (d : Cell). ltb 0 d.n) is in rw none refl
reduced-Min c (v ∷ vs) is fits =
    let n_is : c.n ≡ suc (length vs) = ap (λ (d : Cell). d.n) is in
    let min_is : c.min ≡ min 4294967295 (least v vs) = ap (λ (d : Cell). d.min) is in
    let max_is : c.max ≡ max v (greatest vs) = ap (λ (d : Cell). d.max) is in
    let at_most = least-at_most v vs in
    let some : ltb 0 c.n ≡ true = lt-ltb _ _ (omega arith) in
    let same : c.min ≡ least v vs = omega arith in
    rw some (ap Some same)
