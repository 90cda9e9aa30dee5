-- Cells of which each is that of one tick at most, in lists that are made of others.
use Rattle.std.proofs.Common.{◌≡◌, ℕ, ◌+◌, ◌-◌, ◌*◌, ◌≤◌, List, [], ◌++◌, length, get_or, drop, replicate, sym, ap, subst, ◌∙◌, arith, inl, inr, min}
use Rattle.std.proofs.Math.Nat.{add-mul}
use Rattle.std.proofs.Math.ListN.{drop_of_length-le}
use Rattle.std.proofs.lemmas.Nat.{mul-le}
use Rattle.std.proofs.lemmas.Bool.{cases_lt}
use Rattle.std.proofs.lemmas.List.{get_or_append_left, get_or-append-add, get_or-drop, get_or-replicate, length-append, length-drop, length-replicate}
use Rattle.pm_meas.specs.declared.cell.Cell.{Cell}
use Rattle.pm_meas.specs.Cell.{cell_of}
use Rattle.pm_close.specs.Rows.{IsSmall, AreSmall}

pub AreSmall-drop : (d : ℕ) (cells : List Cell) → AreSmall cells → AreSmall (drop d cells)
AreSmall-drop d cells small k lt =
    let long = length-drop d cells in
    subst IsSmall (sym (get_or-drop d cells k (cell_of []))) (small (d + k) (omega (arith, long, lt)))

pub AreSmall-append : (xs ys : List Cell) → AreSmall xs → AreSmall ys → AreSmall (xs ++ ys)
AreSmall-append xs ys first second k lt =
    let long = length-append xs ys in
    elim (cases_lt k (length xs)) [
      | inl below ↦ subst IsSmall (sym (get_or_append_left xs ys (cell_of []) k below)) (first k below)
      | inr past ↦
          let at : k ≡ length xs + (k - length xs) = omega arith in
          let same = ap (λ i. get_or (xs ++ ys) i (cell_of [])) at ∙ get_or-append-add xs ys (k - length xs) (cell_of []) in
          subst IsSmall (sym same) (second (k - length xs) (omega (arith, long, lt, past)))
    ]

pub IsSmall-empty : IsSmall (cell_of [])
IsSmall-empty = (omega arith, omega arith)

pub AreSmall-replicate : (n : ℕ) → AreSmall (replicate n (cell_of []))
AreSmall-replicate n k lt =
    let long = length-replicate n (cell_of []) in
    subst IsSmall (sym (get_or-replicate n k (cell_of []) (cell_of []) (omega (arith, long, lt)))) IsSmall-empty

-- some rows of a width, and the others
pub rows-left : (d n w : ℕ) → d ≤ n → n * w - d * w ≡ (n - d) * w
rows-left d n w le =
    let parted = add-mul d (n - d) w in
    let same : d + (n - d) ≡ n = omega arith in
    let whole = ap (λ k. k * w) same in
    omega (arith, parted, whole)

pub length-forgotten : (d n w : ℕ) (cells : List Cell) → d ≤ n → length cells ≡ n * w → length (drop (d * w) cells) ≡ (n - d) * w
length-forgotten d n w cells le long =
    let left = length-drop (d * w) cells in
    let rows = rows-left d n w le in
    omega (arith, left, rows, long)

-- no more rows go than there are
pub drop-at_most : (d n w : ℕ) (cells : List Cell) → length cells ≡ n * w → drop (min d n * w) cells ≡ drop (d * w) cells
drop-at_most d n w cells long =
    elim (cases_lt d n) [
      | inl less ↦ let same : min d n ≡ d = omega arith in ap (λ k. drop (k * w) cells) same
      | inr more ↦
          let same : min d n ≡ n = omega arith in
          let wide = mul-le n w d w more (omega arith) in
          ap (λ k. drop (k * w) cells) same
          ∙ (drop_of_length-le cells (omega (arith, long)) ∙ sym (drop_of_length-le cells (omega (arith, long, wide))))
    ]
