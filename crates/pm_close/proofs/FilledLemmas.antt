-- The cells of a row that have a value, one by one.
use Rattle.std.proofs.Common.{◌≡◌, ◌<◌, ◌+◌, ◌++◌, ◌∷◌, [], ℕ, zero, suc, List, length, take, get_or, sym, ap, ◌∙◌, arith, append_assoc}
use Rattle.std.proofs.lemmas.List.{append-nil, get_or_default}
use Rattle.pm_meas.specs.declared.cell.Cell.{Cell}
use Rattle.pm_close.specs.Closer.{filled_one, filled_from}

filled-next : (slot k : ℕ) (row : List Cell) (cell : Cell) → k < length row → get_or row k cell ≡ cell
    → filled_from slot (take (suc k) row) ≡ filled_from slot (take k row) ++ filled_one (slot + k) cell
filled-next slot k [] cell lt is = absurd (omega (arith, lt))
filled-next slot zero (c ∷ cs) cell lt is =
    let here : slot ≡ slot + 0 = omega arith in
    append-nil (filled_one slot c) ∙ (λ i. filled_one (here i) (is i))
filled-next slot (suc k) (c ∷ cs) cell lt is =
    let at : slot + 1 + k ≡ slot + suc k = omega arith in
    (λ i. filled_one slot c ++ (filled-next (slot + 1) k cs cell (omega (arith, lt)) is ∙ ap (λ n. filled_from (slot + 1) (take k cs) ++ filled_one n cell) at) i)
    ∙ sym (append_assoc (filled_one slot c) (filled_from (slot + 1) (take k cs)) (filled_one (slot + suc k) cell))

pub filled-more : (k : ℕ) (row : List Cell) (d : Cell) → k < length row
    → filled_from 0 (take (k + 1) row) ≡ filled_from 0 (take k row) ++ filled_one k (get_or row k d)
filled-more k row d lt =
    let cell = get_or row k d in
    let is : get_or row k cell ≡ cell = get_or_default row k cell d lt in
    let next : k + 1 ≡ suc k = omega arith in
    let own : 0 + k ≡ k = omega arith in
    ap (λ n. filled_from 0 (take n row)) next
    ∙ (filled-next 0 k row cell lt is ∙ ap (λ n. filled_from 0 (take k row) ++ filled_one n cell) own)
