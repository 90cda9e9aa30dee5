-- The row of stored cells, cell by cell, and as the cells of the slots of a tick.
use Rattle.std.proofs.Common.{◌≡◌, ℕ, zero, suc, ◌+◌, ◌*◌, ◌<◌, ◌≤◌, ◌&&◌, Bool, true, false, cond, eqb, leb, ltb, List, [], ◌∷◌, ◌++◌, length, map, take, set, get_or, replicate, Option, Some, None, refl, sym, ap, ◌∙◌, subst, arith, inl, inr}
use Rattle.std.specs.List.{position_from}
use Rattle.std.proofs.lemmas.Bool.{ne_eqb, eq-eqb, eqb-true, ltb-true, leb-true, cases_lt}
use Rattle.std.proofs.lemmas.List.{take_more, get_or-set_same, get_or-set_other, get_or-replicate, length-take}
use Rattle.pm_meas.specs.declared.cell.Cell.{Cell}
use Rattle.pm_meas.specs.declared.cell.TheConstants.{MAX_VALUE}
use Rattle.pm_meas.specs.Cell.{cell_of}
use Rattle.pm_items.specs.Permitted.{IsInRange}
use Rattle.pm_store.specs.Rows.{rise_from, are_rising}
use Rattle.pm_store.specs.Stored.{cell_at}
use Rattle.pm_replay.specs.Cells.{FitsSlot}

pub both_true : (a b : Bool) → (a && b) ≡ true → (a ≡ true) × (b ≡ true)
both_true true b is = (refl, is)
both_true false b is = cc

-- ---- cells that rise

-- no cell of a slot before the least
before-least : (least slot : ℕ) (cells : List (ℕ × Cell)) → rise_from least cells ≡ true → slot < least → cell_at cells slot ≡ cell_of []
before-least least slot [] rise lt = refl
before-least least slot (c ∷ cs) rise lt =
    let parts = both_true (leb least c.0 && ltb 0 c.1.n) (rise_from (c.0 + 1) cs) rise in
    let le = leb-true least c.0 (both_true (leb least c.0) (ltb 0 c.1.n) parts.0).0 in
    let other : eqb c.0 slot ≡ false = ne_eqb c.0 slot (λ same. omega (arith, same, le, lt)) in
    ap (λ b. cond b c.1 (cell_at cs slot)) other ∙ before-least (c.0 + 1) slot cs parts.1 (omega (arith, le, lt))

-- the cell of the slot of one more, at the end
last-cell : (least : ℕ) (cells : List (ℕ × Cell)) (c : ℕ × Cell) → rise_from least (cells ++ c ∷ []) ≡ true → cell_at (cells ++ c ∷ []) c.0 ≡ c.1
last-cell least [] c rise = ap (λ b. cond b c.1 (cell_of [])) (eq-eqb c.0 c.0 refl)
last-cell least (d ∷ ds) c rise =
    let parts = both_true (leb least d.0 && ltb 0 d.1.n) (rise_from (d.0 + 1) (ds ++ c ∷ [])) rise in
    let apart = rises-to (d.0 + 1) ds c parts.1 in
    let other : eqb d.0 c.0 ≡ false = ne_eqb d.0 c.0 (λ same. omega (arith, same, apart)) in
    ap (λ b. cond b d.1 (cell_at (ds ++ c ∷ []) c.0)) other ∙ last-cell (d.0 + 1) ds c parts.1
  where
    rises-to : (least : ℕ) (cells : List (ℕ × Cell)) (c : ℕ × Cell) → rise_from least (cells ++ c ∷ []) ≡ true → least ≤ c.0
    rises-to least [] c rise =
        let parts = both_true (leb least c.0 && ltb 0 c.1.n) true rise in
        leb-true least c.0 (both_true (leb least c.0) (ltb 0 c.1.n) parts.0).0
    rises-to least (d ∷ ds) c rise =
        let parts = both_true (leb least d.0 && ltb 0 d.1.n) (rise_from (d.0 + 1) (ds ++ c ∷ [])) rise in
        let le = leb-true least d.0 (both_true (leb least d.0) (ltb 0 d.1.n) parts.0).0 in
        let rest = rises-to (d.0 + 1) ds c parts.1 in
        omega (arith, le, rest)

-- the cells of other slots
other-cell : (cells : List (ℕ × Cell)) (c : ℕ × Cell) (slot : ℕ) → eqb c.0 slot ≡ false → cell_at (cells ++ c ∷ []) slot ≡ cell_at cells slot
other-cell [] c slot other = ap (λ b. cond b c.1 (cell_of [])) other
other-cell (d ∷ ds) c slot other = ap (λ rest. cond (eqb d.0 slot) d.1 rest) (other-cell ds c slot other)

-- what rises up to a place
rise-take : (least n : ℕ) (cells : List (ℕ × Cell)) → rise_from least cells ≡ true → rise_from least (take n cells) ≡ true
rise-take least zero cells rise = refl
rise-take least (suc n) [] rise = refl
rise-take least (suc n) (c ∷ cs) rise =
    let parts = both_true (leb least c.0 && ltb 0 c.1.n) (rise_from (c.0 + 1) cs) rise in
    let rest = rise-take (c.0 + 1) n cs parts.1 in
    (λ i. parts.0 i && rest i)

-- ---- one cell more is put into a row

pub row-begins : (width slot : ℕ) → slot < width → get_or (replicate width (cell_of [])) slot (cell_of []) ≡ cell_of []
row-begins width slot lt = get_or-replicate width slot (cell_of []) (cell_of []) lt

pub row-more : (width i slot : ℕ) (cells : List (ℕ × Cell)) (c : ℕ × Cell) (row : List Cell) → length row ≡ width → i < length cells → c ≡ get_or cells i c
    → are_rising cells ≡ true → c.0 < width → slot < width
    → get_or row slot (cell_of []) ≡ cell_at (take i cells) slot
    → get_or (set row c.0 c.1) slot (cell_of []) ≡ cell_at (take (i + 1) cells) slot
row-more width i slot cells c row wide lt at rise in_row within before =
    let more : take (i + 1) cells ≡ take i cells ++ c ∷ [] = take_more cells i c lt ∙ ap (λ x. take i cells ++ x ∷ []) (sym at) in
    by (eqb c.0 slot) refl more
  where
    by : (b : Bool) → eqb c.0 slot ≡ b → take (i + 1) cells ≡ take i cells ++ c ∷ []
        → get_or (set row c.0 c.1) slot (cell_of []) ≡ cell_at (take (i + 1) cells) slot
    by true is more =
        let same = eqb-true c.0 slot is in
        let rises : rise_from 0 (take i cells ++ c ∷ []) ≡ true = ap (rise_from 0) (sym more) ∙ rise-take 0 (i + 1) cells rise in
        ap (λ s. get_or (set row c.0 c.1) s (cell_of [])) (sym same)
        ∙ (get_or-set_same row c.0 c.1 (cell_of []) (omega (arith, wide, in_row))
        ∙ (sym (last-cell 0 (take i cells) c rises)
        ∙ ((λ j. cell_at (sym more j) (same j)))))
    by false is more =
        let apart : (slot ≡ c.0 → ⊥) = λ same. absurd (differ (sym is ∙ eq-eqb c.0 slot (sym same))) in
        get_or-set_other row c.0 slot c.1 (cell_of []) apart ∙ (before ∙ (sym (other-cell (take i cells) c slot is) ∙ ap (λ cs. cell_at cs slot) (sym more)))
      where
        differ : false ≡ true → ⊥
        differ same = cc
