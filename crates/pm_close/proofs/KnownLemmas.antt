-- What is known of the ticks of a period that ends with a Now or a Boot, and so its values.
use Rattle.std.proofs.Common.{◌≡◌, ◌≢◌, ℕ, ◌+◌, ◌-◌, ◌<◌, ◌≤◌, Bool, true, false, cond, List, [], length, get_or, slice_index_or, Option, None, sym, ap, ◌∙◌, arith, inl, inr, lt-ltb, le-ltb}
use Rattle.std.proofs.lemmas.Bool.{cond-true, cond-false, cases_lt, cases_order, ne_eqb, eq-eqb, or_parts}
use Rattle.std.proofs.lemmas.List.{get_or-map}
use Rattle.pm_meas.specs.declared.cell.Cell.{Cell}
use Rattle.pm_meas.specs.declared.kind.Reduce.{Reduce}
use Rattle.pm_meas.specs.Cell.{cell_of, reduced}
use Rattle.pm_inventory.specs.Inventory.{SlotKey}
use Rattle.pm_history.specs.declared.entry.Side.{Side}
use Rattle.pm_history.specs.declared.entry.Entry.TheVariants.{Boot, Now}
use Rattle.pm_history.specs.declared.metric.Metric.{Metric}
use Rattle.pm_history.specs.History.{History, ◌▷◌, IsHistory, is_cut, cuts}
use Rattle.pm_history.specs.Terms.{Terms}
use Rattle.pm_history.specs.Ticks.{at_some}
use Rattle.pm_history.specs.Standing.{Making}
use Rattle.pm_history.specs.Value.{measured_value}
use Rattle.pm_close.specs.declared.cells.TickCells.{TickCells}
use Rattle.pm_close.specs.declared.marks.Marks.{Marks}
use Rattle.pm_close.specs.Rows.{tick_cell, cells_in, blank, row_at, cell_at}
use Rattle.pm_close.specs.Cells.{CellsStand, AreOpen}
use Rattle.pm_close.specs.Marks.{mark_at, PeriodStands}
use Rattle.pm_close.specs.Values.{known_cell, KnowsCells, merged_where, IsCovered}
use Rattle.pm_close.proofs.RowLemmas.{get-rows}
use Rattle.pm_close.proofs.EndLemmas.{tick_cell-past, tick_cell-now, tick_cell-boot}
use Rattle.pm_close.proofs.MergeLemmas.{fold_in}
use Rattle.pm_close.proofs.PeriodLemmas.{value_by-marks, counted-uncut}

-- which of the three it is
known-kept : (kept : TickCells) (row : List Cell) (slot tick : ℕ) → kept.first ≤ tick → tick < kept.first + kept.ticks
    → known_cell kept row slot tick ≡ cell_at kept.cells.items kept.slots slot (tick - kept.first)
known-kept kept row slot tick from to = cond-false _ _ _ (le-ltb _ _ from) ∙ cond-true _ _ _ (lt-ltb _ _ to)

known-open : (kept : TickCells) (row : List Cell) (slot tick : ℕ) → tick ≡ kept.first + kept.ticks
    → known_cell kept row slot tick ≡ get_or row slot (cell_of [])
known-open kept row slot tick at =
    cond-false _ _ _ (le-ltb tick kept.first (omega (arith, at)))
    ∙ (cond-false _ _ _ (le-ltb tick (kept.first + kept.ticks) (omega (arith, at))) ∙ cond-true _ _ _ (eq-eqb _ _ at))

known-later : (kept : TickCells) (row : List Cell) (slot tick : ℕ) → kept.first + kept.ticks < tick
    → known_cell kept row slot tick ≡ cell_of []
known-later kept row slot tick past =
    let other : tick ≢ kept.first + kept.ticks = λ at. omega (arith, at, past) in
    cond-false _ _ _ (le-ltb tick kept.first (omega arith))
    ∙ (cond-false _ _ _ (le-ltb tick (kept.first + kept.ticks) (omega arith)) ∙ cond-false _ _ _ (ne_eqb _ _ other))

-- a slot's cell in a row of a tick that isn't cut
row-uncut : (slots : List SlotKey) (h : History) (slot tick : ℕ) (key : SlotKey) → slot < length slots
    → get_or slots slot key ≡ key → is_cut h tick ≡ false
    → get_or (row_at slots h tick) slot (cell_of []) ≡ tick_cell h tick key
row-uncut slots h slot tick key lt is uncut =
    ap (λ (row : List Cell). get_or row slot (cell_of [])) (cond-false _ (blank slots) (cells_in slots h tick) uncut)
    ∙ (get_or-map (tick_cell h tick) slots slot key (cell_of []) lt ∙ ap (tick_cell h tick) is)

knows-after : (slots : List SlotKey) (g h : History) (kept : TickCells) (row : List Cell) → IsHistory h
    → ((t : ℕ) → is_cut g t ≡ false → is_cut h t ≡ false)
    → ((t : ℕ) (key : SlotKey) → tick_cell g t key ≡ tick_cell h t key)
    → AreOpen slots h row → CellsStand slots h kept → KnowsCells slots g kept row
knows-after slots g h kept row is uncut same row_is stand = record {
  wide = stand.wide;
  known = λ slot tick key lt at from uncut_in.
      let reach = stand.reach in
      let uncut_h = uncut tick uncut_in in
      elim (cases_order tick (kept.first + kept.ticks)) [
        | inl here ↦
            known-open kept row slot tick here
            ∙ (ap (λ (r : List Cell). get_or r slot (cell_of [])) (row_is ∙ ap (row_at slots h) (sym reach ∙ sym here))
            ∙ (row-uncut slots h slot tick key lt at uncut_h ∙ sym (same tick key)))
        | inr other ↦
            elim other [
              | inl before ↦
                  let back : kept.first + (tick - kept.first) ≡ tick = omega (arith, from) in
                  known-kept kept row slot tick from before
                  ∙ ((λ i. cell_at (stand.rows i) (stand.wide i) slot (tick - kept.first))
                  ∙ (get-rows slots h kept.first kept.ticks (tick - kept.first) slot (omega (arith, from, before)) lt
                  ∙ (ap (λ t. get_or (row_at slots h t) slot (cell_of [])) back
                  ∙ (row-uncut slots h slot tick key lt at uncut_h ∙ sym (same tick key)))))
              | inr later ↦
                  known-later kept row slot tick later
                  ∙ (sym (tick_cell-past h tick key is (omega (arith, reach, later))) ∙ sym (same tick key))
            ]
      ];
}

pub knows-now : (slots : List SlotKey) (h : History) (m : ℕ) (kept : TickCells) (row : List Cell) → IsHistory h
    → AreOpen slots h row → CellsStand slots h kept → KnowsCells slots (h ▷ Now m) kept row
knows-now slots h m kept row is =
    knows-after slots (h ▷ Now m) h kept row is (λ t uncut. (or_parts (is_cut h t) (cuts h (Now m) t) uncut).0)
    (tick_cell-now h m)

pub knows-boot : (slots : List SlotKey) (h : History) (m : ℕ) (kept : TickCells) (row : List Cell) → IsHistory h
    → AreOpen slots h row → CellsStand slots h kept → KnowsCells slots (h ▷ Boot m) kept row
knows-boot slots h m kept row is =
    knows-after slots (h ▷ Boot m) h kept row is (λ t uncut. (or_parts (is_cut h t) (cuts h (Boot m) t) uncut).0)
    (tick_cell-boot h m)

-- the value of a period by its marks and what is known of its ticks
pub value_by-period : (kept : TickCells) (row : List Cell) (slot : ℕ) (period : Marks) (reduce : Reduce) (cell : Cell)
    (some : Bool) (answer : Option ℕ)
    (terms : Side → List ℕ → Terms) (slots : List SlotKey) (h : History) (w : Making) (key : SlotKey) (metric : Metric)
    (granularity end : ℕ)
    → slot < kept.slots → IsCovered kept period
    → some ≡ at_some period.count (mark_at period)
    → cell ≡ merged_where (mark_at period) (λ k. known_cell kept row slot (period.begin + k)) 0 period.count
    → ((values : List ℕ) → cell ≡ cell_of values → answer ≡ reduced reduce values)
    → KnowsCells slots h kept row → slice_index_or slots slot key ≡ key → metric.number ≡ key.metric → metric.reduce ≡ reduce
    → PeriodStands terms h w granularity end period
    → cond some answer None ≡ measured_value terms h w key.object metric period.begin granularity
value_by-period kept row slot period reduce cell some answer terms slots h w key metric granularity end in_row covered some_is
    cell_is reads knows at number same stand =
    let wide = knows.wide in
    let whole = stand.whole in
    value_by-marks terms h w key.object metric period.begin granularity (mark_at period)
    (λ k. known_cell kept row slot (period.begin + k)) reduce cell some answer
    (λ k lt. stand.counted k (omega (arith, lt, whole)))
    (λ k lt counted.
    let marked : mark_at period k ≡ true = stand.counted k (omega (arith, lt, whole)) ∙ counted in
    let from : kept.first ≤ period.begin + k =
    elim (cases_lt (period.begin + k) kept.first) [
      | inl before ↦ absurd (let none = covered k (omega (arith, lt, whole)) before in cc)
      | inr le ↦ le
    ] in
    knows.known slot (period.begin + k) key (omega (arith, in_row, wide)) at from
    (counted-uncut terms h w (period.begin + k) counted)
    ∙ ap (λ n. fold_in h key.object n (period.begin + k)) (sym number))
    (sym same)
    (some_is ∙ ap (λ n. at_some n (mark_at period)) whole)
    (cell_is ∙ ap (merged_where (mark_at period) (λ k. known_cell kept row slot (period.begin + k)) 0) whole)
    reads
