-- What kept rows stand for once a Now or a Boot ends ticks.
use Rattle.std.proofs.Common.{◌≡◌, ℕ, zero, suc, ◌+◌, ◌-◌, ◌*◌, ◌<◌, ◌≤◌, List, [], ◌++◌, length, drop, replicate, max, sym, ap, ◌∙◌, arith, inl, inr, ◌⊎◌}
use Rattle.std.proofs.lemmas.Bool.{cases_lt}
use Rattle.std.proofs.lemmas.Nat.{mul-le}
use Rattle.std.proofs.Math.ListN.{drop_of_length-le}
use Rattle.pm_base.specs.Moment.{tick_of}
use Rattle.pm_meas.specs.declared.cell.Cell.{Cell}
use Rattle.pm_meas.specs.Cell.{cell_of}
use Rattle.pm_inventory.specs.Inventory.{SlotKey}
use Rattle.pm_history.specs.declared.entry.Entry.TheVariants.{Boot, Now}
use Rattle.pm_history.specs.History.{History, ◌▷◌, last_moment, IsHistory}
use Rattle.pm_close.specs.declared.cells.TickCells.{TickCells}
use Rattle.pm_close.specs.Rows.{row_at, rows_of}
use Rattle.pm_close.specs.Cells.{CellsStand}
use Rattle.pm_close.proofs.RowLemmas.{length-rows, drop-rows, rows-blank, rows-same}
use Rattle.pm_close.proofs.EndLemmas.{row_at-stays, row_at-now, row_at-past, row_at-boot}

-- rows go from the front, all of them where the first tick that is needed comes later
pub rows-forgotten : (slots : List SlotKey) (h : History) (first n from : ℕ)
    → drop ((from - first) * length slots) (rows_of slots h first n) ≡ rows_of slots h (max first from) (n - (from - first))
rows-forgotten slots h first n from =
    elim (cases_lt n (from - first)) [
      | inr within ↦
          let d = from - first in
          let whole : n ≡ d + (n - d) = omega arith in
          let at : first + d ≡ max first from = omega arith in
          ap (λ k. drop (d * length slots) (rows_of slots h first k)) whole
          ∙ (drop-rows slots h first d (n - d) ∙ ap (λ f. rows_of slots h f (n - d)) at)
      | inl past ↦
          let long = length-rows slots h first n in
          let wide = mul-le n (length slots) (from - first) (length slots) (omega arith) (omega arith) in
          let none : n - (from - first) ≡ zero = omega arith in
          drop_of_length-le (rows_of slots h first n) (omega (arith, long, wide))
          ∙ sym (ap (rows_of slots h (max first from)) none)
    ]

-- the rows of the ticks up to the open one stay, and its row is added
pub rows-now : (slots : List SlotKey) (h : History) (m first n k : ℕ) (items : List Cell)
    → IsHistory h → tick_of (last_moment h) < first + n
    → items ≡ rows_of slots h first n
    → items ++ replicate (k * length slots) (cell_of []) ≡ rows_of slots (h ▷ Now m) first (n + k)
rows-now slots h m first n k items is past are =
    ap (λ cells. cells ++ replicate (k * length slots) (cell_of [])) are
    ∙ (sym (rows-blank slots h first n k (λ t from lt. row_at-past slots h t is (omega arith)))
    ∙ sym (rows-same slots (h ▷ Now m) h first (n + k) (λ t from lt. row_at-now slots h m t)))

pub rows-boot : (slots : List SlotKey) (h : History) (m first n k : ℕ) (items : List Cell)
    → IsHistory h → last_moment h ≤ m → tick_of (last_moment h) ≤ first + n → first + n + k ≤ tick_of m
    → (n ≡ zero) ⊎ (first + n ≡ tick_of (last_moment h))
    → items ≡ rows_of slots h first n
    → items ++ replicate (k * length slots) (cell_of []) ≡ rows_of slots (h ▷ Boot m) first (n + k)
rows-boot slots h m first n k items is later past to either are =
    ap (λ cells. cells ++ replicate (k * length slots) (cell_of [])) (are ∙ sym stay)
    ∙ sym (rows-blank slots (h ▷ Boot m) first n k (λ t from lt. row_at-boot slots h m t is (omega arith) (omega arith)))
  where
    stay : rows_of slots (h ▷ Boot m) first n ≡ rows_of slots h first n
    stay =
        rows-same slots (h ▷ Boot m) h first n
        (λ t from lt.
        elim either [
          | inl none ↦ absurd (omega arith)
          | inr at ↦ row_at-stays slots h (Boot m) t later (omega arith)
        ])

-- what is kept once rows are forgotten: still rows of the history, up to the open tick, or none of later ticks
pub record Forgotten (slots : List SlotKey) (h : History) (from : ℕ) (kept : TickCells) : Type 0 where
  pub wide : kept.slots ≡ length slots
  pub reach : kept.first + kept.ticks ≡ max (tick_of (last_moment h)) from
  pub none_later : tick_of (last_moment h) < kept.first + kept.ticks → kept.ticks ≡ 0
  pub rows : kept.cells.items ≡ rows_of slots h kept.first kept.ticks

pub stand-forgotten : (slots : List SlotKey) (h : History) (from : ℕ) (old kept : TickCells)
    → kept.slots ≡ old.slots → kept.first ≡ max old.first from → kept.ticks ≡ old.ticks - (from - old.first)
    → kept.cells.items ≡ drop ((from - old.first) * old.slots) old.cells.items
    → CellsStand slots h old → Forgotten slots h from kept
stand-forgotten slots h from old kept slots_are first_is ticks_are cells_are stand =
    let reach = stand.reach in
    record {
      wide = slots_are ∙ stand.wide;
      reach = omega (arith, reach, first_is, ticks_are);
      none_later = λ later. omega (arith, reach, first_is, ticks_are, later);
      rows =
          cells_are
          ∙ ((λ i. drop ((from - old.first) * stand.wide i) (stand.rows i))
          ∙ (rows-forgotten slots h old.first old.ticks from
          ∙ sym (λ i. rows_of slots h (first_is i) (ticks_are i))));
    }

-- rows without values were added
pub stand-boot : (slots : List SlotKey) (h : History) (m from k : ℕ) (kept new : TickCells)
    → IsHistory h → last_moment h ≤ m → kept.first + kept.ticks + k ≡ tick_of m
    → new.slots ≡ kept.slots → new.first ≡ kept.first → new.ticks ≡ kept.ticks + k
    → new.cells.items ≡ kept.cells.items ++ replicate (k * kept.slots) (cell_of [])
    → Forgotten slots h from kept → CellsStand slots (h ▷ Boot m) new
stand-boot slots h m from k kept new is later reaches slots_are first_is ticks_are cells_are old =
    let reach = old.reach in
    record {
      wide = slots_are ∙ old.wide;
      reach = omega (arith, first_is, ticks_are, reaches);
      rows =
          cells_are
          ∙ ((λ i. kept.cells.items ++ replicate (k * old.wide i) (cell_of []))
          ∙ (rows-boot slots h m kept.first kept.ticks k kept.cells.items is later (omega (arith, reach)) (omega (arith, reaches))
          (elim (cases_lt (tick_of (last_moment h)) (kept.first + kept.ticks)) [
            | inl past ↦ inl (old.none_later past)
            | inr at ↦ inr (omega (arith, reach, at))
          ])
          old.rows
          ∙ sym (λ i. rows_of slots (h ▷ Boot m) (first_is i) (ticks_are i))));
    }

-- the open row was added, or is not needed
pub record Reaches (slots : List SlotKey) (h : History) (from : ℕ) (kept : TickCells) : Type 0 where
  pub wide : kept.slots ≡ length slots
  pub past : tick_of (last_moment h) < kept.first + kept.ticks
  pub no_further : kept.first + kept.ticks ≤ max (tick_of (last_moment h) + 1) from
  pub rows : kept.cells.items ≡ rows_of slots h kept.first kept.ticks

pub reaches-added : (slots : List SlotKey) (h : History) (from : ℕ) (kept next : TickCells) (row : List Cell)
    → from ≤ tick_of (last_moment h) → row ≡ row_at slots h (tick_of (last_moment h))
    → next.slots ≡ kept.slots → next.first ≡ kept.first → next.ticks ≡ kept.ticks + 1
    → next.cells.items ≡ kept.cells.items ++ row
    → Forgotten slots h from kept → Reaches slots h from next
reaches-added slots h from kept next row needed row_is slots_are first_is ticks_are cells_are old =
    let reach = old.reach in
    let at : tick_of (last_moment h) ≡ kept.first + kept.ticks = omega (arith, reach, needed) in
    let more : suc kept.ticks ≡ next.ticks = omega (arith, ticks_are) in
    record {
      wide = slots_are ∙ old.wide;
      past = omega (arith, reach, needed, first_is, ticks_are);
      no_further = omega (arith, reach, needed, first_is, ticks_are);
      rows =
          cells_are
          ∙ ((λ i. old.rows i ++ (row_is ∙ ap (row_at slots h) at) i)
          ∙ (λ i. rows_of slots h (sym first_is i) (more i)));
    }

pub reaches-past : (slots : List SlotKey) (h : History) (from : ℕ) (kept : TickCells) → tick_of (last_moment h) < from
    → Forgotten slots h from kept → Reaches slots h from kept
reaches-past slots h from kept past old =
    let reach = old.reach in
    record {
      wide = old.wide;
      past = omega (arith, reach, past);
      no_further = omega (arith, reach, past);
      rows = old.rows;
    }

pub stand-now : (slots : List SlotKey) (h : History) (m from k : ℕ) (kept new : TickCells)
    → IsHistory h → kept.first + kept.ticks + k ≡ tick_of m
    → new.slots ≡ kept.slots → new.first ≡ kept.first → new.ticks ≡ kept.ticks + k
    → new.cells.items ≡ kept.cells.items ++ replicate (k * kept.slots) (cell_of [])
    → Reaches slots h from kept → CellsStand slots (h ▷ Now m) new
stand-now slots h m from k kept new is reaches slots_are first_is ticks_are cells_are old =
    record {
      wide = slots_are ∙ old.wide;
      reach = omega (arith, first_is, ticks_are, reaches);
      rows =
          cells_are
          ∙ ((λ i. kept.cells.items ++ replicate (k * old.wide i) (cell_of []))
          ∙ (rows-now slots h m kept.first kept.ticks k kept.cells.items is old.past old.rows
          ∙ sym (λ i. rows_of slots (h ▷ Now m) (first_is i) (ticks_are i))));
    }
