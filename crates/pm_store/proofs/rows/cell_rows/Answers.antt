use Rattle.std.proofs.Common.{◌≡◌, ◌≤◌, ◌*◌, ℕ, Bool, true, false, List, length, map, drop, Option, Some, None, cond, sym, ◌∙◌, ap, arith}
use Rattle.pm_store.specs.Format.{number16}
use Rattle.pm_store.specs.Rows.{cell_row, cell_in, listed, are_rising, values}
use Rattle.pm_store.specs.Item.{cells_listed}
use Rattle.pm_store.proofs.RowLemmas.{values_are, listed_read, tested_read}
use Rattle.pm_store.proofs.rows.cell_rows.Goals as goal

read : (bs rest front after : List ℕ) (count size : ℕ) (rows : List (List ℕ)) (rise : Bool) → number16.read bs ≡ Some (
  count,
  rest,
)
    → size ≡ count * 22 → size ≤ length rest → front ≡ Rattle.std.proofs.Common.take size rest → after ≡ drop size rest
    → map cell_in rows ≡ values cell_row count rest → rise ≡ are_rising (map cell_in rows)
    → cells_listed.read bs ≡ cond rise (Some (map cell_in rows, after)) None
read bs rest front after count size rows rise n e le f a v r =
    let long : count * 22 ≤ length rest = omega arith in
    let rest_is : after ≡ drop (count * 22) rest = a ∙ ap (λ k. drop k rest) e in
    tested_read are_rising (listed number16 cell_row) bs after (map cell_in rows) rise
    (listed_read number16 cell_row bs rest after count (map cell_in rows) n long v rest_is) r

pub returns-then-are_rising : goal.returns-then-are_rising
returns-then-are_rising c =
    let size : ℕ = c.from-size.result * 22 in
    let e : c.from-size.result * 22 ≡ c.in_ok-count.count * 22 = omega arith in
    let rows = values_are cell_row c.in_ok-count.count size c.in_ok-count.rest.now c.split_at.result.0.now c.as_chunks.result.0.now
    (omega arith) e (omega arith) c.split_at.ensures.front c.as_chunks.ensures.front in
    sym (read c.args.bytes.now c.in_ok-count.rest.now c.split_at.result.0.now c.split_at.result.1.now c.in_ok-count.count size
    c.as_chunks.result.0.now true (sym c.in_ok-count.ensures) e (omega arith) c.split_at.ensures.front c.split_at.ensures.back rows
    (sym c.if-are_rising.true ∙ c.are_rising.ensures))

pub returns-else-are_rising : goal.returns-else-are_rising
returns-else-are_rising c =
    let size : ℕ = c.from-size.result * 22 in
    let e : c.from-size.result * 22 ≡ c.in_ok-count.count * 22 = omega arith in
    let rows = values_are cell_row c.in_ok-count.count size c.in_ok-count.rest.now c.split_at.result.0.now c.as_chunks.result.0.now
    (omega arith) e (omega arith) c.split_at.ensures.front c.as_chunks.ensures.front in
    sym (read c.args.bytes.now c.in_ok-count.rest.now c.split_at.result.0.now c.split_at.result.1.now c.in_ok-count.count size
    c.as_chunks.result.0.now false (sym c.in_ok-count.ensures) e (omega arith) c.split_at.ensures.front c.split_at.ensures.back rows
    (sym c.if-are_rising.false ∙ c.are_rising.ensures))
