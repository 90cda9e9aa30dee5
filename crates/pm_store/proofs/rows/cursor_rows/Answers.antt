use Rattle.std.proofs.Common.{◌*◌, sym, arith}
use Rattle.pm_store.specs.Format.{byte}
use Rattle.pm_store.specs.Rows.{cursor_row}
use Rattle.pm_store.proofs.RowLemmas.{values_are, listed_read}
use Rattle.pm_store.proofs.rows.cursor_rows.Goals as goal

pub returns : goal.returns
returns c =
    let rows = values_are cursor_row c.in_ok-count.count (c.in_ok-count.count * 8) c.in_ok-count.rest.now c.split_at.result.0.now c.as_chunks.result.0.now
    (omega arith) (omega arith) (omega arith) (grind (
      arith,
      c.split_at.ensures.front,
      c.from-size.ensures,
    )) c.as_chunks.ensures.front in
    sym (listed_read byte cursor_row c.args.bytes.now c.in_ok-count.rest.now c.split_at.result.1.now c.in_ok-count.count _
    (sym c.in_ok-count.ensures) (omega arith) rows (grind (arith, c.split_at.ensures.back, c.from-size.ensures)))
