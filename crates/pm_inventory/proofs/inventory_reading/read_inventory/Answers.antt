use Rattle.std.proofs.Common.{◌≡◌, ◌≢◌, ℕ, List, true, Ok, sym, ◌∙◌, ap, subst, arith}
use Rattle.pm_outside.specs.Feed.{left_to, IsNextLine}
use Rattle.pm_outside.specs.declared.line.Line.{Line}
use Rattle.pm_inventory.specs.Inventory.{InventoryState, end_line}
use Rattle.pm_inventory.specs.InventoryLine.{AddsLine, RefusesLine}
use Rattle.pm_inventory.proofs.InventoryReadingLemmas.{read-long, read-next, read-ended, read-stopped}
use Rattle.pm_inventory.proofs.inventory_reading.read_inventory.Goals as goal

pub returns-in-Ok-Long-clause-read : goal.returns-in-Ok-Long-clause-read
returns-in-Ok-Long-clause-read g c = λ told.
    let before = left_to c.lines.feed (g.S.Source.left c.lines.source) in
    let long = subst (λ (l : Line). IsNextLine before l c.line.new.self.line (left_to c.line.new.self (g.S.Source.left c.line.new.source))) c.in-Ok-Long.field-0-is (c.in-Ok-Long.ensures.line told) in
    rw c.refused.ensures (read-long _ before _ c.lines.good (c.lines.invariant.so_far told) long.0 long.1)

pub returns-then-is_end-clause-read : goal.returns-then-is_end-clause-read
returns-then-is_end-clause-read g c = λ told.
    let before = left_to c.lines.feed (g.S.Source.left c.lines.source) in
    let after = left_to c.line.new.self (g.S.Source.left c.line.new.source) in
    let line = c.line.new.self.line in
    let next = subst (λ (l : Line). IsNextLine before l line after) c.in-Ok-Whole.field-0-is (c.in-Ok-Whole.ensures.line told) in
    let end : line ≡ end_line = sym c.bytes.ensures ∙ c.is_end.ensures.0 c.if-is_end.true in
    read-ended _ before after line _ c.lines.good c.finish.result (c.lines.invariant.so_far told) next.0 end c.finish.ensures.ends

pub lines-preserved : goal.lines-preserved
lines-preserved g c =
    let takes = c.line.ensures.takes c.in-Ok-Whole.field-0-0 (c.in-Ok-Whole.is ∙ ap (λ (l : Line). Ok l) c.in-Ok-Whole.field-0-is) in
    record {
      counted = c.in-Ok-Whole.ensures.counted ∙ c.lines.invariant.counted;
      knows_end = c.line.ensures.reads.knows_end;
      given = λ told. c.line.ensures.reads.given told ∙ c.lines.invariant.given told;
      few = omega (arith, c.lines.invariant.few, takes);
      most = omega (arith, c.lines.invariant.few, c.line.ensures.reads.most, takes);
      so_far = λ told.
          let before = left_to c.lines.feed (g.S.Source.left c.lines.source) in
          let after = left_to c.line.new.self (g.S.Source.left c.line.new.source) in
          let line = c.line.new.self.line in
          let next = subst (λ (l : Line). IsNextLine before l line after) c.in-Ok-Whole.field-0-is (c.in-Ok-Whole.ensures.line told) in
          let old : InventoryState = record { objects = c.lines.tree; measures = c.lines.catalogue } in
          let new : InventoryState = record { objects = c.take_line.new.tree; measures = c.take_line.new.catalogue } in
          let adds = subst (λ (l : List ℕ). AddsLine old l new) c.bytes-in-lines.ensures c.in-Ok.ensures.added in
          read-next _ before after line old new c.lines.good (c.lines.invariant.so_far told) next.0 adds;
    }

pub returns-in-Err-clause-read : goal.returns-in-Err-clause-read
returns-in-Err-clause-read g c = λ told.
    let before = left_to c.lines.feed (g.S.Source.left c.lines.source) in
    let after = left_to c.line.new.self (g.S.Source.left c.line.new.source) in
    let line = c.line.new.self.line in
    let next = subst (λ (l : Line). IsNextLine before l line after) c.in-Ok-Whole.field-0-is (c.in-Ok-Whole.ensures.line told) in
    let state : InventoryState = record { objects = c.lines.tree; measures = c.lines.catalogue } in
    let other : line ≢ end_line = λ is. let both : c.is_end.result ≡ true = c.is_end.ensures.1 (c.bytes.ensures ∙ is) in cc in
    let refused = subst (λ (l : List ℕ). RefusesLine state l c.in-Err.stop) c.bytes-in-lines.ensures c.in-Err.ensures.refused in
    rw c.stopped.ensures (read-stopped _ before after line state c.lines.good c.in-Err.stop (c.lines.invariant.so_far told) next.0 other refused)
