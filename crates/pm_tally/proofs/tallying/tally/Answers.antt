use Rattle.std.proofs.Common.{◌≡◌, ◌+◌, length, Err, sym, ◌∙◌, ap, subst, arith, refl}
use Rattle.pm_outside.specs.Feed.{FeedState, left_to}
use Rattle.pm_inventory.specs.declared.inventory_reading.InventoryError.{InventoryError}
use Rattle.pm_tally.specs.Outcome.{ran, IsOutcome}
use Rattle.pm_tally.specs.declared.tally_end.TallyEnd.{TallyEnd}
use Rattle.pm_tally.proofs.OutcomeLemmas.{outcome-read, outcome-unread, outcome-none}
use Rattle.pm_tally.proofs.tallying.tally.Goals as goal

pub returns-in-Ok-read_inventory-clause-outcome : goal.returns-in-Ok-read_inventory-clause-outcome
returns-in-Ok-read_inventory-clause-outcome g c = λ told.
    let input = g.S.Source.left c.args.input.now in
    let rest = left_to c.read_inventory.new.feed (g.S.Source.left c.read_inventory.new.source) in
    let start : left_to c.in-Ok.feed input ≡ input = ap (λ (f : FeedState). left_to f input) c.in-Ok.ensures in
    let none : c.in-Ok.feed.given ≡ 0 = ap (λ (f : FeedState). f.given) c.in-Ok.ensures in
    let counted : c.read_inventory.new.feed.given + length rest ≡ length input = omega (arith, c.read_inventory.ensures.reads.given told, none, ap length start) in
    outcome-read input (left_to c.in-Ok.feed input) rest (g.S.Source.left c.tally_inventory.new.input) c.in-Ok-read_inventory.read.inventory c.in-Ok-read_inventory.read.lines c.read_inventory.new.feed.given g.K.Sink.IsTold (g.K.Sink.written c.args.output.now) (g.K.Sink.written c.tally_inventory.new.output) c.tally_inventory.result start (c.in-Ok-read_inventory.ensures.read told) counted (c.tally_inventory.ensures.tallied told)

pub returns-clause-outcome : goal.returns-clause-outcome
returns-clause-outcome g c = λ told.
    let input = g.S.Source.left c.args.input.now in
    let after = left_to c.read_inventory.new.feed (g.S.Source.left c.read_inventory.new.source) in
    let start : left_to c.in-Ok.feed input ≡ input = ap (λ (f : FeedState). left_to f input) c.in-Ok.ensures in
    let none : c.in-Ok.feed.given ≡ 0 = ap (λ (f : FeedState). f.given) c.in-Ok.ensures in
    let counted : c.read_inventory.new.feed.given + length after ≡ length input = omega (arith, c.read_inventory.ensures.reads.given told, none, ap length start) in
    let old = g.K.Sink.written c.args.output.now in
    subst (λ (e : TallyEnd). IsOutcome (ran 0 input (g.S.Source.left c.read_inventory.new.source) g.K.Sink.IsTold old old) e) (sym c.inventory_end.ensures)
    (outcome-unread c.in-Err.error input (left_to c.in-Ok.feed input) after c.read_inventory.new.feed.buffered (g.S.Source.left c.read_inventory.new.source) c.read_inventory.new.feed.given g.K.Sink.IsTold old start (c.in-Err.ensures.read told) refl c.read_inventory.ensures.reads.ahead
    (λ is. c.read_inventory.ensures.open_line (c.in-Err.is ∙ ap (λ (e : InventoryError). Err e) is)) counted
    (λ is. c.read_inventory.ensures.limit told (c.in-Err.is ∙ ap (λ (e : InventoryError). Err e) is)))

pub returns-in_default-clause-outcome : goal.returns-in_default-clause-outcome
returns-in_default-clause-outcome g c = λ told.
    outcome-none (g.S.Source.left c.args.input.now) g.K.Sink.IsTold (g.K.Sink.written c.args.output.now)
