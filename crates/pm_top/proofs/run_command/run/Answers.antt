use Rattle.std.proofs.Common.{◌≡◌, ◌+◌, inr, length, subst}
use Rattle.pm_outside.specs.Feed.{FeedState, left_to}
use Rattle.pm_inventory.specs.InventoryReading.{IsRead}
use Rattle.pm_top.proofs.run_command.run.Goals as goal

pub returns-in-Ok-read_inventory-clause-run : goal.returns-in-Ok-read_inventory-clause-run
returns-in-Ok-read_inventory-clause-run g c =
    let before = g.S.Source.left c.args.input.now in
    let feed = c.read_inventory.new.feed in
    let left = left_to feed (g.S.Source.left c.read_inventory.new.source) in
    let read = c.in-Ok-read_inventory.read in
    inr (inr (record {
      inventory = read.inventory;
      lines = read.lines;
      given = feed.given;
      left = left;
      read = λ t. subst (λ (f : FeedState). IsRead (left_to f before) left read.inventory read.lines) c.in-Ok.ensures (c.in-Ok-read_inventory.ensures.read t);
      counted = λ t. subst (λ (f : FeedState). feed.given + length left ≡ f.given + length (left_to f before)) c.in-Ok.ensures (c.read_inventory.ensures.reads.given t);
      opened = c.run_over.ensures.opened;
    }))
