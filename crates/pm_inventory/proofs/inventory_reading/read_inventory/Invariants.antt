use Rattle.std.proofs.Common.{◌≡◌, ◌+◌, ◌-◌, ◌≤◌, ◌^◌, length}
use Rattle.pm_outside.specs.Feed.{left_to, KnowsEnd}
use Rattle.pm_inventory.specs.InventoryReading.{IsReadSoFar}
use Rattle.pm_inventory.proofs.inventory_reading.read_inventory.Given as goal

abbrev pub invariant-lines : goal.invariant-lines
invariant-lines g l = record {
  counted : g.S.Source.faults l.source ≡ g.S.Source.faults l.initial.source;
  knows_end : g.S.Source.IsTold → KnowsEnd l.feed (g.S.Source.left l.source);
  given : g.S.Source.IsTold → l.feed.given + length (left_to l.feed (g.S.Source.left l.source)) ≡ l.initial.feed.given + length (left_to l.initial.feed (g.S.Source.left l.initial.source));
  few : l.good ≤ l.feed.given;
  most : l.good ≤ 2 ^ 40;
  so_far : g.S.Source.IsTold → IsReadSoFar (left_to l.initial.feed (g.S.Source.left l.initial.source)) (left_to l.feed (g.S.Source.left l.source)) (record { objects = l.tree; measures = l.catalogue }) l.good;
}

abbrev pub decreases-lines : goal.decreases-lines
decreases-lines g l = 2 ^ 40 - l.feed.given
