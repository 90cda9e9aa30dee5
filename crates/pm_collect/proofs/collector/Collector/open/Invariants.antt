use Rattle.std.proofs.Common.{◌≡◌, ℕ, List, ◌++◌, map}
use Rattle.pm_disk.specs.Moments.{Throughout}
use Rattle.pm_journal.specs.Items.{HasItems}
use Rattle.pm_journal.specs.Opening.{IsBegun}
use Rattle.pm_collect.specs.declared.collector.TheConstants.{MOST_BYTES}
use Rattle.pm_collect.specs.Stored.{HeldFile, item_of}
use Rattle.pm_collect.specs.Collector.{IsUsable, IsTied, Reads, EachHas}
use Rattle.pm_collect.proofs.collector.Collector.open.Given as goal

abbrev pub invariant-loop-turn : goal.invariant-loop-turn
invariant-loop-turn g l = record {
  usable : IsUsable l.collector;
  tied : g.D.Disk.IsTold → IsTied l.collector (g.D.Disk.told l.disk).now;
  reads : g.D.Disk.IsTold → (files : List HeldFile) × (left : List (List ℕ)) × HasItems (g.D.Disk.told l.fn.disk).now.first.seen (map item_of files ++ left)
      × Reads l.collector (g.D.Disk.told l.disk).now files left;
  begun : g.D.Disk.IsTold → IsBegun MOST_BYTES (g.D.Disk.told l.fn.disk).now.first.seen (g.D.Disk.told l.disk).now.first;
  moments : g.D.Disk.IsTold → (a b : List HeldFile) → EachHas a b (g.D.Disk.told l.fn.disk).now
      → Throughout (EachHas a b) (g.D.Disk.told l.fn.disk) (g.D.Disk.told l.disk);
  faults : g.D.Disk.faults l.disk ≡ g.D.Disk.faults l.fn.disk;
}
