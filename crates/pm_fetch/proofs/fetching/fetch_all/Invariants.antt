use Rattle.std.proofs.Common.{◌≡◌}
use Rattle.pm_collect.specs.Collector.{IsReady, IsTied}
use Rattle.pm_fetch.proofs.fetching.fetch_all.Given as goal

abbrev pub invariant-loop-place : goal.invariant-loop-place
invariant-loop-place g l = record {
  ready : IsReady l.collector;
  tied : g.D.Disk.IsTold → IsTied l.collector (g.D.Disk.told l.disk).now;
  disk_faults : g.D.Disk.faults l.disk ≡ g.D.Disk.faults l.fn.disk;
  link_faults : g.L.Link.faults l.link ≡ g.L.Link.faults l.fn.link;
}
