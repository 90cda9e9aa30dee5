use Rattle.std.proofs.Common.{◌≡◌, List}
use Rattle.pm_disk.specs.Moments.{DiskState}
use Rattle.pm_outside.specs.Feed.{KnowsEnd}
use Rattle.pm_collect.specs.Stored.{HeldFile}
use Rattle.pm_collect.specs.Collector.{Holds}
use Rattle.pm_fetch.proofs.notices.read_notices.Given as goal

abbrev pub invariant-loop-line : goal.invariant-loop-line
invariant-loop-line g l = record {
  knows_end : g.S.Source.IsTold → KnowsEnd l.feed (g.S.Source.left l.input);
  stands : (disk : DiskState) (files : List HeldFile) → Holds l.fn.collector disk files → Holds l.collector disk files;
  store : l.collector.journal ≡ l.fn.collector.journal;
  faults : g.S.Source.faults l.input ≡ g.S.Source.faults l.fn.input;
}
