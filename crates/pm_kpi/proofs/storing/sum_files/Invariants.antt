use Rattle.std.proofs.Common.{◌≡◌, List, []}
use Rattle.pm_collect.specs.Stored.{HeldFile}
use Rattle.pm_collect.specs.Collector.{Holds}
use Rattle.pm_collect.specs.Places.{rows_of}
use Rattle.pm_kpi.specs.Asked.{asked_content}
use Rattle.pm_kpi.specs.Sums.{StandsFor}
use Rattle.pm_kpi.specs.Steps.{SumsFirst}
use Rattle.pm_kpi.proofs.storing.sum_files.Given as goal

abbrev pub invariant-loop-place : goal.invariant-loop-place
invariant-loop-place g l = record {
  told : g.D.Disk.IsTold → g.D.Disk.told l.disk ≡ g.D.Disk.told l.fn.disk;
  faults : g.D.Disk.faults l.disk ≡ g.D.Disk.faults l.fn.disk;
  summed : g.D.Disk.IsTold → (files : List HeldFile) → Holds l.collector (g.D.Disk.told l.fn.disk).now files → StandsFor (asked_content l.asked) [] l.fn.sums
      → SumsFirst (asked_content l.asked) files (rows_of l.collector.names) l.place l.sums;
}
