use Rattle.pm_disk.specs.Moments.{of}
use Rattle.pm_journal.specs.Journal.{area_of, IsUsable, IsTied}
use Rattle.pm_journal.proofs.tests.read_all.Given as goal

abbrev pub invariant-loop-turn : goal.invariant-loop-turn
invariant-loop-turn g l = record {
  usable : IsUsable l.journal;
  tied : g.D.Disk.IsTold → IsTied l.journal (of (g.D.Disk.told l.disk).now (area_of l.journal));
}
