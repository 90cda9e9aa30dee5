use Rattle.std.proofs.Common.{sym, subst}
use Rattle.pm_disk.specs.declared.area.Area.{Area}
use Rattle.pm_disk.specs.Moments.{of}
use Rattle.pm_journal.specs.Journal.{IsTied}
use Rattle.pm_journal.proofs.tests.read_all.Goals as goal

pub loop-turn-preserved : goal.loop-turn-preserved
loop-turn-preserved g c = record {
  usable = c.in_ok-item.ensures.usable;
  tied = λ told. subst (λ (a : Area). IsTied c.next.new.self (of (g.D.Disk.told c.next.new.disk).now a)) (sym c.in_ok-item.ensures.place.0) (c.in_ok-item.ensures.tied told);
}
