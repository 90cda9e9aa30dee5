use Rattle.std.proofs.Common.{◌≡◌, ◌+◌, ◌≤◌, length}
use Rattle.pm_outside.specs.Feed.{left_to, KnowsEnd, MOST_AHEAD}
use Rattle.pm_outside.specs.declared.feed.TheConstants.{MOST_READ}
use Rattle.pm_engine.specs.Bears.{inventory_of, Run, Carries, IsUsable}
use Rattle.pm_top.specs.Session.{input_of, output_of, mail_of}
use Rattle.pm_top.specs.SessionSteps.{HasTurned}
use Rattle.pm_top.proofs.session_turns.session.Given as goal

abbrev pub invariant-turns : goal.invariant-turns
invariant-turns g l = record {
  usable : IsUsable g.D.Disk.IsTold l.engine (g.D.Disk.told l.disk);
  same : inventory_of l.engine ≡ inventory_of l.initial.engine;
  knows_end : g.S.Source.IsTold → KnowsEnd l.feed (g.S.Source.left l.input);
  ahead : length l.feed.buffered ≤ MOST_AHEAD;
  most : l.feed.given ≤ MOST_READ;
  taken : g.S.Source.IsTold → l._turn + l.initial.feed.given ≤ l.feed.given;
  reads : g.S.Source.faults l.input ≡ g.S.Source.faults l.initial.input;
  writes : g.K.Sink.faults l.output ≡ g.K.Sink.faults l.initial.output;
  stores : g.D.Disk.faults l.disk ≡ g.D.Disk.faults l.initial.disk;
  has : (run : Run) → Carries g.D.Disk.IsTold l.initial.engine (g.D.Disk.told l.initial.disk) run
      → HasTurned (inventory_of l.initial.engine)
      (input_of g.S.Source.IsTold l.initial.feed.given (left_to l.initial.feed (g.S.Source.left l.initial.input)) (left_to l.feed (g.S.Source.left l.input)))
      (output_of g.K.Sink.IsTold (g.K.Sink.written l.initial.output) (g.K.Sink.written l.output))
      (mail_of g.P.Courier.IsTold (g.P.Courier.posts l.initial.courier) (g.P.Courier.posts l.courier) (g.P.Courier.faults l.initial.courier)
      (g.P.Courier.faults l.courier))
      (Carries g.D.Disk.IsTold l.engine (g.D.Disk.told l.disk)) run l.feed.given;
}
