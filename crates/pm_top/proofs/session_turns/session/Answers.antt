use Rattle.std.proofs.Common.{refl, ◌∙◌, arith}
use Rattle.pm_outside.specs.Feed.{left_to}
use Rattle.pm_engine.specs.Bears.{inventory_of, Carries}
use Rattle.pm_top.specs.Session.{store_of}
use Rattle.pm_top.specs.declared.session_end.SessionEnd.TheVariants.{Limit}
use Rattle.pm_top.proofs.SessionLemmas.{no-turn, turns-on, session-of, quits}
use Rattle.pm_top.proofs.session_turns.session.Goals as goal

pub turns-init : goal.turns-init
turns-init g c = record {
  usable = c.requires.usable;
  same = refl;
  knows_end = c.requires.knows_end;
  ahead = c.requires.ahead;
  most = omega (arith, c.given-start.ensures.value, c.given-start.ensures.most);
  taken = λ t. omega arith;
  reads = refl;
  writes = refl;
  stores = refl;
  has = λ run carries.
      no-turn (inventory_of c.args.engine.now) g.S.Source.IsTold g.K.Sink.IsTold g.P.Courier.IsTold c.args.feed.now.given
      (left_to c.args.feed.now (g.S.Source.left c.args.input.now)) (g.K.Sink.written c.args.output.now)
      (g.P.Courier.posts c.args.courier.now) (g.P.Courier.faults c.args.courier.now)
      (Carries g.D.Disk.IsTold c.args.engine.now (g.D.Disk.told c.args.disk.now)) run carries;
}

pub turns-preserved : goal.turns-preserved
turns-preserved g c = record {
  usable = c.in-None.ensures.usable;
  same = c.take_turn.ensures.inventory ∙ c.turns.invariant.same;
  knows_end = c.take_turn.ensures.reads.knows_end;
  ahead = c.take_turn.ensures.reads.ahead;
  most = c.take_turn.ensures.reads.most;
  taken = λ t. let before = c.turns.invariant.taken t in let more = c.in-None.ensures.takes t in omega (arith, before, more);
  reads = c.in-None.ensures.read ∙ c.turns.invariant.reads;
  writes = c.in-None.ensures.write ∙ c.turns.invariant.writes;
  stores = c.in-None.ensures.store ∙ c.turns.invariant.stores;
  has = λ run carries.
      let has = c.turns.invariant.has run carries in
      turns-on (inventory_of c.args.engine.now) g.S.Source.IsTold g.K.Sink.IsTold g.P.Courier.IsTold c.args.feed.now.given c.turns.feed.given c.take_turn.new.feed.given
      (left_to c.args.feed.now (g.S.Source.left c.args.input.now)) (left_to c.turns.feed (g.S.Source.left c.turns.input))
      (left_to c.take_turn.new.feed (g.S.Source.left c.take_turn.new.input))
      (g.K.Sink.written c.args.output.now) (g.K.Sink.written c.turns.output) (g.K.Sink.written c.take_turn.new.output)
      (g.P.Courier.posts c.args.courier.now) (g.P.Courier.posts c.turns.courier) (g.P.Courier.posts c.take_turn.new.courier)
      (g.P.Courier.faults c.args.courier.now) (g.P.Courier.faults c.turns.courier) (g.P.Courier.faults c.take_turn.new.courier)
      (Carries g.D.Disk.IsTold c.turns.engine (g.D.Disk.told c.turns.disk)) (Carries g.D.Disk.IsTold c.take_turn.new.engine (g.D.Disk.told c.take_turn.new.disk))
      run (inventory_of c.turns.engine) c.turns.invariant.same has (c.in-None.ensures.turn has.now has.carried) (λ t. c.take_turn.ensures.reads.given t);
}

pub returns-clause-session : goal.returns-clause-session
returns-clause-session g c = λ run carries.
    let has = c.turns.invariant.has run carries in
    let left = left_to c.turns.feed (g.S.Source.left c.turns.input) in
    let written = g.K.Sink.written c.turns.output in
    let posts = g.P.Courier.posts c.turns.courier in
    let failed = g.P.Courier.faults c.turns.courier in
    session-of (inventory_of c.args.engine.now) g.S.Source.IsTold g.K.Sink.IsTold g.P.Courier.IsTold c.args.feed.now.given c.args.feed.now.given c.turns.feed.given
    (left_to c.args.feed.now (g.S.Source.left c.args.input.now)) left left (g.K.Sink.written c.args.output.now) written written
    (g.P.Courier.posts c.args.courier.now) posts posts (g.P.Courier.faults c.args.courier.now) failed failed
    (store_of g.D.Disk.IsTold (g.D.Disk.told c.turns.disk)) (Carries g.D.Disk.IsTold c.turns.engine (g.D.Disk.told c.turns.disk)) run Limit
    (inventory_of c.args.engine.now) refl refl has
    (quits g.D.Disk.IsTold g.K.Sink.IsTold g.P.Courier.IsTold (inventory_of c.args.engine.now) c.turns.engine (g.D.Disk.told c.turns.disk) has.now _ written posts failed
    c.turns.invariant.same c.turns.invariant.usable has.carried
    (λ t. let taken = c.turns.invariant.taken t in absurd (omega (arith, taken, c.turns.invariant.most, c.turns-test.false))))
