use Rattle.std.proofs.Common.{◌∙◌, arith}
use Rattle.pm_kpi.proofs.SumLemmas.{one_more_room}
use Rattle.pm_kpi.proofs.sums.make_room.Goals as goal

pub loop-share-preserved : goal.loop-share-preserved
loop-share-preserved c = record {
  same = λ q. c.in_ok-put_key.ensures.same q ∙ c.loop-share.invariant.same q;
  room =
      one_more_room c.args.shares.now c.loop-share.share-index c.loop-share.sums c.put_key.new.sums c.share-item.result c.loop-share-test.true c.share-item.is
      c.loop-share.invariant.room c.in_ok-put_key.ensures.stays c.in_ok-put_key.ensures.put;
}

pub returns-clause-room : goal.returns-clause-room
returns-clause-room c = λ k d within. c.loop-share.invariant.room k d (omega (arith, within, c.loop-share-test.false))
