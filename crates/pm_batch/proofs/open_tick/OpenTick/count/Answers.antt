use Rattle.std.proofs.Common.{get_or, arith, ◌∙◌}
use Rattle.std.proofs.lemmas.List.{get_or_default}
use Rattle.pm_events.specs.declared.hit.Hit.{Hit}
use Rattle.pm_batch.proofs.TickLemmas.{stands-next, room-next}
use Rattle.pm_batch.proofs.open_tick.OpenTick.count.Goals as goal

pub loop-hit-preserved : goal.loop-hit-preserved
loop-hit-preserved c =
    let hits = c.args.hits.now in
    let i = c.loop-hit.hit-index in
    let d : Hit = record { slot = 0; value = 0 } in
    let hit = get_or hits i d in
    let at = get_or_default hits i hit d c.loop-hit-test.true in
    let own = c.requires.slots i d c.loop-hit-test.true in
    record {
      wide = c.add.ensures.width ∙ c.loop-hit.invariant.wide;
      room = room-next hits i hit c.loop-hit.self c.add.new.self c.loop-hit-test.true at c.loop-hit.invariant.room c.add.ensures.counted;
      stands = λ inventory h moment stands. stands-next inventory h moment hits i hit c.loop-hit.self c.add.new.self c.loop-hit-test.true at (c.loop-hit.invariant.stands inventory h moment stands) (omega (arith, own.0, c.loop-hit.invariant.wide)) own.1 c.add.ensures.counted;
    }
