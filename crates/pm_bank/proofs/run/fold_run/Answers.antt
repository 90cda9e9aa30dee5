use Rattle.pm_meas.specs.declared.cell.Cell.{Cell}
use Rattle.pm_bank.specs.declared.view.Hit.{Hit}
use Rattle.pm_bank.proofs.RunLemmas.{folding_one}
use Rattle.pm_bank.proofs.run.fold_run.Goals as goal

pub loop-i-preserved : goal.loop-i-preserved
loop-i-preserved c =
    let none : Hit = record { slot = 0; value = 0 } in
    let blank : Cell = record { n = 0; sum = 0; max = 0; min = 0 } in
    folding_one c.args.hits.now c.loop-i.i _ c.loop-i.cells none blank c.add.new.self c.loop-i-test.true c.requires.sound c.add.ensures.fields c.loop-i.invariant
