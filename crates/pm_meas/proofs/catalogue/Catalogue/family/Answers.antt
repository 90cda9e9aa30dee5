use Rattle.std.proofs.Common.{◌≤◌, length, arith}
use Rattle.pm_meas.proofs.FamilyLemmas.{AreOfFamilyBelow-takes, AreOfFamilyBelow-keeps, AreOfFamilyBelow-all, IsOfFamily-decides}
use Rattle.pm_meas.proofs.catalogue.Catalogue.family.Goals as goal
use Rattle.pm_meas.proofs.catalogue.Catalogue.family.Goals.{then-is_same+in_ok-push, else-is_same}

pub loop-metric-preserved : goal.loop-metric-preserved
loop-metric-preserved c =
    let decides = IsOfFamily-decides c.args.self.now c.args.family.now c.loop-metric.metric _ _ _ c.is_same.result c.def.ensures c.as_bytes-name.ensures.value c.family_of.ensures c.is_same.ensures in
    elim c.if-is_same.branch [
      | then-is_same+in_ok-push w ↦ rw (w.metrics-is, w.in_ok-push.ensures.items) (AreOfFamilyBelow-takes _ _ _ _ c.loop-metric.invariant (decides.0 w.if-is_same.true))
      | else-is_same w ↦ rw w.metrics-is (AreOfFamilyBelow-keeps _ _ _ _ c.loop-metric.invariant (decides.1 w.if-is_same.false))
    ]

pub returns : goal.returns
returns c =
    let whole : length c.args.self.now ≤ c.loop-metric.metric = omega (arith, c.len-metric-end.ensures.value) in
    AreOfFamilyBelow-all _ _ _ c.loop-metric.metric whole c.loop-metric.invariant
