use Rattle.pm_meas.proofs.FamilyLemmas.{AreOfFamilyBelow}
use Rattle.pm_meas.proofs.catalogue.Catalogue.family.Given as goal

abbrev pub invariant-loop-metric : goal.invariant-loop-metric
invariant-loop-metric l = AreOfFamilyBelow l.self l.family l.metric l.metrics.items
