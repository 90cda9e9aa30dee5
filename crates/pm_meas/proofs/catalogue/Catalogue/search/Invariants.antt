use Rattle.std.proofs.Common.{◌≡◌, ℕ, ◌<◌, Some, slice_get}
use Rattle.pm_meas.specs.Catalogue.{names_of}
use Rattle.pm_meas.proofs.catalogue.Catalogue.search.Given as goal

abbrev pub invariant-loop-metric : goal.invariant-loop-metric
invariant-loop-metric l = (k : ℕ) → k < l.metric → slice_get (names_of l.self) k ≡ Some l.name → ⊥
