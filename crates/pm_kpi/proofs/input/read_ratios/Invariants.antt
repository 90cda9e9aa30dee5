use Rattle.std.proofs.Common.{◌≡◌}
use Rattle.pm_outside.specs.Feed.{left_to, KnowsEnd}
use Rattle.pm_kpi.specs.Ratios.{ratios_of}
use Rattle.pm_kpi.specs.Input.{IsReadSoFar}
use Rattle.pm_kpi.proofs.input.read_ratios.Given as goal

abbrev pub invariant-loop-place : goal.invariant-loop-place
invariant-loop-place g l = record {
  knows_end : g.S.Source.IsTold → KnowsEnd l.feed (g.S.Source.left l.input);
  so_far : g.S.Source.IsTold → IsReadSoFar (g.S.Source.left l.fn.input) (left_to l.feed (g.S.Source.left l.input)) (ratios_of l.ratios) l.place;
  faults : g.S.Source.faults l.input ≡ g.S.Source.faults l.fn.input;
}
