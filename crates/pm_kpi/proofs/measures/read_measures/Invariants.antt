use Rattle.std.proofs.Common.{◌≡◌, ◌++◌, true, length}
use Rattle.std.specs.List.{list_all}
use Rattle.pm_base.specs.Pieces.{pieces_of}
use Rattle.pm_form.specs.Names.{measure_name}
use Rattle.pm_kpi.proofs.measures.read_measures.Given as goal

abbrev pub invariant-loop-place : goal.invariant-loop-place
invariant-loop-place l = record {
  pieces : l.names.items ++ pieces_of 43 l.rest ≡ pieces_of 43 l.text;
  count : length l.names.items ≡ l._place;
  good : list_all measure_name l.names.items ≡ true;
}
