use Rattle.std.proofs.Common.{◌≡◌, ◌≤◌, ◌++◌, map, length, drop}
use Rattle.std.specs.List.{flat_map}
use Rattle.pm_file.specs.Numbered.{row_of}
use Rattle.pm_close.specs.Files.{rows_with}
use Rattle.pm_close.specs.Parts.{quantities_on}
use Rattle.pm_ready.proofs.numbered.rows.Given as goal

abbrev pub invariant-loop-object : goal.invariant-loop-object
invariant-loop-object l = record {
  done : map row_of l.rows.items ++ rows_with l.measured.metrics.items l.suspect (drop l.object-index l.measured.objects.items) l.left
      ≡ rows_with l.measured.metrics.items l.suspect l.measured.objects.items l.values;
  room : length (flat_map (quantities_on l.measured.metrics.items) (drop l.object-index l.measured.objects.items)) ≤ length l.left;
}
