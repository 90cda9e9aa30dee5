use Rattle.std.proofs.Common.{◌≡◌, ◌≤◌, ◌++◌, map, length, drop}
use Rattle.pm_file.specs.Numbered.{group_of}
use Rattle.pm_close.specs.Files.{groups_with}
use Rattle.pm_close.specs.Parts.{quantities_of}
use Rattle.pm_ready.specs.Measured.{measured_of}
use Rattle.pm_ready.proofs.numbered.groups.Given as goal

abbrev pub invariant-loop-class : goal.invariant-loop-class
invariant-loop-class l = record {
  done : map group_of l.groups.items ++ groups_with (map measured_of (drop l.class-index l.measured)) l.suspect l.left
      ≡ groups_with (map measured_of l.measured) l.suspect l.values;
  room : length (quantities_of (map measured_of (drop l.class-index l.measured))) ≤ length l.left;
}
