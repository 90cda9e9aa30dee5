use Rattle.std.proofs.Common.{◌≡◌, map, drop}
use Rattle.std.specs.List.{list_all}
use Rattle.pm_file.specs.Reading.{read_part_content}
use Rattle.pm_file.specs.Agreement.{part_agrees}
use Rattle.pm_file.proofs.agreement.parts_agree.Given as goal

abbrev pub invariant-loop-part : goal.invariant-loop-part
invariant-loop-part l = list_all (part_agrees l.seconds) (map read_part_content l.parts) ≡ list_all (part_agrees l.seconds) (map read_part_content (drop l.part-index l.parts))
