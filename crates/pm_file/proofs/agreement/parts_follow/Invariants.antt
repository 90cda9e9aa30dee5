use Rattle.std.proofs.Common.{◌≡◌, map, drop}
use Rattle.pm_file.specs.Reading.{read_part_content}
use Rattle.pm_file.specs.Agreement.{parts_follow}
use Rattle.pm_file.proofs.agreement.parts_follow.Given as goal

abbrev pub invariant-loop-part : goal.invariant-loop-part
invariant-loop-part l =
    parts_follow l.begin l.end (map read_part_content l.parts)
    ≡ parts_follow l.moment l.end (map read_part_content (drop l.part-index l.parts))
