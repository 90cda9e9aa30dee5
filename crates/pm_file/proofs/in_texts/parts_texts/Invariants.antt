use Rattle.std.proofs.Common.{◌≡◌, ◌++◌, map, drop}
use Rattle.pm_file.specs.Report.{part_content}
use Rattle.pm_file.specs.Numbers.{part_in_texts}
use Rattle.pm_file.specs.Numbered.{part_of}
use Rattle.pm_file.proofs.in_texts.parts_texts.Given as goal

abbrev pub invariant-loop-part : goal.invariant-loop-part
invariant-loop-part l =
    map part_content l.texts.items ++ map (part_in_texts l.inventory) (map part_of (drop l.part-index l.parts))
    ≡ map (part_in_texts l.inventory) (map part_of l.parts)
