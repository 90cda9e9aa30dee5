use Rattle.std.proofs.Common.{◌≡◌, ◌++◌, map, drop}
use Rattle.pm_file.specs.Report.{group_content}
use Rattle.pm_file.specs.Numbers.{group_in_texts}
use Rattle.pm_file.specs.Numbered.{group_of}
use Rattle.pm_file.proofs.in_texts.groups_texts.Given as goal

abbrev pub invariant-loop-group : goal.invariant-loop-group
invariant-loop-group l =
    map group_content l.texts.items ++ map (group_in_texts l.inventory) (map group_of (drop l.group-index l.groups))
    ≡ map (group_in_texts l.inventory) (map group_of l.groups)
