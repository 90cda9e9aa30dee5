use Rattle.std.proofs.Common.{◌≡◌, map, drop}
use Rattle.std.specs.List.{list_all}
use Rattle.pm_file.specs.Report.{group_content}
use Rattle.pm_file.specs.Agreement.{group_agrees}
use Rattle.pm_file.proofs.agreement.groups_agree.Given as goal

abbrev pub invariant-loop-group : goal.invariant-loop-group
invariant-loop-group l = list_all group_agrees (map group_content l.groups) ≡ list_all group_agrees (map group_content (drop l.group-index l.groups))
