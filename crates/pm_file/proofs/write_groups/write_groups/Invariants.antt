use Rattle.std.proofs.Common.{◌≡◌, ◌++◌, ◌∷◌, drop, map}
use Rattle.json.specs.Token.{begin_array}
use Rattle.pm_form.proofs.WriteLemmas.{rest_tokens}
use Rattle.pm_file.specs.Report.{group_content}
use Rattle.pm_file.specs.ReportForm.{group_form}
use Rattle.pm_file.proofs.write_groups.write_groups.Given as goal

abbrev pub invariant-loop-group : goal.invariant-loop-group
invariant-loop-group l =
    (l.fn.out.tokens ++ begin_array ∷ rest_tokens group_form.tree (map group_content l.groups) ≡ l.out.tokens ++ rest_tokens group_form.tree (map group_content (drop l.group-index l.groups)))
    × (l.out.before ≡ l.fn.out.before)
