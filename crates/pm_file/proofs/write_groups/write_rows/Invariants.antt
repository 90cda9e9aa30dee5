use Rattle.std.proofs.Common.{◌≡◌, ◌++◌, ◌∷◌, drop, map}
use Rattle.json.specs.Token.{begin_array}
use Rattle.pm_form.proofs.WriteLemmas.{rest_tokens}
use Rattle.pm_file.specs.Report.{row_content}
use Rattle.pm_file.specs.ReportForm.{row_form}
use Rattle.pm_file.proofs.write_groups.write_rows.Given as goal

abbrev pub invariant-loop-row : goal.invariant-loop-row
invariant-loop-row l =
    (l.fn.out.tokens ++ begin_array ∷ rest_tokens row_form.tree (map row_content l.rows) ≡ l.out.tokens ++ rest_tokens row_form.tree (map row_content (drop l.row-index l.rows)))
    × (l.out.before ≡ l.fn.out.before)
