use Rattle.std.proofs.Common.{◌≡◌, ◌++◌, ◌∷◌, drop, map}
use Rattle.json.specs.Token.{begin_array}
use Rattle.pm_form.proofs.WriteLemmas.{rest_tokens}
use Rattle.pm_file.specs.Report.{part_content}
use Rattle.pm_file.specs.ReportForm.{part_form}
use Rattle.pm_file.proofs.write.write_parts.Given as goal

abbrev pub invariant-loop-part : goal.invariant-loop-part
invariant-loop-part l =
    (l.fn.out.tokens ++ begin_array ∷ rest_tokens part_form.tree (map part_content l.parts) ≡ l.out.tokens ++ rest_tokens part_form.tree (map part_content (drop l.part-index l.parts)))
    × (l.out.before ≡ l.fn.out.before)
