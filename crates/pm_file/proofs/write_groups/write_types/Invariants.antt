use Rattle.std.proofs.Common.{◌≡◌, ◌++◌, ◌∷◌, drop}
use Rattle.json.specs.Token.{begin_array}
use Rattle.pm_form.proofs.WriteLemmas.{rest_tokens}
use Rattle.pm_file.specs.ReportForm.{type_form}
use Rattle.pm_file.proofs.write_groups.write_types.Given as goal

abbrev pub invariant-loop-name : goal.invariant-loop-name
invariant-loop-name l =
    (l.fn.out.tokens ++ begin_array ∷ rest_tokens type_form.tree l.types ≡ l.out.tokens ++ rest_tokens type_form.tree (drop l.name-index l.types))
    × (l.out.before ≡ l.fn.out.before)
