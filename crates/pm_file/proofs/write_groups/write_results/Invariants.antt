use Rattle.std.proofs.Common.{◌≡◌, ◌++◌, ◌∷◌, drop}
use Rattle.json.specs.Token.{begin_array}
use Rattle.pm_form.proofs.WriteLemmas.{rest_tokens}
use Rattle.pm_form.specs.Values.{or_null_tree}
use Rattle.pm_file.proofs.write_groups.write_results.Given as goal

abbrev pub invariant-loop-value : goal.invariant-loop-value
invariant-loop-value l =
    (l.fn.out.tokens ++ begin_array ∷ rest_tokens or_null_tree l.results ≡ l.out.tokens ++ rest_tokens or_null_tree (drop l.value-index l.results))
    × (l.out.before ≡ l.fn.out.before)
