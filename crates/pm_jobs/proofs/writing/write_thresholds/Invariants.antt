use Rattle.std.proofs.Common.{◌≡◌, ◌++◌, ◌∷◌, drop, map}
use Rattle.json.specs.Token.{begin_array}
use Rattle.pm_form.proofs.WriteLemmas.{rest_tokens}
use Rattle.pm_asked.specs.Body.{threshold_tree}
use Rattle.pm_jobs.specs.Content.{threshold_content}
use Rattle.pm_jobs.proofs.writing.write_thresholds.Given as goal

abbrev pub invariant-loop-threshold : goal.invariant-loop-threshold
invariant-loop-threshold l =
    (l.fn.out.tokens ++ begin_array ∷ rest_tokens threshold_tree (map threshold_content l.thresholds)
    ≡ l.out.tokens ++ rest_tokens threshold_tree (map threshold_content (drop l.threshold-index l.thresholds)))
    × (l.out.before ≡ l.fn.out.before)
