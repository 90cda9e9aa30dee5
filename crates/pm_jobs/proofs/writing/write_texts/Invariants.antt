use Rattle.std.proofs.Common.{◌≡◌, ◌++◌, ◌∷◌, drop, map, string_bytes}
use Rattle.json.specs.Token.{begin_array}
use Rattle.serde_json.specs.Data.{string}
use Rattle.pm_form.proofs.WriteLemmas.{rest_tokens}
use Rattle.pm_jobs.proofs.writing.write_texts.Given as goal

abbrev pub invariant-loop-text : goal.invariant-loop-text
invariant-loop-text l =
    (l.fn.out.tokens ++ begin_array ∷ rest_tokens string (map string_bytes l.texts)
    ≡ l.out.tokens ++ rest_tokens string (map string_bytes (drop l.text-index l.texts)))
    × (l.out.before ≡ l.fn.out.before)
