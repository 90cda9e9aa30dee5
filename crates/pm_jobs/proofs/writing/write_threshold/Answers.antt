use Rattle.std.proofs.Common.{rules, ◌∷◌, [], codes, decimal, map, string_bytes}
use Rattle.json.specs.Token.{begin_object, end_object, key, number, string}
use Rattle.json.specs.Tree.{json_tokens}
use Rattle.serde_json.specs.Data.{array}
use Rattle.serde_json.specs.Written.{outline}
use Rattle.pm_form.proofs.WriteLemmas.{more, on_ok}
use Rattle.pm_asked.specs.Body.{directions_text, text_items}
use Rattle.pm_jobs.specs.Content.{directions_content}
use Rattle.pm_jobs.proofs.writing.write_threshold.Goals as goal

pub returns : goal.returns
returns c =
    let old = c.args.out.now.tokens in
    let threshold = c.args.threshold.now in
    let first = c.write_texts.new.out.tokens in
    let s01 = more old (begin_object ∷ []) (key (codes "hysteresis") ∷ []) c.in_ok-begin_object.ensures.ok c.in_ok-key.ensures.ok in
    let s02 = more old _ (number (decimal threshold.hysteresis) ∷ []) s01 c.in_ok-u64.ensures.ok in
    let s03 = more old _ (key (codes "performanceMetrics") ∷ []) s02 c.in_ok-key-2.ensures.ok in
    let s04 = more old _ (json_tokens (outline (array (text_items (map string_bytes threshold.metrics.items))))) s03
    (rw c.deref.ensures.value at c.in_ok-write_texts.ensures.ok) in
    let s11 = more first (key (codes "thresholdDirection") ∷ []) (string (directions_text (directions_content threshold.directions)) ∷ [])
    c.in_ok-key-3.ensures.ok (rw c.directions_word.ensures at c.in_ok-string.ensures.ok) in
    let s12 = more first _ (key (codes "thresholdValue") ∷ []) s11 c.in_ok-key-4.ensures.ok in
    let s13 = more first _ (number (decimal threshold.value) ∷ []) s12 c.in_ok-u64-2.ensures.ok in
    record {
      ok = on_ok c.end_object.result (λ last. more old _ _ s04 (more first _ (end_object ∷ []) s13 last)) c.end_object.ensures.ok;
      before = search rules;
    }
