use Rattle.std.proofs.Common.{rules, ◌∷◌, [], codes, decimal, map, string_bytes}
use Rattle.json.specs.Token.{begin_object, end_object, key, number, string}
use Rattle.json.specs.Tree.{json_tokens}
use Rattle.serde_json.specs.Data.{array}
use Rattle.serde_json.specs.Written.{outline}
use Rattle.pm_form.proofs.WriteLemmas.{more, on_ok}
use Rattle.pm_asked.specs.Body.{state_text, text_items}
use Rattle.pm_jobs.specs.Content.{is_unlocked}
use Rattle.pm_jobs.proofs.ShownLemmas.{id_is_text}
use Rattle.pm_jobs.proofs.shown.write_job_shown.Goals as goal

pub text_token-requires : goal.text_token-requires
text_token-requires c = id_is_text c.args.id.now c.requires

pub returns : goal.returns
returns c =
    let old = c.args.out.now.tokens in
    let body = c.args.body.now in
    let first = c.write_texts.new.out.tokens in
    let second = c.write_texts-2.new.out.tokens in
    let s01 = more old (begin_object ∷ []) (key (codes "administrativeState") ∷ []) c.in_ok-begin_object.ensures.ok c.in_ok-key.ensures.ok in
    let s02 = more old _ (string (state_text (is_unlocked body.state)) ∷ []) s01 (rw c.state_word.ensures at c.in_ok-string.ensures.ok) in
    let s03 = more old _ (key (codes "granularityPeriod") ∷ []) s02 c.in_ok-key-2.ensures.ok in
    let s04 = more old _ (number (decimal body.granularity) ∷ []) s03 (rw c.from.ensures at c.in_ok-u64.ensures.ok) in
    let s05 = more old _ (key (codes "jobId") ∷ []) s04 c.in_ok-key-3.ensures.ok in
    let s06 = more old _ (string c.args.id.now ∷ []) s05 c.in_ok-text_token.ensures.ok in
    let s07 = more old _ (key (codes "objectInstances") ∷ []) s06 c.in_ok-key-4.ensures.ok in
    let s08 = more old _ (json_tokens (outline (array (text_items (map string_bytes body.objects.items))))) s07
    (rw c.deref.ensures.value at c.in_ok-write_texts.ensures.ok) in
    let s11 = more first (key (codes "operationalState") ∷ []) (string (codes "ENABLED") ∷ []) c.in_ok-key-5.ensures.ok c.in_ok-string-2.ensures.ok in
    let s12 = more first _ (key (codes "performanceMetrics") ∷ []) s11 c.in_ok-key-6.ensures.ok in
    let s13 = more first _ (json_tokens (outline (array (text_items (map string_bytes body.metrics.items))))) s12
    (rw c.deref-2.ensures.value at c.in_ok-write_texts-2.ensures.ok) in
    let s21 = more second (key (codes "reportingPeriod") ∷ []) (number (decimal body.reporting) ∷ []) c.in_ok-key-7.ensures.ok
    (rw c.from-2.ensures at c.in_ok-u64-2.ensures.ok) in
    let s22 = more second _ (key (codes "rootObjectInstances") ∷ []) s21 c.in_ok-key-8.ensures.ok in
    let s23 = more second _ (json_tokens (outline (array (text_items (map string_bytes body.roots.items))))) s22
    (rw c.deref-3.ensures.value at c.in_ok-write_texts-3.ensures.ok) in
    record {
      ok = on_ok c.end_object.result (λ last. more old _ _ s08 (more first _ _ s13 (more second _ (end_object ∷ []) s23 last))) c.end_object.ensures.ok;
      before = search rules;
    }
