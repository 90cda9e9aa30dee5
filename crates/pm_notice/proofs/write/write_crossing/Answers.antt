use Rattle.std.proofs.Common.{rules, ◌∷◌, [], codes, decimal}
use Rattle.json.specs.Token.{begin_object, end_object, key, number, string}
use Rattle.pm_form.proofs.WriteLemmas.{more, on_ok}
use Rattle.pm_file.proofs.Utf8Lemmas.{job_id-utf8, measure_name-utf8, object_name-utf8}
use Rattle.pm_notice.specs.NoticeForm.{crossing_form, direction_text}
use Rattle.pm_notice.proofs.write.write_crossing.Goals as goal

pub text_token-requires : goal.text_token-requires
text_token-requires c = rw c.as_bytes.ensures.value (job_id-utf8 c.args.crossing.now.monitor c.requires.monitor)

pub text_token-requires-2 : goal.text_token-requires-2
text_token-requires-2 c = rw c.as_bytes-2.ensures.value (object_name-utf8 c.args.crossing.now.object c.requires.object)

pub text_token-requires-3 : goal.text_token-requires-3
text_token-requires-3 c = rw c.as_bytes-3.ensures.value (measure_name-utf8 c.args.crossing.now.metric c.requires.metric)

pub returns : goal.returns
unfolding crossing_form
returns c =
    let old = c.args.out.now.tokens in
    let x = c.args.crossing.now in
    let s01 = more old (begin_object ∷ []) (key (codes "eventTime") ∷ []) c.in_ok-begin_object.ensures.ok c.in_ok-key.ensures.ok in
    let s02 = more old _ (number (decimal x.end) ∷ []) s01 c.in_ok-u64.ensures.ok in
    let s03 = more old _ (key (codes "hysteresis") ∷ []) s02 c.in_ok-key-2.ensures.ok in
    let s04 = more old _ (number (decimal x.hysteresis) ∷ []) s03 c.in_ok-u64-2.ensures.ok in
    let s05 = more old _ (key (codes "monitorId") ∷ []) s04 c.in_ok-key-3.ensures.ok in
    let s06 = more old _ (string x.monitor ∷ []) s05 (rw c.as_bytes.ensures.value at c.in_ok-text_token.ensures.ok) in
    let s07 = more old _ (key (codes "notificationId") ∷ []) s06 c.in_ok-key-4.ensures.ok in
    let s08 = more old _ (number (decimal c.args.number) ∷ []) s07 c.in_ok-u64-3.ensures.ok in
    let s09 = more old _ (key (codes "notificationType") ∷ []) s08 c.in_ok-key-5.ensures.ok in
    let s10 = more old _ (string (codes "notifyThresholdCrossing") ∷ []) s09 c.in_ok-string.ensures.ok in
    let s11 = more old _ (key (codes "objectInstance") ∷ []) s10 c.in_ok-key-6.ensures.ok in
    let s12 = more old _ (string x.object ∷ []) s11 (rw c.as_bytes-2.ensures.value at c.in_ok-text_token-2.ensures.ok) in
    let s13 = more old _ (key (codes "observedValue") ∷ []) s12 c.in_ok-key-7.ensures.ok in
    let s14 = more old _ (number (decimal x.value) ∷ []) s13 c.in_ok-u64-4.ensures.ok in
    let s15 = more old _ (key (codes "performanceMetric") ∷ []) s14 c.in_ok-key-8.ensures.ok in
    let s16 = more old _ (string x.metric ∷ []) s15 (rw c.as_bytes-3.ensures.value at c.in_ok-text_token-3.ensures.ok) in
    let s17 = more old _ (key (codes "thresholdDirection") ∷ []) s16 c.in_ok-key-9.ensures.ok in
    let s18 = more old _ (string (direction_text x.up) ∷ []) s17 (rw c.direction_word.ensures at c.in_ok-string-2.ensures.ok) in
    let s19 = more old _ (key (codes "thresholdValue") ∷ []) s18 c.in_ok-key-10.ensures.ok in
    let s20 = more old _ (number (decimal x.threshold) ∷ []) s19 c.in_ok-u64-5.ensures.ok in
    record {
      ok = on_ok c.end_object.result (λ last. more old _ (end_object ∷ []) s20 last) c.end_object.ensures.ok;
      before = search rules;
    }
