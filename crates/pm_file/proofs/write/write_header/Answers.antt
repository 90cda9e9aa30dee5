use Rattle.std.proofs.Common.{rules, ◌∷◌, [], codes, decimal}
use Rattle.json.specs.Token.{begin_object, end_object, key, number, string}
use Rattle.pm_form.proofs.WriteLemmas.{more, on_ok}
use Rattle.pm_file.specs.ReportForm.{header_form}
use Rattle.pm_file.specs.HeaderOf.{header_of}
use Rattle.pm_file.proofs.Utf8Lemmas.{job_id-utf8, element_name-utf8}
use Rattle.pm_file.proofs.NameLemmas.{header-names}
use Rattle.pm_file.proofs.write.write_header.Goals as goal

pub text_token-requires : goal.text_token-requires
text_token-requires c = job_id-utf8 c.args.job.now (header-names (header_of c.args.begin c.args.job.now c.args.sender.now) c.requires).0

pub text_token-requires-2 : goal.text_token-requires-2
text_token-requires-2 c =
    element_name-utf8 c.args.sender.now (header-names (header_of c.args.begin c.args.job.now c.args.sender.now) c.requires).1

pub returns : goal.returns
unfolding header_form
returns c =
    let old = c.args.out.now.tokens in
    let s01 = more old (begin_object ∷ []) (key (codes "beginTime") ∷ []) (c.in_ok-begin_object.ensures.ok) (c.in_ok-key.ensures.ok) in
    let s02 = more old _ (number (decimal (c.args.begin)) ∷ []) s01 (c.in_ok-u64.ensures.ok) in
    let s03 = more old _ (key (codes "fileFormatVersion") ∷ []) s02 (c.in_ok-key-2.ensures.ok) in
    let s04 = more old _ (string (codes "PM1") ∷ []) s03 (c.in_ok-string.ensures.ok) in
    let s05 = more old _ (key (codes "jobId") ∷ []) s04 (c.in_ok-key-3.ensures.ok) in
    let s06 = more old _ (string c.args.job.now ∷ []) s05 (c.in_ok-text_token.ensures.ok) in
    let s07 = more old _ (key (codes "senderName") ∷ []) s06 (c.in_ok-key-4.ensures.ok) in
    let s08 = more old _ (string c.args.sender.now ∷ []) s07 (c.in_ok-text_token-2.ensures.ok) in
    record {
      ok = on_ok c.end_object.result (λ last. more old _ (end_object ∷ []) s08 (last)) c.end_object.ensures.ok;
      before = search rules;
    }
