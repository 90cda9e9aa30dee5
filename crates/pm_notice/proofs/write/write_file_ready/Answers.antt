use Rattle.std.proofs.Common.{rules, ◌∷◌, [], codes, decimal}
use Rattle.json.specs.Token.{begin_object, end_object, key, number, string}
use Rattle.json.specs.Tree.{json_tokens}
use Rattle.serde_json.specs.Written.{outline}
use Rattle.pm_form.proofs.WriteLemmas.{more, on_ok}
use Rattle.pm_file.proofs.Utf8Lemmas.{object_name-utf8}
use Rattle.pm_notice.specs.Single.{single}
use Rattle.pm_notice.specs.NoticeForm.{listed_form, file_ready_form}
use Rattle.pm_notice.specs.NoticeContent.{listed_of}
use Rattle.pm_notice.proofs.write.write_file_ready.Goals as goal

pub text_token-requires : goal.text_token-requires
text_token-requires c = object_name-utf8 c.args.element.now c.requires.element

pub returns : goal.returns
unfolding file_ready_form
returns c =
    let old = c.args.out.now.tokens in
    let f = c.args.file.now in
    let s01 = more old (begin_object ∷ []) (key (codes "eventTime") ∷ []) c.in_ok-begin_object.ensures.ok c.in_ok-key.ensures.ok in
    let s02 = more old _ (number (decimal f.ready) ∷ []) s01 c.in_ok-u64.ensures.ok in
    let s03 = more old _ (key (codes "fileInfoList") ∷ []) s02 c.in_ok-key-2.ensures.ok in
    let s04 = more old _ (json_tokens (outline ((single listed_form).tree (listed_of f)))) s03 c.in_ok-write_one_listed.ensures.ok in
    let listed = c.write_one_listed.new.out.tokens in
    let s11 = more listed (key (codes "notificationId") ∷ []) (number (decimal c.args.number) ∷ []) c.in_ok-key-3.ensures.ok c.in_ok-u64-2.ensures.ok in
    let s12 = more listed _ (key (codes "notificationType") ∷ []) s11 c.in_ok-key-4.ensures.ok in
    let s13 = more listed _ (string (codes "notifyFileReady") ∷ []) s12 c.in_ok-string.ensures.ok in
    let s14 = more listed _ (key (codes "objectInstance") ∷ []) s13 c.in_ok-key-5.ensures.ok in
    let s15 = more listed _ (string c.args.element.now ∷ []) s14 c.in_ok-text_token.ensures.ok in
    record {
      ok = on_ok c.end_object.result (λ last. more old _ _ s04 (more listed _ (end_object ∷ []) s15 last)) c.end_object.ensures.ok;
      before = search rules;
    }
