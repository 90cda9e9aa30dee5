use Rattle.std.proofs.Common.{rules, ◌∷◌, ◌++◌, ◌+◌, [], codes, decimal, arith}
use Rattle.json.specs.Token.{begin_object, end_object, key, number, string}
use Rattle.pm_form.proofs.WriteLemmas.{more, on_ok}
use Rattle.pm_notice.specs.NoticeForm.{listed_form}
use Rattle.pm_notice.proofs.TextLemmas.{location-utf8}
use Rattle.pm_notice.proofs.write.write_listed.Goals as goal

pub text_token-requires : goal.text_token-requires
text_token-requires c =
    rw (c.deref.ensures.value, c.in_ok-location.ensures, c.as_bytes.ensures.value) (location-utf8 c.args.file.now.name c.requires.named)

pub overflow_add-file : goal.overflow_add-file
overflow_add-file c = let r = c.requires.ready in omega (arith, r)

pub returns : goal.returns
unfolding listed_form
returns c =
    let old = c.args.out.now.tokens in
    let f = c.args.file.now in
    let s01 = more old (begin_object ∷ []) (key (codes "fileDataType") ∷ []) c.in_ok-begin_object.ensures.ok c.in_ok-key.ensures.ok in
    let s02 = more old _ (string (codes "Performance") ∷ []) s01 c.in_ok-string.ensures.ok in
    let s03 = more old _ (key (codes "fileExpirationTime") ∷ []) s02 c.in_ok-key-2.ensures.ok in
    let s04 = more old _ (number (decimal (f.ready + 86400)) ∷ []) s03 c.in_ok-u64.ensures.ok in
    let s05 = more old _ (key (codes "fileFormat") ∷ []) s04 c.in_ok-key-3.ensures.ok in
    let s06 = more old _ (string (codes "JSON") ∷ []) s05 c.in_ok-string-2.ensures.ok in
    let s07 = more old _ (key (codes "fileLocation") ∷ []) s06 c.in_ok-key-4.ensures.ok in
    let s08 = more old _ (string (codes "/files/" ++ f.name) ∷ []) s07
    (rw (c.deref.ensures.value, c.in_ok-location.ensures, c.as_bytes.ensures.value) at c.in_ok-text_token.ensures.ok) in
    let s09 = more old _ (key (codes "fileReadyTime") ∷ []) s08 c.in_ok-key-5.ensures.ok in
    let s10 = more old _ (number (decimal f.ready) ∷ []) s09 c.in_ok-u64-2.ensures.ok in
    let s11 = more old _ (key (codes "fileSize") ∷ []) s10 c.in_ok-key-6.ensures.ok in
    let s12 = more old _ (number (decimal f.size) ∷ []) s11 c.in_ok-u64-3.ensures.ok in
    record {
      ok = on_ok c.end_object.result (λ last. more old _ (end_object ∷ []) s12 last) c.end_object.ensures.ok;
      before = search rules;
    }
