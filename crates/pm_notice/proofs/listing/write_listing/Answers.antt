use Rattle.std.proofs.Common.{rules, ◌∷◌, [], codes, map}
use Rattle.json.specs.Token.{begin_object, end_object, key}
use Rattle.json.specs.Tree.{json_tokens}
use Rattle.serde_json.specs.Written.{outline}
use Rattle.pm_form.specs.Lists.{list_of}
use Rattle.pm_form.proofs.WriteLemmas.{more, on_ok}
use Rattle.pm_notice.specs.NoticeForm.{listed_form, listing_form}
use Rattle.pm_notice.specs.NoticeContent.{listed_of}
use Rattle.pm_notice.proofs.listing.write_listing.Goals as goal

pub returns : goal.returns
unfolding listing_form
returns c =
    let old = c.args.out.now.tokens in
    let s01 = more old (begin_object ∷ []) (key (codes "fileInfoList") ∷ []) c.in_ok-begin_object.ensures.ok c.in_ok-key.ensures.ok in
    let s02 = more old _ (json_tokens (outline ((list_of listed_form).tree (map listed_of c.args.files.now)))) s01 c.in_ok-write_files.ensures.ok in
    record {
      ok = on_ok c.end_object.result (λ last. more old _ (end_object ∷ []) s02 last) c.end_object.ensures.ok;
      before = search rules;
    }
