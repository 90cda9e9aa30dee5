use Rattle.std.proofs.Common.{rules, ◌∷◌, []}
use Rattle.json.specs.Token.{begin_array, end_array}
use Rattle.json.specs.Tree.{json_tokens}
use Rattle.serde_json.specs.Written.{outline}
use Rattle.pm_form.proofs.WriteLemmas.{more, on_ok}
use Rattle.pm_notice.specs.NoticeForm.{listed_form}
use Rattle.pm_notice.specs.NoticeContent.{listed_of}
use Rattle.pm_notice.proofs.write.write_one_listed.Goals as goal

pub returns : goal.returns
returns c =
    let old = c.args.out.now.tokens in
    let s01 = more old (begin_array ∷ []) (json_tokens (outline (listed_form.tree (listed_of c.args.file.now)))) c.in_ok-begin_array.ensures.ok
    c.in_ok-write_listed.ensures.ok in
    record {
      ok = on_ok c.end_array.result (λ last. more old _ (end_array ∷ []) s01 last) c.end_array.ensures.ok;
      before = search rules;
    }
