use Rattle.std.proofs.Common.{rules, ◌∷◌, [], codes}
use Rattle.json.specs.Token.{begin_object, end_object, key, string, boolean}
use Rattle.json.specs.Tree.{json_tokens}
use Rattle.serde_json.specs.Written.{outline}
use Rattle.pm_form.specs.Lists.{list_of}
use Rattle.pm_form.proofs.WriteLemmas.{more, on_ok}
use Rattle.pm_file.specs.ReportForm.{row_form, result_form}
use Rattle.pm_file.specs.Report.{row_content}
use Rattle.pm_file.proofs.Utf8Lemmas.{object_name-utf8}
use Rattle.pm_file.proofs.WriteLemmas.{row_object}
use Rattle.pm_file.proofs.write_groups.write_row.Goals as goal

pub text_token-requires : goal.text_token-requires
text_token-requires c =
    let r = row_content c.args.row.now in rw c.as_bytes.ensures.value (object_name-utf8 r.object (row_object r c.requires))

pub returns : goal.returns
unfolding row_form
returns c =
    let old = c.args.out.now.tokens in
    let s01 = more old (begin_object ∷ []) (key (codes "measObjInstId") ∷ []) (c.in_ok-begin_object.ensures.ok) (c.in_ok-key.ensures.ok) in
    let s02 = more old _ (string c.args.row.now.object ∷ []) s01 (rw c.as_bytes.ensures.value at c.in_ok-text_token.ensures.ok) in
    let s03 = more old _ (key (codes "measResults") ∷ []) s02 (c.in_ok-key-2.ensures.ok) in
    let s04 = more old _ (json_tokens (outline ((list_of result_form).tree c.args.row.now.results.items))) s03 (rw c.deref.ensures.value at c.in_ok-write_results.ensures.ok) in
    let s11 = more c.write_results.new.out.tokens (key (codes "suspectFlag") ∷ []) (boolean c.args.row.now.suspect ∷ []) (c.in_ok-key-3.ensures.ok) (c.in_ok-boolean.ensures.ok) in
    record {
      ok = on_ok c.end_object.result (λ last. let t0 = more c.write_results.new.out.tokens _ (end_object ∷ []) s11 (last) in more old _ _ s04 t0) c.end_object.ensures.ok;
      before = search rules;
    }
