use Rattle.std.proofs.Common.{rules, ◌∷◌, [], codes, map}
use Rattle.json.specs.Token.{begin_object, end_object, key, string}
use Rattle.json.specs.Tree.{json_tokens}
use Rattle.serde_json.specs.Written.{outline}
use Rattle.pm_form.specs.Lists.{list_of}
use Rattle.pm_form.proofs.WriteLemmas.{more, on_ok}
use Rattle.pm_file.specs.ReportForm.{group_form, type_form, row_form}
use Rattle.pm_file.specs.Report.{row_content, group_content}
use Rattle.pm_file.proofs.Utf8Lemmas.{class_word-utf8}
use Rattle.pm_file.proofs.WriteLemmas.{group_types, group_rows, group_class}
use Rattle.pm_file.proofs.write_groups.write_group.Goals as goal

pub write_types-requires : goal.write_types-requires
write_types-requires c = rw c.deref.ensures.value (group_types (group_content c.args.group.now) c.requires)

pub write_rows-requires : goal.write_rows-requires
write_rows-requires c = rw c.deref-2.ensures.value (group_rows (group_content c.args.group.now) c.requires)

pub text_token-requires : goal.text_token-requires
text_token-requires c =
    let g = group_content c.args.group.now in rw c.as_bytes.ensures.value (class_word-utf8 g.class (group_class g c.requires))

pub returns : goal.returns
unfolding group_form
returns c =
    let old = c.args.out.now.tokens in
    let s01 = more old (begin_object ∷ []) (key (codes "measTypes") ∷ []) (c.in_ok-begin_object.ensures.ok) (c.in_ok-key.ensures.ok) in
    let s02 = more old _ (json_tokens (outline ((list_of type_form).tree c.args.group.now.types.items))) s01 (rw c.deref.ensures.value at c.in_ok-write_types.ensures.ok) in
    let s11 = more c.write_types.new.out.tokens (key (codes "measValues") ∷ []) (json_tokens (outline ((list_of row_form).tree (map row_content c.args.group.now.rows.items)))) (c.in_ok-key-2.ensures.ok) (rw c.deref-2.ensures.value at c.in_ok-write_rows.ensures.ok) in
    let s21 = more c.write_rows.new.out.tokens (key (codes "objectClass") ∷ []) (string c.args.group.now.class ∷ []) (c.in_ok-key-3.ensures.ok) (rw c.as_bytes.ensures.value at c.in_ok-text_token.ensures.ok) in
    record {
      ok = on_ok c.end_object.result (λ last. let t1 = more c.write_rows.new.out.tokens _ (end_object ∷ []) s21 (last) in let t0 = more c.write_types.new.out.tokens _ _ s11 t1 in more old _ _ s02 t0) c.end_object.ensures.ok;
      before = search rules;
    }
