use Rattle.std.proofs.Common.{rules, ◌∷◌, [], codes, map}
use Rattle.json.specs.Token.{begin_object, end_object, key}
use Rattle.json.specs.Tree.{json_tokens}
use Rattle.serde_json.specs.Written.{outline}
use Rattle.pm_form.specs.Lists.{list_of}
use Rattle.pm_form.proofs.WriteLemmas.{more, on_ok}
use Rattle.pm_file.specs.ReportForm.{body_form, report_form, footer_form, header_form, part_form}
use Rattle.pm_file.specs.HeaderOf.{header_of}
use Rattle.pm_file.specs.Report.{part_content}
use Rattle.pm_file.specs.Says.{content_of}
use Rattle.pm_file.proofs.NameLemmas.{permitted-body, body-header}
use Rattle.pm_file.proofs.WriteLemmas.{body_parts}
use Rattle.pm_file.proofs.write.write_report.Goals as goal

pub write_header-requires : goal.write_header-requires
write_header-requires c =
    let r = content_of c.args.report.now in
    rw (c.as_bytes.ensures.value, c.as_bytes-2.ensures.value) (body-header r (permitted-body r c.args.report.now.permitted))

pub write_parts-requires : goal.write_parts-requires
write_parts-requires c =
    let r = content_of c.args.report.now in rw c.deref.ensures.value (body_parts r (permitted-body r c.args.report.now.permitted))

pub returns : goal.returns
unfolding body_form report_form
returns c =
    let old = c.args.out.now.tokens in
    let s01 = more old (begin_object ∷ []) (key (codes "fileFooter") ∷ []) (c.in_ok-begin_object.ensures.ok) (c.in_ok-key.ensures.ok) in
    let s02 = more old _ (json_tokens (outline (footer_form.tree c.args.report.now.end))) s01 (c.in_ok-write_footer.ensures.ok) in
    let s11 = more c.write_footer.new.out.tokens (key (codes "fileHeader") ∷ []) (json_tokens (outline (header_form.tree (header_of c.args.report.now.begin c.args.report.now.job c.args.report.now.sender)))) (c.in_ok-key-2.ensures.ok) (rw (c.as_bytes.ensures.value, c.as_bytes-2.ensures.value) at c.in_ok-write_header.ensures.ok) in
    let s21 = more c.write_header.new.out.tokens (key (codes "measData") ∷ []) (json_tokens (outline ((list_of part_form).tree (map part_content c.args.report.now.parts.items)))) (c.in_ok-key-3.ensures.ok) (rw c.deref.ensures.value at c.in_ok-write_parts.ensures.ok) in
    record {
      ok = on_ok c.end_object.result (λ last. let t1 = more c.write_header.new.out.tokens _ (end_object ∷ []) s21 (last) in let t0 = more c.write_footer.new.out.tokens _ _ s11 t1 in more old _ _ s02 t0) c.end_object.ensures.ok;
      before = search rules;
    }
