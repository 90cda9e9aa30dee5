-- The compact text of a report's tree reads back as the tree.
use Rattle.std.proofs.Common.{◌≡◌, ℕ, ◌&&◌, Bool, true, false, List, refl, ap, ◌∙◌, arith, lit≤, Ok}
use Rattle.std.specs.Str.{IsUtf8}
use Rattle.json.specs.Lex.{tokens}
use Rattle.json.specs.Print.{print}
use Rattle.json.specs.Tree.{json_tokens}
use Rattle.serde_json.specs.Data.{Data}
use Rattle.serde_json.specs.Read.{read}
use Rattle.serde_json.specs.Written.{outline, compact_text}
use Rattle.pm_form.specs.Form.{Read, then_read, text_says}
use Rattle.pm_form.proofs.ReadLemmas.{json_of_read}
use Rattle.pm_form.specs.Lists.{list_of}
use Rattle.pm_form.specs.Values.{whole}
use Rattle.pm_form.specs.Names.{measure_name, class_word}
use Rattle.pm_form.specs.declared.refusal.Refusal.TheVariants.{Disagrees}
use Rattle.pm_form.proofs.KeptLemmas.{IsKept, text_kept, whole_kept, whole_or_null_kept, list_kept, tested_kept, compact_back}
use Rattle.pm_file.specs.Content.{ReportContent}
use Rattle.pm_file.specs.Agreement.{report_agrees}
use Rattle.pm_file.specs.Permitted.{is_permitted}
use Rattle.pm_file.proofs.ExactLemmas.{report_exact}
use Rattle.pm_file.specs.ReportForm.{object_name, moment, result_form, type_form, row_form, group_form, part_form, header_form, footer_form, body_form, report_form}

both : (a b : Bool) → (a && b) ≡ true → (a ≡ true) × (b ≡ true)
both true b h = (refl, h)
both false b h = cc

moment_kept : IsKept moment 0
moment_kept = whole_kept 253402300799 (omega arith)

pub row_kept : IsKept row_form 2
unfolding row_form
row_kept =
    let results = list_kept result_form 0 (whole_or_null_kept 18446744073709551615 (omega arith)) in
    record {
      same = λ r fits.
          let p = both (object_name r.object) _ fits in
          let q = both _ true p.1 in
          rw (results.same r.results q.0) refl;
      shallow = λ r. let h = results.shallow r.results in omega (arith, h);
    }

type_kept : IsKept type_form 0
unfolding type_form
type_kept = text_kept measure_name

pub group_kept : IsKept group_form 4
unfolding group_form
group_kept =
    let types = list_kept type_form 0 type_kept in
    let rows = list_kept row_form 2 row_kept in
    record {
      same = λ g fits.
          let p = both ((list_of type_form).fits g.types) _ fits in
          let q = both _ (class_word g.class) p.1 in
          rw (types.same g.types p.0, rows.same g.rows q.0) refl;
      shallow = λ g. let h = types.shallow g.types in let k = rows.shallow g.rows in omega (arith, h, k);
    }

pub part_kept : IsKept part_form 6
unfolding part_form
part_kept =
    let long = whole_kept 18446744073709551615 (omega arith) in
    let groups = list_kept group_form 4 group_kept in
    record {
      same = λ p fits.
          let a = both (moment.fits p.begin) _ fits in
          let b = both (moment.fits p.end) _ a.1 in
          let c = both ((whole 18446744073709551615).fits p.granularity) _ b.1 in
          rw (moment_kept.same p.begin a.0, moment_kept.same p.end b.0, long.same p.granularity c.0, groups.same p.groups c.1) refl;
      shallow = λ p. let h = groups.shallow p.groups in omega (arith, h);
    }

pub header_kept : IsKept header_form 1
unfolding header_form
header_kept =
    record {
      same = λ h fits. let p = both (moment.fits h.begin) _ fits in rw (moment_kept.same h.begin p.0) refl;
      shallow = λ h. omega arith;
    }

pub footer_kept : IsKept footer_form 1
unfolding footer_form
footer_kept = record { same = λ n fits. rw (moment_kept.same n fits) refl; shallow = λ n. omega arith }

pub body_kept : IsKept body_form 8
unfolding body_form
body_kept =
    let parts = list_kept part_form 6 part_kept in
    record {
      same = λ r fits.
          let a = both (footer_form.fits r.end) _ fits in
          let b = both (header_form.fits (record { begin = r.begin; job = r.job; sender = r.sender })) _ a.1 in
          rw (footer_kept.same r.end a.0, header_kept.same _ b.0, parts.same r.parts b.1) refl;
      shallow = λ r.
          let h = footer_kept.shallow r.end in
          let k = header_kept.shallow (record { begin = r.begin; job = r.job; sender = r.sender }) in
          let l = parts.shallow r.parts in
          omega (arith, h, k, l);
    }

pub report_kept : IsKept report_form 8
unfolding report_form
report_kept = tested_kept Disagrees report_agrees body_form 8 body_kept

fits_of : (r : ReportContent) → is_permitted r ≡ true → report_form.fits r ≡ true
unfolding is_permitted
fits_of r e = e

-- The compact text of a permitted report says the report.
pub text_back : (r : ReportContent) (text : List ℕ) → is_permitted r ≡ true → text ≡ compact_text (report_form.tree r) → IsUtf8 text
    → tokens (print (json_tokens (outline (report_form.tree r)))) ≡ json_tokens (outline (report_form.tree r))
    → text_says report_form text ≡ Ok r
text_back r text permitted is utf8 same =
    let fits = fits_of r permitted in
    let back = compact_back report_form 8 (lit≤ tt) report_kept r fits same in
    let tree = json_of_read text (report_form.tree r) utf8 (ap read is ∙ back) in
    let then : Read Data → Read ReportContent = λ d. then_read d report_form.reads in
    ap then tree ∙ report_exact.back r fits
