-- A permitted report has a name.
use Rattle.std.proofs.Common.{◌≡◌, ℕ, ◌≤◌, ◌&&◌, rules, Bool, true, false, List, Vec, Global, vec_len, length, map, refl, sym, ap, ap₂, ◌∙◌, eqb, leb}
use Rattle.std.proofs.lemmas.Bool.{leb-true, leb-false}
use Rattle.std.proofs.lemmas.List.{length-map}
use Rattle.pm_name.specs.FileName.{FileType, FileNameParts, file_type, IsNameable}
use Rattle.pm_name.specs.Kind.{type_of}
use Rattle.pm_name.specs.Name.{name_parts}
use Rattle.pm_name.specs.declared.kind.FileKind.{FileKind}
use Rattle.pm_file.specs.Report.{part_content}
use Rattle.pm_file.specs.Says.{content_of}
use Rattle.pm_file.specs.declared.report.Report.{Report}
use Rattle.pm_form.specs.Names.{job_id}
use Rattle.pm_form.proofs.NameLemmas.{IsJobId-job_id, IsDnId-dn_id}
use Rattle.pm_file.specs.Content.{ReportContent}
use Rattle.pm_file.specs.Agreement.{is_file_span, report_agrees}
use Rattle.pm_file.specs.ReportForm.{Header, moment, element_name, element_id, header_form, footer_form, body_form, report_form}
use Rattle.pm_file.specs.Permitted.{is_permitted}
use Rattle.pm_file.specs.Name.{report_name}
use Rattle.pm_file.proofs.SpanLemmas.{IsFileSpan-test}
use Rattle.pm_file.proofs.ElementLemmas.{short_name}

both : (a b : Bool) → (a && b) ≡ true → (a ≡ true) × (b ≡ true)
both true b h = (refl, h)
both false b h = cc

pub permitted-body : (r : ReportContent) → is_permitted r ≡ true → body_form.fits r ≡ true
unfolding is_permitted report_form
permitted-body r e = (both (body_form.fits r) (report_agrees r) e).0

pub permitted-agrees : (r : ReportContent) → is_permitted r ≡ true → report_agrees r ≡ true
unfolding is_permitted report_form
permitted-agrees r e = (both (body_form.fits r) (report_agrees r) e).1

pub body-header : (r : ReportContent) → body_form.fits r ≡ true → header_form.fits (record { begin = r.begin; job = r.job; sender = r.sender }) ≡ true
unfolding body_form
body-header r e = (both (header_form.fits (record { begin = r.begin; job = r.job; sender = r.sender })) _ (both (footer_form.fits r.end) _ e).1).0

pub header-names : (h : Header) → header_form.fits h ≡ true → (job_id h.job ≡ true) × (element_name h.sender ≡ true)
unfolding header_form
header-names h e = both (job_id h.job) (element_name h.sender) (both true _ (both (moment.fits h.begin) _ e).1).1

pub nameable : (r : ReportContent) → is_permitted r ≡ true → IsNameable (report_name r)
nameable r e =
    let agrees = permitted-agrees r e in
    let names = header-names (record { begin = r.begin; job = r.job; sender = r.sender }) (body-header r (permitted-body r e)) in
    record {
      span = IsFileSpan-test (eqb (length r.parts) 1) r.begin r.end (both _ (is_file_span (eqb (length r.parts) 1) r.begin r.end) agrees).1;
      job_is = IsJobId-job_id r.job names.0;
      unique_is = IsDnId-dn_id (element_id r.sender) (both _ _ names.1).1;
    }

pub long_sender : (r : ReportContent) → is_permitted r ≡ true → 15 ≤ length r.sender
long_sender r e = by (leb 15 (length r.sender)) refl
  where
    is : element_name r.sender ≡ true
    is = (header-names (record { begin = r.begin; job = r.job; sender = r.sender }) (body-header r (permitted-body r e))).1

    by : (b : Bool) → leb 15 (length r.sender) ≡ b → 15 ≤ length r.sender
    by true p = leb-true 15 (length r.sender) p
    by false p = let short = short_name r.sender (leb-false 15 (length r.sender) p) in let bad : true ≡ false = sym is ∙ short in cc

vec_len_is : {A : Type 0} (v : Vec A Global) → vec_len v ≡ length v.items
vec_len_is v = search rules

-- The name that is made of a report's fields.
pub name_same : (r : Report) (n : ℕ) (kind : FileKind) (job unique : List ℕ) → n ≡ vec_len r.parts → type_of kind ≡ file_type (eqb n 1)
    → job ≡ r.job → unique ≡ element_id r.sender → name_parts kind r.begin r.end job unique ≡ report_name (content_of r)
name_same r n kind job unique count type job_is unique_is =
    let same : file_type (eqb n 1) ≡ file_type (eqb (length (map part_content r.parts.items)) 1) =
    ap (λ k. file_type (eqb k 1)) (count ∙ vec_len_is r.parts ∙ sym (length-map r.parts.items part_content)) in
    let at : FileType → List ℕ → List ℕ → FileNameParts = λ k j u. record { kind = k; begin = r.begin; end = r.end; job = j; unique = u } in
    ap (λ k. at k job unique) (type ∙ same) ∙ ap₂ (at (report_name (content_of r)).kind) job_is unique_is
