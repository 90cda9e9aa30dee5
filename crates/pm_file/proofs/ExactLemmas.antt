-- A tree says a report exactly where it is the report's tree and the report fits.
use Rattle.std.proofs.Common.{refl, codes}
use Rattle.pm_form.specs.Form.{IsExact}
use Rattle.pm_form.specs.Values.{text, fixed, flag, whole}
use Rattle.pm_form.specs.Names.{job_id, measure_name, class_word}
use Rattle.pm_form.specs.declared.refusal.Refusal.TheVariants.{Disagrees}
use Rattle.pm_form.proofs.FormLemmas.{text_exact, fixed_exact, flag_exact, whole_exact, whole_or_null_exact, list_exact, last_exact, field_exact, object_exact, tested_exact, mapped_exact}
use Rattle.pm_file.specs.Agreement.{report_agrees}
use Rattle.pm_file.specs.ReportForm.{object_name, element_name, moment, type_form, row_form, group_form, part_form, header_form, footer_form, body_form, report_form, of_parts, to_parts}

pub row_exact : IsExact row_form
unfolding row_form
row_exact =
    mapped_exact _ _ _ (λ r. refl) (λ p. refl) (object_exact _ (field_exact (codes "measObjInstId") (text object_name) _ (text_exact object_name)
    (field_exact (codes "measResults") _ _ (list_exact _ (whole_or_null_exact 18446744073709551615))
    (last_exact (codes "suspectFlag") flag flag_exact))))

pub type_exact : IsExact type_form
unfolding type_form
type_exact = text_exact measure_name

pub group_exact : IsExact group_form
unfolding group_form
group_exact =
    mapped_exact _ _ _ (λ r. refl) (λ p. refl) (object_exact _ (field_exact (codes "measTypes") _ _ (list_exact _ type_exact)
    (field_exact (codes "measValues") _ _ (list_exact _ row_exact)
    (last_exact (codes "objectClass") (text class_word) (text_exact class_word)))))

pub part_exact : IsExact part_form
unfolding part_form
part_exact =
    mapped_exact _ _ _ (λ r. refl) (λ p. refl) (object_exact _ (field_exact (codes "beginTime") moment _ (whole_exact 253402300799)
    (field_exact (codes "endTime") moment _ (whole_exact 253402300799)
    (field_exact (codes "granularityPeriod") (whole 18446744073709551615) _ (whole_exact 18446744073709551615)
    (last_exact (codes "measInfo") _ (list_exact _ group_exact))))))

pub header_exact : IsExact header_form
unfolding header_form
header_exact =
    mapped_exact _ _ _ (λ r. refl) (λ p. refl) (object_exact _ (field_exact (codes "beginTime") moment _ (whole_exact 253402300799)
    (field_exact (codes "fileFormatVersion") (fixed (codes "PM1")) _ (fixed_exact (codes "PM1"))
    (field_exact (codes "jobId") (text job_id) _ (text_exact job_id)
    (last_exact (codes "senderName") (text element_name) (text_exact element_name))))))

pub footer_exact : IsExact footer_form
unfolding footer_form
footer_exact = object_exact _ (last_exact (codes "endTime") moment (whole_exact 253402300799))

pub body_exact : IsExact body_form
unfolding body_form
body_exact =
    mapped_exact of_parts to_parts _ (λ r. refl) (λ p. refl)
    (object_exact _ (field_exact (codes "fileFooter") footer_form _ footer_exact
    (field_exact (codes "fileHeader") header_form _ header_exact
    (last_exact (codes "measData") _ (list_exact _ part_exact)))))

pub report_exact : IsExact report_form
unfolding report_form
report_exact = tested_exact Disagrees report_agrees _ body_exact
