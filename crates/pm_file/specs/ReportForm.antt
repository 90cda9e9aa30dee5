-- The form of a report (TS 32.432; keys and words are this project's own).
use Rattle.std.specs.Prelude.{ℕ, ◌&&◌, Bool, List, Option, codes, take, drop, bytes_eq, is_none}
use Rattle.pm_base.specs.declared.moment.TheConstants.{LAST_MOMENT}
use Rattle.pm_dn.specs.Refusal.{name_refusal}
use Rattle.pm_form.specs.Form.{Form, tested, mapped}
use Rattle.pm_form.specs.Values.{text, fixed, flag, whole, whole_or_null}
use Rattle.pm_form.specs.Lists.{list_of}
use Rattle.pm_form.specs.Objects.{field, last, object_of}
use Rattle.pm_form.specs.Names.{job_id, dn_id, measure_name, class_word}
use Rattle.pm_form.specs.declared.refusal.Refusal.TheVariants.{Disagrees}
use Rattle.pm_file.specs.Content.{RowContent, GroupContent, PartContent, ReportContent}
use Rattle.pm_file.specs.Agreement.{report_agrees}

-- A distinguished name.
abbrev pub object_name : List ℕ → Bool
object_name s = is_none (name_refusal s)

-- The id in the name of a ManagedElement.
abbrev pub element_id : List ℕ → List ℕ
element_id s = drop 15 s

-- The name of a ManagedElement.
abbrev pub element_name : List ℕ → Bool
element_name s = bytes_eq (take 15 s) (codes "ManagedElement=") && dn_id (element_id s)

-- A moment.
abbrev pub moment : Form ℕ
moment = whole LAST_MOMENT

-- Null, or any whole number below 2 ^ 64.
abbrev pub result_form : Form (Option ℕ)
result_form = whole_or_null 18446744073709551615

-- The name of a measurement.
unfoldable pub type_form : Form (List ℕ)
type_form = text measure_name

unfoldable pub row_form : Form RowContent
row_form =
    mapped (λ p. record { object = p.0; results = p.1.0; suspect = p.1.1 }) (λ r. (r.object, (r.results, r.suspect)))
    (object_of (field (codes "measObjInstId") (text object_name)
    (field (codes "measResults") (list_of result_form)
    (last (codes "suspectFlag") flag))))

unfoldable pub group_form : Form GroupContent
group_form =
    mapped (λ p. record { class = p.1.1; types = p.0; rows = p.1.0 }) (λ g. (g.types, (g.rows, g.class)))
    (object_of (field (codes "measTypes") (list_of type_form)
    (field (codes "measValues") (list_of row_form)
    (last (codes "objectClass") (text class_word)))))

unfoldable pub part_form : Form PartContent
part_form =
    mapped (λ p. record { begin = p.0; end = p.1.0; granularity = p.1.1.0; groups = p.1.1.1 })
    (λ p. (p.begin, (p.end, (p.granularity, p.groups))))
    (object_of (field (codes "beginTime") moment
    (field (codes "endTime") moment
    (field (codes "granularityPeriod") (whole 18446744073709551615)
    (last (codes "measInfo") (list_of group_form))))))

-- What the header says beside its version.
pub record Header : Type 0 where
  pub begin : ℕ
  pub job : List ℕ
  pub sender : List ℕ

unfoldable pub header_form : Form Header
header_form =
    mapped (λ p. record { begin = p.0; job = p.1.1.0; sender = p.1.1.1 }) (λ h. (h.begin, (tt, (h.job, h.sender))))
    (object_of (field (codes "beginTime") moment
    (field (codes "fileFormatVersion") (fixed (codes "PM1"))
    (field (codes "jobId") (text job_id)
    (last (codes "senderName") (text element_name))))))

unfoldable pub footer_form : Form ℕ
footer_form = object_of (last (codes "endTime") moment)

-- The footer, the header and the parts make a report.
abbrev pub of_parts : ℕ × (Header × List PartContent) → ReportContent
of_parts p = record { job = p.1.0.job; sender = p.1.0.sender; begin = p.1.0.begin; end = p.0; parts = p.1.1 }

abbrev pub to_parts : ReportContent → ℕ × (Header × List PartContent)
to_parts r = (r.end, (record { begin = r.begin; job = r.job; sender = r.sender }, r.parts))

-- A report of whose values it is not asked whether they agree.
unfoldable pub body_form : Form ReportContent
body_form =
    mapped of_parts to_parts
    (object_of (field (codes "fileFooter") footer_form
    (field (codes "fileHeader") header_form
    (last (codes "measData") (list_of part_form)))))

-- A report.
unfoldable pub report_form : Form ReportContent
report_form = tested Disagrees report_agrees body_form
