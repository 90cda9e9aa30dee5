-- What a report of the program says, and what was read of a text, against what the text says.
use Rattle.std.specs.Prelude.{◌≡◌, Result, Ok, Err}
use Rattle.pm_form.specs.Form.{Read}
use Rattle.pm_form.specs.declared.refusal.Refusal.{Refusal}
use Rattle.pm_form.specs.declared.refusal.ReadError.{ReadError}
use Rattle.pm_form.specs.declared.refusal.ReadError.TheVariants.{Refused}
use Rattle.pm_form.specs.declared.refusal.ReadError.TheVariants as TooLittle
use Rattle.pm_form.specs.declared.refusal.Refusal.TheVariants.{NotJson, WrongType, WrongKeys, WrongNumber, Disagrees}
use Rattle.pm_file.specs.Content.{ReportContent}
use Rattle.pm_file.specs.Report.{report_content}
use Rattle.pm_file.specs.declared.report.Report.{Report}
use Rattle.pm_file.specs.declared.error.ReportError.{ReportError}
use Rattle.pm_file.specs.declared.error.ReportError.TheVariants.{R1, R2, R3, R4, R5, Memory}

abbrev pub content_of : Report → ReportContent
content_of r = report_content r.job r.sender r.begin r.end r.parts.items

-- The code of a refusal.
abbrev pub code_of : Refusal → ReportError
code_of NotJson = R1
code_of WrongType = R3
code_of WrongKeys = R2
code_of WrongNumber = R4
code_of Disagrees = R5

abbrev pub error_of : ReadError → ReportError
error_of (Refused e) = code_of e
error_of TooLittle.Memory = Memory

-- The report is what is said, or the code is that of the first refusal.
abbrev pub IsReading : Result Report ReportError → Read ReportContent → Type 0
IsReading (Ok report) says = says ≡ Ok (content_of report)
IsReading (Err R1) says = says ≡ Err NotJson
IsReading (Err R3) says = says ≡ Err WrongType
IsReading (Err R2) says = says ≡ Err WrongKeys
IsReading (Err R4) says = says ≡ Err WrongNumber
IsReading (Err R5) says = says ≡ Err Disagrees
IsReading (Err Memory) says = Unit {0}
