-- What is read of a report, before it is known whether it agrees.
use Rattle.pm_file.specs.Content.{ReportContent}
use Rattle.pm_file.specs.Reading.{read_content}
use Rattle.pm_file.specs.declared.body.ReadReport.{ReadReport}

abbrev pub body_content : ReadReport → ReportContent
body_content r = read_content r.header r.end r.parts.items
