-- The report of the history that the program's report in numbers is.
use Rattle.std.specs.Prelude.{map}
use Rattle.pm_history.specs.Files.{Row, Group, Part, Report}
use Rattle.pm_file.specs.declared.numbers.NumberedRow.{NumberedRow}
use Rattle.pm_file.specs.declared.numbers.NumberedGroup.{NumberedGroup}
use Rattle.pm_file.specs.declared.numbers.NumberedPart.{NumberedPart}
use Rattle.pm_file.specs.declared.numbers.NumberedReport.{NumberedReport}

abbrev pub row_of : NumberedRow → Row
row_of r = record { object = r.object; results = r.results.items; suspect = r.suspect }

abbrev pub group_of : NumberedGroup → Group
group_of g = record { class = g.class; metrics = g.metrics.items; rows = map row_of g.rows.items }

abbrev pub part_of : NumberedPart → Part
part_of p = record { begin = p.begin; end = p.end; groups = map group_of p.groups.items }

abbrev pub report_of : NumberedReport → Report
report_of r = record { job = r.job; begin = r.begin; end = r.end; parts = map part_of r.parts.items }
