-- What the rows, groups and parts of the program say.
use Rattle.std.specs.Prelude.{ℕ, ◌-◌, List, map}
use Rattle.pm_file.specs.Content.{RowContent, GroupContent, PartContent, ReportContent}
use Rattle.pm_file.specs.declared.report.Row.{Row}
use Rattle.pm_file.specs.declared.report.Group.{Group}
use Rattle.pm_file.specs.declared.report.Part.{Part}

abbrev pub row_content : Row → RowContent
row_content r = record { object = r.object; results = r.results.items; suspect = r.suspect }

abbrev pub group_content : Group → GroupContent
group_content g = record { class = g.class; types = g.types.items; rows = map row_content g.rows.items }

-- A part's granularity period is its length.
abbrev pub part_content : Part → PartContent
part_content p =
    record { begin = p.begin; end = p.end; granularity = p.end - p.begin; groups = map group_content p.groups.items }

-- A report of these fields.
abbrev pub report_content : List ℕ → List ℕ → ℕ → ℕ → List Part → ReportContent
report_content job sender begin end parts =
    record { job = job; sender = sender; begin = begin; end = end; parts = map part_content parts }
