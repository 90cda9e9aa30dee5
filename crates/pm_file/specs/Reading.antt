-- What is read of a report's parts, header and footer, before it is known whether they agree.
use Rattle.std.specs.Prelude.{ℕ, List, map}
use Rattle.pm_file.specs.Content.{PartContent, ReportContent}
use Rattle.pm_file.specs.Report.{group_content}
use Rattle.pm_file.specs.ReportForm.{Header}
use Rattle.pm_file.specs.declared.read.ReadPart.{ReadPart}
use Rattle.pm_file.specs.declared.read.ReadHeader.{ReadHeader}

abbrev pub read_part_content : ReadPart → PartContent
read_part_content p =
    record { begin = p.part.begin; end = p.part.end; granularity = p.granularity; groups = map group_content p.part.groups.items }

abbrev pub header_content : ReadHeader → Header
header_content h = record { begin = h.begin; job = h.job; sender = h.sender }

-- A report of what was read.
abbrev pub read_content : ReadHeader → ℕ → List ReadPart → ReportContent
read_content h end parts =
    record { job = h.job; sender = h.sender; begin = h.begin; end = end; parts = map read_part_content parts }
