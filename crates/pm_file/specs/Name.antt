-- The file name of a report (TS 32.432; which type is written when is this project's own).
use Rattle.std.specs.Prelude.{◌==◌, length}
use Rattle.pm_name.specs.FileName.{FileNameParts, file_type}
use Rattle.pm_file.specs.Content.{ReportContent}
use Rattle.pm_file.specs.ReportForm.{element_id}

-- Its times, its job and the id of its sender; type A for one part, C for more.
abbrev pub report_name : ReportContent → FileNameParts
report_name r =
    record { kind = file_type (length r.parts == 1); begin = r.begin; end = r.end; job = r.job; unique = element_id r.sender }
