use Rattle.std.proofs.Common.{◌≡◌, ◌++◌, map, drop}
use Rattle.pm_file.specs.Report.{row_content}
use Rattle.pm_file.specs.Numbers.{row_in_texts}
use Rattle.pm_file.specs.Numbered.{row_of}
use Rattle.pm_file.proofs.in_texts.rows_texts.Given as goal

abbrev pub invariant-loop-row : goal.invariant-loop-row
invariant-loop-row l =
    map row_content l.texts.items ++ map (row_in_texts l.inventory) (map row_of (drop l.row-index l.rows))
    ≡ map (row_in_texts l.inventory) (map row_of l.rows)
