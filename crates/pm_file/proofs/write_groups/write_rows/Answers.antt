use Rattle.std.proofs.Common.{◌≡◌, true, sym, subst}
use Rattle.pm_file.specs.Report.{row_content}
use Rattle.pm_file.specs.ReportForm.{row_form}
use Rattle.pm_file.specs.declared.report.Row.{Row}
use Rattle.pm_file.proofs.WriteLemmas.{fits_at}
use Rattle.pm_file.proofs.write_groups.write_rows.Goals as goal

pub write_row-requires : goal.write_row-requires
write_row-requires c =
    let P : Row → Type 0 = λ x. row_form.fits (row_content x) ≡ true in
    subst P (sym c.row-item.is) (fits_at row_form.fits row_content c.args.rows.now c.loop-row.row-index c.row-item.result c.requires c.loop-row-test.true)
