use Rattle.std.proofs.Common.{◌≡◌, true, sym, subst}
use Rattle.pm_file.specs.Report.{part_content}
use Rattle.pm_file.specs.ReportForm.{part_form}
use Rattle.pm_file.specs.declared.report.Part.{Part}
use Rattle.pm_file.proofs.WriteLemmas.{fits_at}
use Rattle.pm_file.proofs.write.write_parts.Goals as goal

pub write_part-requires : goal.write_part-requires
write_part-requires c =
    let P : Part → Type 0 = λ x. part_form.fits (part_content x) ≡ true in
    subst P (sym c.part-item.is) (fits_at part_form.fits part_content c.args.parts.now c.loop-part.part-index c.part-item.result c.requires c.loop-part-test.true)
