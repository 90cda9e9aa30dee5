use Rattle.std.proofs.Common.{◌≡◌, true, sym, subst}
use Rattle.pm_file.specs.Report.{group_content}
use Rattle.pm_file.specs.ReportForm.{group_form}
use Rattle.pm_file.specs.declared.report.Group.{Group}
use Rattle.pm_file.proofs.WriteLemmas.{fits_at}
use Rattle.pm_file.proofs.write_groups.write_groups.Goals as goal

pub write_group-requires : goal.write_group-requires
write_group-requires c =
    let P : Group → Type 0 = λ x. group_form.fits (group_content x) ≡ true in
    subst P (sym c.group-item.is) (fits_at group_form.fits group_content c.args.groups.now c.loop-group.group-index c.group-item.result c.requires c.loop-group-test.true)
