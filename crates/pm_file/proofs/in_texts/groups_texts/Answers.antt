use Rattle.std.proofs.Common.{◌≡◌, true, sym, subst}
use Rattle.pm_file.specs.ReportForm.{group_form}
use Rattle.pm_file.specs.Numbers.{group_in_texts}
use Rattle.pm_file.specs.Numbered.{group_of}
use Rattle.pm_file.specs.declared.numbers.NumberedGroup.{NumberedGroup}
use Rattle.pm_file.proofs.NumberLemmas.{known_at}
use Rattle.pm_file.proofs.in_texts.groups_texts.Goals as goal

pub group_texts-requires : goal.group_texts-requires
group_texts-requires c =
    let P : NumberedGroup → Type 0 = λ x. group_form.fits (group_in_texts c.args.inventory.now (group_of x)) ≡ true in
    subst P (sym c.group-item.is)
    (known_at group_form.fits (group_in_texts c.args.inventory.now) group_of c.args.groups.now c.loop-group.group-index c.group-item.result c.requires c.loop-group-test.true)
