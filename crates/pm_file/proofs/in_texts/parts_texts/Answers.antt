use Rattle.std.proofs.Common.{◌≡◌, true, sym, subst}
use Rattle.pm_file.specs.ReportForm.{part_form}
use Rattle.pm_file.specs.Numbers.{part_in_texts}
use Rattle.pm_file.specs.Numbered.{part_of}
use Rattle.pm_file.specs.declared.numbers.NumberedPart.{NumberedPart}
use Rattle.pm_file.proofs.NumberLemmas.{known_at}
use Rattle.pm_file.proofs.in_texts.parts_texts.Goals as goal

pub part_texts-requires : goal.part_texts-requires
part_texts-requires c =
    let P : NumberedPart → Type 0 = λ x. part_form.fits (part_in_texts c.args.inventory.now (part_of x)) ≡ true in
    subst P (sym c.part-item.is)
    (known_at part_form.fits (part_in_texts c.args.inventory.now) part_of c.args.parts.now c.loop-part.part-index c.part-item.result c.requires c.loop-part-test.true)
