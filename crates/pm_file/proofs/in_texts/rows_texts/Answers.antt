use Rattle.std.proofs.Common.{◌≡◌, true, sym, subst}
use Rattle.pm_file.specs.ReportForm.{row_form}
use Rattle.pm_file.specs.Numbers.{row_in_texts}
use Rattle.pm_file.specs.Numbered.{row_of}
use Rattle.pm_file.specs.declared.numbers.NumberedRow.{NumberedRow}
use Rattle.pm_file.proofs.NumberLemmas.{known_at}
use Rattle.pm_file.proofs.in_texts.rows_texts.Goals as goal

pub row_texts-requires : goal.row_texts-requires
row_texts-requires c =
    let P : NumberedRow → Type 0 = λ x. row_form.fits (row_in_texts c.args.inventory.now (row_of x)) ≡ true in
    subst P (sym c.row-item.is)
    (known_at row_form.fits (row_in_texts c.args.inventory.now) row_of c.args.rows.now c.loop-row.row-index c.row-item.result c.requires c.loop-row-test.true)
