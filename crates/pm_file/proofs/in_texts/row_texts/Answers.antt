use Rattle.pm_file.specs.Numbers.{row_in_texts}
use Rattle.pm_file.specs.Numbered.{row_of}
use Rattle.pm_file.proofs.NumberLemmas.{object_known}
use Rattle.pm_file.proofs.WriteLemmas.{row_object}
use Rattle.pm_file.proofs.in_texts.row_texts.Goals as goal

pub text-requires : goal.text-requires
text-requires c =
    let r = row_in_texts c.args.inventory.now (row_of c.args.row.now) in
    rw c.tree.ensures (object_known c.args.inventory.now.objects c.args.row.now.object (row_object r c.requires))
