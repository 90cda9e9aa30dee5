use Rattle.pm_file.specs.Numbers.{group_in_texts}
use Rattle.pm_file.specs.Numbered.{group_of}
use Rattle.pm_file.proofs.WriteLemmas.{group_types, group_rows}
use Rattle.pm_file.proofs.in_texts.group_texts.Goals as goal

pub type_texts-requires : goal.type_texts-requires
type_texts-requires c =
    rw c.deref.ensures.value (group_types (group_in_texts c.args.inventory.now (group_of c.args.group.now)) c.requires)

pub rows_texts-requires : goal.rows_texts-requires
rows_texts-requires c =
    rw c.deref-2.ensures.value (group_rows (group_in_texts c.args.inventory.now (group_of c.args.group.now)) c.requires)
