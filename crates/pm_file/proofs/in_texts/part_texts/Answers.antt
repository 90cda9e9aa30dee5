use Rattle.std.proofs.Common.{arith}
use Rattle.pm_file.specs.Numbers.{part_in_texts}
use Rattle.pm_file.specs.Numbered.{part_of}
use Rattle.pm_file.proofs.NumberLemmas.{part_moments}
use Rattle.pm_file.proofs.WriteLemmas.{part_groups}
use Rattle.pm_file.proofs.in_texts.part_texts.Goals as goal

pub groups_texts-requires : goal.groups_texts-requires
groups_texts-requires c =
    rw c.deref.ensures.value (part_groups (part_in_texts c.args.inventory.now (part_of c.args.part.now)) c.requires)

pub overflow_mul-begin : goal.overflow_mul-begin
overflow_mul-begin c =
    let m = (part_moments (part_in_texts c.args.inventory.now (part_of c.args.part.now)) c.requires).0 in omega (arith, m)

pub overflow_mul-end : goal.overflow_mul-end
overflow_mul-end c =
    let m = (part_moments (part_in_texts c.args.inventory.now (part_of c.args.part.now)) c.requires).1 in omega (arith, m)
