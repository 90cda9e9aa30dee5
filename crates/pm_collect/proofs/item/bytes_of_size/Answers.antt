use Rattle.std.proofs.Common.{rules}
use Rattle.pm_journal.specs.Items.{size_bytes}
use Rattle.pm_collect.proofs.item.bytes_of_size.Goals as goal

pub returns : goal.returns
unfolding size_bytes
returns c = search rules
