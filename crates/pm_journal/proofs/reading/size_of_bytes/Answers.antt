use Rattle.std.proofs.lemmas.Nat.{be_bytes_4}
use Rattle.pm_journal.specs.Items.{size_bytes}
use Rattle.pm_journal.proofs.reading.size_of_bytes.Goals as goal

pub returns : goal.returns
unfolding size_bytes
returns c = be_bytes_4 c.args.size.now c.from_be_bytes.result c.told-size c.fits-size c.from_be_bytes.ensures
