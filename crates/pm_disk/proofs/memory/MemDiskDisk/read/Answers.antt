use Rattle.std.proofs.Common.{arith}
use Rattle.pm_disk.specs.Contents.{content}
use Rattle.pm_disk.proofs.MadeLemmas.{reads_looked, replayed_looked, small_same}
use Rattle.pm_disk.proofs.memory.MemDiskDisk.read.Goals as goal

pub invariant_of-self-then-not-done-clause-reads : goal.invariant_of-self-then-not-done-clause-reads
invariant_of-self-then-not-done-clause-reads c = reads_looked (content c.args.self.now.contents) _ _ c.args.self.now.reads c.add.ensures.added

pub invariant_of-self-else-not-done-clause-reads : goal.invariant_of-self-else-not-done-clause-reads
invariant_of-self-else-not-done-clause-reads c = reads_looked (content c.args.self.now.contents) _ _ c.args.self.now.reads c.add.ensures.added

pub returns-then-not-done-clause-told : goal.returns-then-not-done-clause-told
returns-then-not-done-clause-told c = replayed_looked _ _ c.add.ensures.added

pub returns-clause-told : goal.returns-clause-told
returns-clause-told c = replayed_looked _ _ c.add.ensures.added

pub invariant_of-self-then-not-done-clause-small : goal.invariant_of-self-then-not-done-clause-small
invariant_of-self-then-not-done-clause-small c = small_same (content c.args.self.now.contents) _ _ c.args.self.now.small (omega (arith, c.add.ensures.same))

pub invariant_of-self-else-not-done-clause-small : goal.invariant_of-self-else-not-done-clause-small
invariant_of-self-else-not-done-clause-small c = small_same (content c.args.self.now.contents) _ _ c.args.self.now.small (omega (arith, c.add.ensures.same))
