use Rattle.std.proofs.Common.{inr, Ok, Err, ◌≤◌, false, true, refl, arith, length, ap}
use Rattle.pm_outside.specs.declared.outside.Failed.{Failed}
use Rattle.pm_disk.specs.Contents.{content}
use Rattle.pm_disk.proofs.MadeLemmas.{tells_begun, tells_refused, reads_looked, replayed_looked, reads_wrote, small_on, small_same, refused_write, step_write, length-overwritten_le}
use Rattle.pm_disk.specs.Made.{Wrote}
use Rattle.pm_disk.specs.Memory.{IsRefused}
use Rattle.pm_disk.proofs.memory.MemDiskDisk.write_at.Goals as goal

pub invariant_of-self-then-bytes-spare-clause-reads : goal.invariant_of-self-then-bytes-spare-clause-reads
invariant_of-self-then-bytes-spare-clause-reads c = reads_looked (content c.args.self.now.contents) _ _ c.args.self.now.reads c.add.ensures.added

pub returns-then-bytes-spare-clause-told : goal.returns-then-bytes-spare-clause-told
returns-then-bytes-spare-clause-told c = refused_write c.args.area c.args.at c.args.bytes.now c.fail-then-bytes-spare.result _ _ (replayed_looked _ _ c.add.ensures.added)

pub invariant_of-self-then-is_to_fail-clause-reads : goal.invariant_of-self-then-is_to_fail-clause-reads
invariant_of-self-then-is_to_fail-clause-reads c = reads_wrote (content c.args.self.now.contents) (content c.args.self.now.contents) _ _ c.args.area c.args.at c.args.bytes.now false c.args.self.now.reads c.add_write.ensures.added refl refl

pub returns-then-is_to_fail-clause-told : goal.returns-then-is_to_fail-clause-told
returns-then-is_to_fail-clause-told c = step_write c.args.area c.args.at c.args.bytes.now false (Err c.fail-then-is_to_fail.result) _ _ c.add_write.ensures.added tt

pub invariant_of-self-then-is_to_fail-clause-small : goal.invariant_of-self-then-is_to_fail-clause-small
invariant_of-self-then-is_to_fail-clause-small c = small_same (content c.args.self.now.contents) _ _ c.args.self.now.small (omega (arith, c.add_write.ensures.more))

pub invariant_of-self-then-bytes-spare-clause-small : goal.invariant_of-self-then-bytes-spare-clause-small
invariant_of-self-then-bytes-spare-clause-small c = small_same (content c.args.self.now.contents) _ _ c.args.self.now.small (omega (arith, c.add.ensures.same))

pub invariant_of-self-2-clause-reads : goal.invariant_of-self-2-clause-reads
invariant_of-self-2-clause-reads c =
    reads_wrote (content c.args.self.now.contents) (content c.write_at.new.self) _ _ c.args.area c.args.at c.args.bytes.now true c.args.self.now.reads c.add_write-2.ensures.added c.write_at.ensures.this c.write_at.ensures.that

pub invariant_of-self-2-clause-small : goal.invariant_of-self-2-clause-small
invariant_of-self-2-clause-small c =
    let inside : c.args.at ≤ length (content c.args.self.now.contents c.args.area) = omega (arith, c.requires, ap length (c.args.self.now.reads c.args.area)) in
    let long = length-overwritten_le (content c.args.self.now.contents c.args.area) c.args.bytes.now c.args.at _ inside (c.args.self.now.small c.args.area) in
    small_on (content c.args.self.now.contents) (content c.write_at.new.self) c.args.area _ _ c.args.self.now.small (omega (arith, c.add_write-2.ensures.more))
    (omega (arith, ap length c.write_at.ensures.this, long, c.add_write-2.ensures.more)) c.write_at.ensures.that

pub returns-clause-told : goal.returns-clause-told
returns-clause-told c = step_write {E = Failed} c.args.area c.args.at c.args.bytes.now true (Ok tt) _ _ c.add_write-2.ensures.added refl

pub returns-then-bytes-spare-clause-tells : goal.returns-then-bytes-spare-clause-tells
returns-then-bytes-spare-clause-tells c =
    tells_refused (IsRefused c.args.self.now (length c.args.bytes.now)) (Wrote c.args.area c.args.at c.args.bytes.now) (Err c.fail-then-bytes-spare.result) _ _ (inr (omega arith)) c.add.ensures.added

pub returns-then-is_to_fail-clause-tells : goal.returns-then-is_to_fail-clause-tells
returns-then-is_to_fail-clause-tells c =
    tells_begun (IsRefused c.args.self.now (length c.args.bytes.now)) (Wrote c.args.area c.args.at c.args.bytes.now) (Err c.fail-then-is_to_fail.result) _ _ (grind (arith, c.if-is_past.ensures.past)) c.add_write.ensures.added

pub returns-clause-tells : goal.returns-clause-tells
returns-clause-tells c =
    tells_begun {E = Failed} (IsRefused c.args.self.now (length c.args.bytes.now)) (Wrote c.args.area c.args.at c.args.bytes.now) (Ok tt) _ _ (grind (arith, c.if-is_past.ensures.past)) c.add_write-2.ensures.added
