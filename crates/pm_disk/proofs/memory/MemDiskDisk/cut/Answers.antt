use Rattle.std.proofs.Common.{Ok, Err, false, true, refl, arith, length, length-take, ap}
use Rattle.pm_outside.specs.declared.outside.Failed.{Failed}
use Rattle.pm_disk.specs.Contents.{content}
use Rattle.pm_disk.proofs.MadeLemmas.{tells_begun, reads_cut, small_on, small_same, step_cut}
use Rattle.pm_disk.specs.Made.{CutTo}
use Rattle.pm_disk.specs.Memory.{IsFull}
use Rattle.pm_disk.proofs.memory.MemDiskDisk.cut.Goals as goal

pub invariant_of-self-then-is_to_fail-clause-reads : goal.invariant_of-self-then-is_to_fail-clause-reads
invariant_of-self-then-is_to_fail-clause-reads c = reads_cut (content c.args.self.now.contents) (content c.args.self.now.contents) _ _ c.args.area c.args.to false c.args.self.now.reads c.add.ensures.added refl refl

pub returns-then-is_to_fail-clause-told : goal.returns-then-is_to_fail-clause-told
returns-then-is_to_fail-clause-told c = step_cut c.args.area c.args.to false (Err c.fail-then-is_to_fail.result) _ _ c.add.ensures.added tt

pub invariant_of-self-then-is_to_fail-clause-small : goal.invariant_of-self-then-is_to_fail-clause-small
invariant_of-self-then-is_to_fail-clause-small c = small_same (content c.args.self.now.contents) _ _ c.args.self.now.small (omega (arith, c.add.ensures.same))

pub invariant_of-self-2-clause-reads : goal.invariant_of-self-2-clause-reads
invariant_of-self-2-clause-reads c = reads_cut (content c.args.self.now.contents) (content c.cut.new.self) _ _ c.args.area c.args.to true c.args.self.now.reads c.add-2.ensures.added c.cut.ensures.this c.cut.ensures.that

pub invariant_of-self-2-clause-small : goal.invariant_of-self-2-clause-small
invariant_of-self-2-clause-small c =
    small_on (content c.args.self.now.contents) (content c.cut.new.self) c.args.area _ _ c.args.self.now.small (omega (arith, c.add-2.ensures.same))
    (omega (arith, ap length c.cut.ensures.this, length-take c.args.to (content c.args.self.now.contents c.args.area), c.args.self.now.small c.args.area, c.add-2.ensures.same)) c.cut.ensures.that

pub returns-clause-told : goal.returns-clause-told
returns-clause-told c = step_cut {E = Failed} c.args.area c.args.to true (Ok tt) _ _ c.add-2.ensures.added refl

pub returns-then-is_to_fail-clause-tells : goal.returns-then-is_to_fail-clause-tells
returns-then-is_to_fail-clause-tells c = tells_begun (IsFull c.args.self.now) (CutTo c.args.area c.args.to) (Err c.fail-then-is_to_fail.result) _ _ (grind (arith, c.if-is_past.ensures.past)) c.add.ensures.added

pub returns-clause-tells : goal.returns-clause-tells
returns-clause-tells c = tells_begun {E = Failed} (IsFull c.args.self.now) (CutTo c.args.area c.args.to) (Ok tt) _ _ (grind (arith, c.if-is_past.ensures.past)) c.add-2.ensures.added
