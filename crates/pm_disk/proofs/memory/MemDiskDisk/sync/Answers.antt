use Rattle.std.proofs.Common.{Bool, [], ◌∷◌, ◌++◌, Ok, Err, not, ap, ◌∙◌, arith}
use Rattle.pm_outside.specs.declared.outside.Failed.{Failed}
use Rattle.pm_disk.specs.Contents.{content}
use Rattle.pm_disk.proofs.MadeLemmas.{tells_begun, reads_synced, step_sync, small_same}
use Rattle.pm_disk.specs.Made.{Synced}
use Rattle.pm_disk.specs.Record.{made}
use Rattle.pm_disk.specs.Memory.{IsFull}
use Rattle.pm_disk.proofs.memory.MemDiskDisk.sync.Goals as goal

pub invariant_of-self-then-not-done-clause-reads : goal.invariant_of-self-then-not-done-clause-reads
invariant_of-self-then-not-done-clause-reads c = reads_synced (content c.args.self.now.contents) _ _ c.args.area _ c.args.self.now.reads c.add.ensures.added

pub invariant_of-self-then-not-done-clause-small : goal.invariant_of-self-then-not-done-clause-small
invariant_of-self-then-not-done-clause-small c = small_same (content c.args.self.now.contents) _ _ c.args.self.now.small (omega (arith, c.add.ensures.same))

pub invariant_of-self-else-not-done-clause-reads : goal.invariant_of-self-else-not-done-clause-reads
invariant_of-self-else-not-done-clause-reads c = reads_synced (content c.args.self.now.contents) _ _ c.args.area _ c.args.self.now.reads c.add.ensures.added

pub invariant_of-self-else-not-done-clause-small : goal.invariant_of-self-else-not-done-clause-small
invariant_of-self-else-not-done-clause-small c = small_same (content c.args.self.now.contents) _ _ c.args.self.now.small (omega (arith, c.add.ensures.same))

pub returns-then-not-done-clause-told : goal.returns-then-not-done-clause-told
returns-then-not-done-clause-told c = step_sync c.args.area _ (Err c.fail-then-not-done.result) _ _ c.add.ensures.added tt (ap not c.if-not-done.true)

pub returns-clause-told : goal.returns-clause-told
returns-clause-told c = step_sync {E = Failed} c.args.area _ (Ok tt) _ _ c.add.ensures.added (ap not c.if-not-done.false) tt

pub returns-then-not-done-clause-tells : goal.returns-then-not-done-clause-tells
returns-then-not-done-clause-tells c = tells_begun (IsFull c.args.self.now) (Synced c.args.area) (Err c.fail-then-not-done.result) _ _ (grind (arith, c.if-is_past.ensures.past)) (c.add.ensures.added ∙ ap (λ (b : Bool). made c.args.self.now.calls ++ Synced c.args.area b ∷ []) (ap not c.if-not-done.true))

pub returns-clause-tells : goal.returns-clause-tells
returns-clause-tells c = tells_begun {E = Failed} (IsFull c.args.self.now) (Synced c.args.area) (Ok tt) _ _ (grind (arith, c.if-is_past.ensures.past)) (c.add.ensures.added ∙ ap (λ (b : Bool). made c.args.self.now.calls ++ Synced c.args.area b ∷ []) (ap not c.if-not-done.false))
