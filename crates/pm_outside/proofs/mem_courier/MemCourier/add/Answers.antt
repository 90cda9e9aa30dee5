use Rattle.std.proofs.Common.{rules}
use Rattle.pm_outside.proofs.CourierLemmas.{posts-added, placed-added}
use Rattle.pm_outside.proofs.mem_courier.MemCourier.add.Goals as goal

pub invariant_of-self-clause-placed : goal.invariant_of-self-clause-placed
invariant_of-self-clause-placed c =
    placed-added c.args.port c.args.self.now.bytes.items c.args.path.now c.args.body.now c.extend_from_slice-2.new.self.items
    c.args.self.now.marks.items c.push.new.self.items (search rules) (search rules) (search rules)

pub returns-clause-made : goal.returns-clause-made
returns-clause-made c =
    posts-added c.args.port c.args.self.now.bytes.items c.args.path.now c.args.body.now c.extend_from_slice-2.new.self.items
    c.args.self.now.marks.items c.push.new.self.items (search rules) (search rules) (search rules)
