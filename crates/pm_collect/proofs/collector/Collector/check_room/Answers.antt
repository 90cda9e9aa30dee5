use Rattle.std.proofs.Common.{arith}
use Rattle.pm_collect.proofs.collector.Collector.check_room.Goals as goal

pub overflow_add-need-3 : goal.overflow_add-need-3
overflow_add-need-3 c =
    let small = c.args.self.now.journal.small in
    let within = c.args.self.now.journal.in_limit in
    grind (arith, small, within, c.length-length.ensures, c.requires.short)
