use Rattle.std.proofs.Common.{refl}
use Rattle.pm_tally.proofs.CountingLemmas.{small_seen, not_yet}
use Rattle.pm_tally.proofs.slot_count.SlotCount.count.Goals as goal

pub returns-then-seen-self : goal.returns-then-seen-self
returns-then-seen-self c = record {
  registers_each = refl;
  seen = small_seen c.args.self.now.seen c.args.self.now.registers_each c.if-seen-self.true;
  registered = not_yet c.args.self.now.seen c.args.self.now.registers_each c.if-seen-self.true;
  cell = refl;
}
