use Rattle.std.proofs.Common.{◌≡◌, ◌+◌, ◌-◌, ◌*◌, ◌<◌, ◌⊎◌, true, false, cond, length}
use Rattle.pm_base.specs.Lines.{HasNoLine}
use Rattle.pm_outside.specs.Feed.{left_to, KnowsEnd}
use Rattle.pm_outside.specs.declared.feed.TheConstants.{MOST_READ}
use Rattle.pm_outside.proofs.feed.Feed.line.Given as goal

abbrev pub invariant-reads : goal.invariant-reads
invariant-reads g l = record {
  counted : g.S.Source.faults l.source ≡ g.S.Source.faults l.initial.source;
  given : l.self.given ≡ l.initial.self.given;
  stays : g.S.Source.IsTold → left_to l.self (g.S.Source.left l.source) ≡ left_to l.initial.self (g.S.Source.left l.initial.source);
  knows_end : g.S.Source.IsTold → KnowsEnd l.self (g.S.Source.left l.source);
  ended : l.initial.self.ended ≡ true → l.self.ended ≡ true;
  wanted : (l.self ≡ l.initial.self) ⊎ (HasNoLine l.initial.self.buffered × (l.initial.self.ended ≡ false));
  before_limit : l.self.ended ≡ true → (l.initial.self.ended ≡ true) ⊎ (l.self.given + length l.self.buffered < MOST_READ);
}

abbrev pub decreases-reads : goal.decreases-reads
decreases-reads g l = 2 * (2049 - length l.self.buffered) + cond l.self.ended 0 1
