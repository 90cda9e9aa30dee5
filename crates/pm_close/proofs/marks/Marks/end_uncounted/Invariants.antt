use Rattle.std.proofs.Common.{◌≡◌, ◌≤◌, ◌<◌, ◌+◌, ℕ, List}
use Rattle.pm_history.specs.declared.entry.Side.{Side}
use Rattle.pm_history.specs.History.{History}
use Rattle.pm_history.specs.Terms.{Terms}
use Rattle.pm_history.specs.Standing.{Making}
use Rattle.pm_close.specs.Marks.{NoneCounted, NoneMarkedBefore, MarksStand}
use Rattle.pm_close.proofs.marks.Marks.end_uncounted.Given as goal

abbrev pub invariant-loop-t : goal.invariant-loop-t
invariant-loop-t l = record {
  reach : l.self.begin + l.self.count ≡ l._t;
  within : l.self.count < l.granularity;
  from : l.fn.self.begin + l.fn.self.count ≤ l._t;
  unmarked : (first : ℕ) → NoneMarkedBefore first l.fn.self → NoneMarkedBefore first l.self;
  stand : (terms : Side → List ℕ → Terms) (h : History) (w : Making) (from : ℕ)
      → MarksStand terms h w l.granularity from l.fn.self → NoneCounted terms h w from l.tick
      → MarksStand terms h w l.granularity l._t l.self;
}
