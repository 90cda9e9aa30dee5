use Rattle.std.proofs.Common.{◌≡◌, ℕ, take, cond}
use Rattle.pm_base.specs.Moment.{tick_of}
use Rattle.pm_history.specs.History.{history_of, first_cut, is_cut}
use Rattle.pm_slow.proofs.history.is_cut.Given as goal

abbrev pub invariant-loop-entry : goal.invariant-loop-entry
invariant-loop-entry l = record {
  cut : l.cut ≡ is_cut (history_of (take l.entry-index l.history)) l.at;
  first : (m : ℕ) → first_cut (history_of (take l.entry-index l.history)) m ≡ cond l.some (tick_of l.last) (tick_of m);
}
