use Rattle.std.proofs.Common.{refl, sym, subst, List}
use Rattle.pm_tally.specs.Counting.{AreClear}
use Rattle.pm_tally.specs.declared.slot_count.SlotCount.{SlotCount}
use Rattle.pm_tally.proofs.CountingLemmas.{counts-later, put_back}
use Rattle.pm_tally.proofs.counting.Counting.begin.Goals as goal

pub returns-clause-counted : goal.returns-clause-counted
returns-clause-counted c = λ slots events counts.
    let old = c.args.self.now.counts.items in
    let clear : AreClear old c.clear.new.counts = subst (λ (l : List SlotCount). AreClear l c.clear.new.counts) c.as_mut_slice.ensures.value c.clear.ensures in
    counts-later slots events c.args.event.now c.count.ensures.count c.args.self.now _ c.count.new.self counts c.requires.later refl
    (subst (AreClear old) (sym (put_back old c.clear.new.counts c.args.self.now.counts.len clear.many c.args.self.now.counts.ok.0)) clear) c.requires.slot c.count.ensures
