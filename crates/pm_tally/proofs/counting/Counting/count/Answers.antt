use Rattle.std.proofs.Common.{refl, ◌∙◌, subst}
use Rattle.pm_tally.specs.Counting.{IsStep}
use Rattle.pm_tally.specs.declared.slot_count.SlotCount.{SlotCount}
use Rattle.pm_tally.proofs.CountingLemmas.{get_or-any}
use Rattle.pm_tally.proofs.counting.Counting.count.Goals as goal

pub returns : goal.returns
returns c =
    let at = c.index_mut.result.now in
    let counts = c.args.self.now.counts.items in
    let slot = c.args.event.now.slot in record {
      count = c.count-is_registered.new.self;
      is = c.count-is_registered.result;
      counts = refl;
      step = λ d.
          subst (λ (old : SlotCount). IsStep old c.args.event.now.value c.count-is_registered.new.self c.count-is_registered.result)
          (c.index_mut.ensures.value ∙ get_or-any counts slot at d c.requires.slot) c.count-is_registered.ensures;
      registered = c.one_more-self.ensures;
      moment = refl;
    }
