use Rattle.std.proofs.Common.{refl, sym, subst, arith}
use Rattle.pm_history.specs.declared.entry.Entry.TheVariants.{Boot}
use Rattle.pm_history.specs.History.{Start, ◌▷◌}
use Rattle.pm_inventory.specs.Inventory.{slots}
use Rattle.pm_jobs.specs.Stands.{Stands}
use Rattle.pm_close.specs.Closer.{AreCurrent}
use Rattle.pm_state.proofs.ClosingLemmas.{current, small}
use Rattle.pm_state.proofs.OnlyLemmas.{only-ended}
use Rattle.pm_notice.proofs.StandLemmas.{others_stay}
use Rattle.pm_state.proofs.StateLemmas.{first-jobs}
use Rattle.pm_state.proofs.SubsLemmas.{served}
use Rattle.pm_state.proofs.state.State.new.Goals as goal

pub returns-clause-stands : goal.returns-clause-stands
returns-clause-stands c =
    let inventory = c.args.inventory in
    let made = c.in_ok-events.ensures in
    record {
      history = (tt, record { moment = c.requires; value = omega arith; later = omega arith; beside = λ no. absurd (cc (no)) });
      begun = omega arith;
      last = refl;
      jobs = subst (λ j. Stands inventory j (Start ▷ Boot c.args.moment)) (sym c.new-jobs.ensures.none) (first-jobs inventory c.args.moment);
      subs = served _ (Start ▷ Boot c.args.moment) _ (others_stay _ Start _ (Boot c.args.moment) tt c.new-subs.ensures.begins);
      events = c.clear.ensures.stands inventory Start (Boot c.args.moment) (record { slots = made.slots; tick = made.tick.made }) refl;
      only = only-ended inventory Start (Boot c.args.moment) refl;
      closing =
          c.in_ok-closing.ensures.stands
          (subst (AreCurrent (slots inventory) Start) (sym c.cells.ensures.cells) (current inventory Start c.in_ok-events.events tt made));
    }

pub begun-requires-clause-small : goal.begun-requires-clause-small
begun-requires-clause-small c = small c.cells.result.now c.cells.ensures.small
