use Rattle.std.proofs.Common.{sym, subst}
use Rattle.pm_inventory.specs.Inventory.{slots}
use Rattle.pm_close.specs.Closer.{AreCurrent}
use Rattle.pm_state.proofs.ClosingLemmas.{current, small, closing-same}
use Rattle.pm_state.proofs.state.State.end.Goals as goal

pub end-requires-clause-small : goal.end-requires-clause-small
end-requires-clause-small c = small c.cells.result.now c.cells.ensures.small

pub returns-clause-stays : goal.returns-clause-stays
returns-clause-stays c = λ h stands.
    let self = c.args.self.now in
    record {
      history = stands.history;
      begun = stands.begun;
      last = stands.last;
      jobs = stands.jobs;
      subs = stands.subs;
      events = stands.events;
      only = stands.only;
      closing = closing-same self.inventory self.jobs h self.closing c.end.new.self c.end.ensures.closer c.end.ensures.files c.end.ensures.notices stands.closing;
    }

pub returns-clause-end : goal.returns-clause-end
returns-clause-end c = λ h stands is.
    let self = c.args.self.now in
    c.end.ensures.end h stands.closing stands.jobs is
    (subst (AreCurrent (slots self.inventory) h) (sym c.cells.ensures.cells) (current self.inventory h self.events stands.history stands.events))
