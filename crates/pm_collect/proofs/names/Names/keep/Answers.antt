use Rattle.pm_collect.proofs.NamesLemmas.{makes_kept, stays_unwanted}
use Rattle.pm_collect.proofs.names.Names.keep.Goals as goal

pub returns-clause-kept : goal.returns-clause-kept
returns-clause-kept c = makes_kept _ _ c.args.name.now c.in_ok-add_held.ensures.more c.remove.ensures.updates

pub returns-clause-wanted : goal.returns-clause-wanted
returns-clause-wanted c = stays_unwanted c.args.self.now.wanted c.remove.new.self c.args.name.now c.remove.ensures.updates
