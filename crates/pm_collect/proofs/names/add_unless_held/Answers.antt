use Rattle.std.proofs.Common.{sym}
use Rattle.pm_collect.proofs.NamesLemmas.{more_free}
use Rattle.pm_collect.proofs.names.add_unless_held.Goals as goal
use Rattle.pm_collect.proofs.names.add_unless_held.Goals.{in-Ok, in-Err}

pub returns-clause-more : goal.returns-clause-more
returns-clause-more c = elim c.match-insert.branch [
  | in-Ok w ↦
      rw w.result-is
      (more_free c.args.held.now c.args.wanted.now c.insert.new.self c.args.name.items (rw c.as_slice.ensures.value at (sym c.if-contains_key.ensures)) w.in-Ok.ensures.updates)
  | in-Err w ↦ rw w.result-is tt
]
