use Rattle.pm_collect.proofs.NamesLemmas.{one_added, place_added}
use Rattle.pm_collect.proofs.names.add_held.Goals as goal
use Rattle.pm_collect.proofs.names.add_held.Goals.{in-Ok-insert, in-Err}

pub returns-clause-more : goal.returns-clause-more
returns-clause-more c = elim c.match-insert.branch [
  | in-Ok-insert w ↦
      rw w.result-is
      (one_added c.args.held.now c.insert.new.self c.in-Ok.key c.args.name.now c.args.place c.in-Ok.ensures.items w.in-Ok-insert.ensures.updates)
  | in-Err w ↦ rw w.result-is tt
]

pub returns-clause-placed : goal.returns-clause-placed
returns-clause-placed c = elim c.match-insert.branch [
  | in-Ok-insert w ↦
      rw w.result-is
      (place_added c.args.held.now c.insert.new.self c.in-Ok.key c.args.name.now c.args.place c.in-Ok.ensures.items w.in-Ok-insert.ensures.updates)
  | in-Err w ↦ rw w.result-is tt
]
