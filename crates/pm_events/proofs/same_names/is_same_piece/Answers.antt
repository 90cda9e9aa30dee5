use Rattle.pm_events.proofs.SameNamesLemmas.{same-lanes, whole-same}
use Rattle.pm_events.proofs.same_names.is_same_piece.Goals as goal

pub returns-clause-same : goal.returns-clause-same
returns-clause-same c = λ is k from to. same-lanes c.args.a.now c.args.b.now c.args.at k c.requires.left c.requires.right is from to

pub returns-clause-whole : goal.returns-clause-whole
returns-clause-whole c = λ same. whole-same c.args.a.now c.args.b.now c.args.at same
