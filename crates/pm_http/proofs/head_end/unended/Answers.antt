use Rattle.pm_http.proofs.head_end.unended.Goals as goal

pub returns-then-head-lt-MOST_HEAD-clause-steps : goal.returns-then-head-lt-MOST_HEAD-clause-steps
returns-then-head-lt-MOST_HEAD-clause-steps c = λ all left piece going none g. record { split = g.split; none = none }

pub returns-clause-steps : goal.returns-clause-steps
returns-clause-steps c = λ all left piece going none g. c.in_between.ensures.steps all left piece going g
