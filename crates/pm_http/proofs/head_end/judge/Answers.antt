use Rattle.pm_http.specs.declared.piece.Piece.TheVariants.{Line, Part}
use Rattle.pm_http.proofs.StepLemmas.{no_head-Line, no_head-Part}
use Rattle.pm_http.proofs.head_end.judge.Goals as goal

pub returns-in-Line-clause-steps : goal.returns-in-Line-clause-steps
returns-in-Line-clause-steps c = λ all left begun g. c.in_between.ensures.steps all left Line (λ last. last) (rw c.in-Line.is at g)

pub returns-in-Line-2-clause-steps : goal.returns-in-Line-2-clause-steps
returns-in-Line-2-clause-steps c = λ all left begun g.
    let grows = rw c.in-Line-2.is at g in
    let none = no_head-Line all c.args.head.now left c.args.begun grows begun (c.may_end.ensures c.if-may_end.false) in
    c.unended.ensures.steps all left Line (λ last. last) none grows

pub returns-in-Part-clause-steps : goal.returns-in-Part-clause-steps
returns-in-Part-clause-steps c = λ all left begun g.
    let grows = rw c.in-Part.is at g in
    c.unended-in-Part.ensures.steps all left Part (λ last. last) (no_head-Part all c.args.head.now left grows).none grows

pub returns-in-Limit-clause-stands : goal.returns-in-Limit-clause-stands
returns-in-Limit-clause-stands c = λ given stands. c.at_limit.ensures.stands given (rw c.in-Limit.is at stands)

pub returns-in-Line-clause-stands : goal.returns-in-Line-clause-stands
returns-in-Line-clause-stands c = λ given stands. c.in_between.ensures.stands given (rw c.in-Line.is at stands)

pub returns-in-Line-2-clause-stands : goal.returns-in-Line-2-clause-stands
returns-in-Line-2-clause-stands c = λ given stands. c.unended.ensures.stands given (rw c.in-Line-2.is at stands)

pub returns-in-Part-clause-stands : goal.returns-in-Part-clause-stands
returns-in-Part-clause-stands c = λ given stands. c.unended-in-Part.ensures.stands given (rw c.in-Part.is at stands)
