use Rattle.pm_http.proofs.StepLemmas.{parsed, ends-Whole, ends-Crowded, ends-Never, ends-Long, goes_on}
use Rattle.pm_http.proofs.AnswerLemmas.{answered-Crowded, answered-Long}
use Rattle.pm_http.proofs.head_end.in_between.Goals as goal

pub returns-in-Whole-clause-steps : goal.returns-in-Whole-clause-steps
returns-in-Whole-clause-steps c =
    let sight = rw (c.in-Whole.is, c.front.ensures.value) at c.look.ensures in
    λ all left piece going g. (g.split, ends-Whole all c.args.head.now left c.look.new.fields c.in-Whole.spans piece going g sight)

pub returns-in-Whole-clause-shows : goal.returns-in-Whole-clause-shows
returns-in-Whole-clause-shows c =
    let sight = rw (c.in-Whole.is, c.front.ensures.value) at c.look.ensures in
    parsed c.args.head.now c.look.new.fields c.in-Whole.spans sight

pub returns-in-Crowded-clause-steps : goal.returns-in-Crowded-clause-steps
returns-in-Crowded-clause-steps c =
    let sight = rw (c.in-Crowded.is, c.front.ensures.value) at c.look.ensures in
    λ all left piece going g. (g.split, ends-Crowded all c.args.head.now left c.look.new.fields piece g sight)

pub returns-in-Never-clause-steps : goal.returns-in-Never-clause-steps
returns-in-Never-clause-steps c =
    let sight = rw (c.in-Never.is, c.front.ensures.value) at c.look.ensures in
    λ all left piece going g. (g.split, ends-Never all c.args.head.now left c.look.new.fields piece g sight)

pub returns-in-Crowded-clause-shows : goal.returns-in-Crowded-clause-shows
returns-in-Crowded-clause-shows c =
    let sight = rw (c.in-Crowded.is, c.front.ensures.value) at c.look.ensures in
    answered-Crowded c.args.head.now sight.0 sight.1 sight.2 sight.3

pub returns-in-More-2-clause-shows : goal.returns-in-More-2-clause-shows
returns-in-More-2-clause-shows c =
    let sight = rw (c.in-More-2.is, c.front.ensures.value) at c.look.ensures in
    answered-Long c.args.head.now c.if-head-lt-MOST_HEAD.false sight.none

pub returns-in-More-clause-steps : goal.returns-in-More-clause-steps
returns-in-More-clause-steps c =
    let sight = rw (c.in-More.is, c.front.ensures.value) at c.look.ensures in
    λ all left piece going g. goes_on all c.args.head.now left c.look.new.fields piece g c.if-head-lt-MOST_HEAD.true sight

pub returns-in-More-2-clause-steps : goal.returns-in-More-2-clause-steps
returns-in-More-2-clause-steps c =
    let sight = rw (c.in-More-2.is, c.front.ensures.value) at c.look.ensures in
    λ all left piece going g. (g.split, ends-Long all c.args.head.now left c.look.new.fields piece g c.if-head-lt-MOST_HEAD.false sight)
