use Rattle.pm_state.specs.Opening.{entered}
use Rattle.pm_engine.specs.Turn.{reached}
use Rattle.pm_engine.proofs.TurnLemmas.{told-during, entering, giving, has-reached, unreached, turned}
use Rattle.pm_engine.proofs.engine.Engine.answer.Goals as goal

pub returns-in_err-reach-clause-any_moment : goal.returns-in_err-reach-clause-any_moment
returns-in_err-reach-clause-any_moment g c = λ told run carries.
    told-during _ c.args.moment c.args.request.now run _ _
    (entering _ c.args.moment c.args.request.now run _ _ carries.settled (c.reach.ensures.any_moment told run.history run.cursors carries.bears))

pub returns-then-not-branch-clause-any_moment : goal.returns-then-not-branch-clause-any_moment
returns-then-not-branch-clause-any_moment g c = λ told run carries.
    told-during _ c.args.moment c.args.request.now run _ _
    (entering _ c.args.moment c.args.request.now run _ _ carries.settled (c.reach.ensures.any_moment told run.history run.cursors carries.bears))

pub returns-in_err-reply-clause-any_moment : goal.returns-in_err-reply-clause-any_moment
returns-in_err-reply-clause-any_moment g c = λ told run carries.
    let m = c.args.moment in
    let there = has-reached g.D.Disk.IsTold _ _ run.history run.cursors m c.in_ok-reach.field-0 c.if-not-branch.false (c.in_ok-reach.ensures.reaches run.history run.cursors carries.bears) in
    told-during _ m c.args.request.now run _ _
    (giving _ _ m c.args.request.now run _ _ _ carries.settled carries.bears.stands.history c.reach.ensures.inventory
    (c.reach.ensures.any_moment told run.history run.cursors carries.bears) (c.give_request.ensures.any_moment told (entered run.history m) run.cursors there.0))

pub returns-clause-any_moment : goal.returns-clause-any_moment
returns-clause-any_moment g c = λ told run carries.
    let m = c.args.moment in
    let there = has-reached g.D.Disk.IsTold _ _ run.history run.cursors m c.in_ok-reach.field-0 c.if-not-branch.false (c.in_ok-reach.ensures.reaches run.history run.cursors carries.bears) in
    told-during _ m c.args.request.now run _ _
    (giving _ _ m c.args.request.now run _ _ _ carries.settled carries.bears.stands.history c.reach.ensures.inventory
    (c.reach.ensures.any_moment told run.history run.cursors carries.bears) (c.give_request.ensures.any_moment told (entered run.history m) run.cursors there.0))

pub returns-clause-turn : goal.returns-clause-turn
returns-clause-turn g c = λ run carries.
    let m = c.args.moment in
    let there = has-reached g.D.Disk.IsTold _ _ run.history run.cursors m c.in_ok-reach.field-0 c.if-not-branch.false (c.in_ok-reach.ensures.reaches run.history run.cursors carries.bears) in
    turned g.D.Disk.IsTold _ _ _ _ m c.args.request.now run c.in_ok-reply.reply c.finished-2.result c.reach.ensures.inventory
    (c.in_ok-reply.ensures.gives (entered run.history m) run.cursors there.0) (c.in_ok-reply.ensures.gives (reached run.history m) run.cursors there.1) c.finished-2.ensures

pub returns-then-not-branch-clause-turn : goal.returns-then-not-branch-clause-turn
returns-then-not-branch-clause-turn g c = λ run carries.
    unreached g.D.Disk.IsTold _ _ _ c.args.moment c.args.request.now run c.in_ok-reach.field-0 _ c.if-not-branch.true (c.in_ok-reach.ensures.reaches run.history run.cursors carries.bears)
    c.finished.ensures
