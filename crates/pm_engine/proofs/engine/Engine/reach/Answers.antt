use Rattle.std.proofs.Common.{◌≤◌, ◌<◌, Bool, sym, subst, arith, if◌then◌else◌}
use Rattle.pm_state.specs.Opening.{opening, entered}
use Rattle.pm_engine.specs.Giving.{Reaches}
use Rattle.pm_engine.specs.Bears.{Bears}
use Rattle.pm_engine.proofs.BearsLemmas.{rests-one, passes, reached-before, reaches, if-ok}
use Rattle.pm_engine.proofs.engine.Engine.reach.Goals as goal

pub returns-then-moment-last-clause-any_moment : goal.returns-then-moment-last-clause-any_moment
returns-then-moment-last-clause-any_moment g c = λ told h cursors bears.
    let self = c.args.self.now in
    rests-one self.state.inventory self.ledger (g.D.Disk.told c.args.disk.now) h (opening h c.args.moment) c.requires.usable.ready (bears.store told) bears.stands.history

pub returns-then-moment-last-clause-reaches : goal.returns-then-moment-last-clause-reaches
returns-then-moment-last-clause-reaches g c = λ h cursors bears.
    let self = c.args.self.now in
    let told = g.D.Disk.told c.args.disk.now in
    let le : c.args.moment ≤ self.state.last = omega (arith, c.if-moment-last.true, c.last.ensures) in (
      passes g.D.Disk.IsTold self told h cursors c.args.moment le c.requires.moment bears,
      subst (λ k. Bears g.D.Disk.IsTold self told k cursors) (sym (reached-before h c.args.moment self.state.last bears.stands.last le)) bears,
    )

pub returns-clause-reaches : goal.returns-clause-reaches
returns-clause-reaches g c = λ h cursors bears.
    let told = g.D.Disk.told c.advance.new.disk in
    let m = c.args.moment in
    let last = c.args.self.now.state.last in
    let lt : last < m = omega (arith, c.if-moment-last.false, c.last.ensures) in
    if-ok (λ (done : Bool). Bears g.D.Disk.IsTold c.advance.new.self told (if done then entered h m else h) cursors)
    (Reaches g.D.Disk.IsTold c.advance.new.self told h cursors m) c.advance.result
    (λ done b. reaches g.D.Disk.IsTold c.advance.new.self told h cursors m last done bears.stands.last lt b) (c.advance.ensures.entered h cursors bears)
