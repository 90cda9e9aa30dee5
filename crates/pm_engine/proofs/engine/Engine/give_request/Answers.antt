use Rattle.std.proofs.Common.{refl, subst}
use Rattle.pm_base.specs.declared.code.Code.TheVariants.{H5}
use Rattle.pm_state.specs.Given.{gives_refusal}
use Rattle.pm_state.specs.Step.{not_allowed, IsRouteGiven}
use Rattle.pm_engine.specs.Giving.{GivesBy}
use Rattle.pm_engine.specs.Turn.{Gives}
use Rattle.pm_engine.specs.Wish.{IsWishGiven}
use Rattle.pm_engine.proofs.BearsLemmas.{meanwhile-rests, meanwhile-map, gives-map, if-ok}
use Rattle.pm_engine.proofs.engine.Engine.give_request.Goals as goal

pub returns-in-Err-H5-clause-any_moment : goal.returns-in-Err-H5-clause-any_moment
returns-in-Err-H5-clause-any_moment g c = λ told h cursors bears.
    let self = c.args.self.now in
    meanwhile-rests _ self.state.inventory self.ledger (g.D.Disk.told c.args.disk.now) h c.requires.usable.ready (bears.store told) bears.stands.history

pub returns-in-Err-H6-clause-any_moment : goal.returns-in-Err-H6-clause-any_moment
returns-in-Err-H6-clause-any_moment g c = λ told h cursors bears.
    let self = c.args.self.now in
    meanwhile-rests _ self.state.inventory self.ledger (g.D.Disk.told c.args.disk.now) h c.requires.usable.ready (bears.store told) bears.stands.history

pub returns-in-Err-Memory-clause-any_moment : goal.returns-in-Err-Memory-clause-any_moment
returns-in-Err-Memory-clause-any_moment g c = λ told h cursors bears.
    let self = c.args.self.now in
    meanwhile-rests _ self.state.inventory self.ledger (g.D.Disk.told c.args.disk.now) h c.requires.usable.ready (bears.store told) bears.stands.history

pub returns-in-Err-H5-clause-gives : goal.returns-in-Err-H5-clause-gives
returns-in-Err-H5-clause-gives g c = λ h cursors bears. record {
  given = gives_refusal H5;
  next = cursors;
  is = (_, c.route.ensures, rw (c.in-Err-H5.is, c.in-Err-H5.field-0-is) (refl, refl));
  reply_is = c.refused.ensures;
  bears = record { stands = bears.stands; served = bears.served; store = bears.store };
}

pub returns-in-Err-H6-clause-gives : goal.returns-in-Err-H6-clause-gives
returns-in-Err-H6-clause-gives g c = λ h cursors bears. record {
  given = not_allowed c.in-Err-H6.allow;
  next = cursors;
  is = (_, c.route.ensures, rw (c.in-Err-H6.is, c.in-Err-H6.field-0-is) (refl, refl));
  reply_is = c.not_allowed.ensures;
  bears = record { stands = bears.stands; served = bears.served; store = bears.store };
}

pub returns-in-Ok-clause-gives : goal.returns-in-Ok-clause-gives
returns-in-Ok-clause-gives g c = λ h cursors bears.
    let inventory = c.args.self.now.state.inventory in
    let told = g.D.Disk.told c.give.new.disk in
    let request = c.args.request.now in
    let wish = c.wish_of.result in
    if-ok (GivesBy (IsWishGiven inventory h cursors wish) g.D.Disk.IsTold c.give.new.self told h cursors)
    (GivesBy (Gives inventory h cursors request) g.D.Disk.IsTold c.give.new.self told h cursors)
    c.give.result
    (λ o gives.
    gives-map (IsWishGiven inventory h cursors wish) (Gives inventory h cursors request) g.D.Disk.IsTold c.give.new.self told h cursors o
    (λ given next is. (
      _,
      c.route.ensures,
      rw (c.in-Ok.is, c.in-Ok.route-is)
          (subst (λ b. IsRouteGiven inventory h cursors c.in-Ok.route b given next) c.as_bytes.ensures (c.wish_of.ensures.given inventory h cursors given next is)),
    ))
    gives)
    (c.give.ensures.gives h cursors bears)

pub returns-in-Ok-clause-any_moment : goal.returns-in-Ok-clause-any_moment
returns-in-Ok-clause-any_moment g c = λ t h cursors bears.
    let inventory = c.args.self.now.state.inventory in
    let request = c.args.request.now in
    let wish = c.wish_of.result in
    meanwhile-map (IsWishGiven inventory h cursors wish) (Gives inventory h cursors request) inventory (g.D.Disk.told c.args.disk.now) (g.D.Disk.told c.give.new.disk) h
    (λ given next is. (
      _,
      c.route.ensures,
      rw (c.in-Ok.is, c.in-Ok.route-is)
          (subst (λ b. IsRouteGiven inventory h cursors c.in-Ok.route b given next) c.as_bytes.ensures (c.wish_of.ensures.given inventory h cursors given next is)),
    ))
    (c.give.ensures.any_moment t h cursors bears)
