use Rattle.std.proofs.Common.{◌≡◌, ℕ, List, refl, ap, ◌∙◌}
use Rattle.pm_notice.specs.declared.subscriptions.Subscriptions.{Subscriptions}
use Rattle.pm_notice.specs.Planned.{subscriptions_of}
use Rattle.pm_notice.specs.StandFor.{cursors_of}
use Rattle.pm_state.specs.Changes.{change_given, look_given}
use Rattle.pm_state.specs.Given.{Given}
use Rattle.pm_state.specs.SubsGiven.{Leaves}
use Rattle.pm_engine.specs.Giving.{GivesBy}
use Rattle.pm_engine.specs.Wish.{IsWishGiven}
use Rattle.pm_engine.specs.declared.wish.Wish.TheVariants.{Change}
use Rattle.pm_state.specs.Step.{OverJobs}
use Rattle.pm_state.specs.FilesGiven.{IsListGiven, IsFileGiven}
use Rattle.pm_engine.proofs.BearsLemmas.{if-ok, gives-map, meanwhile-map, over-jobs, look-gives, shows-gives, events-gives, meanwhile-rests}
use Rattle.pm_engine.proofs.engine.Engine.give.Goals as goal

pub returns-in-Look-clause-gives : goal.returns-in-Look-clause-gives
returns-in-Look-clause-gives g c = λ h cursors bears.
    let state = c.args.self.now.state in
    rw c.in-Look.is
    (look-gives (OverJobs state.inventory h (λ jobs. look_given jobs c.in-Look.side c.in-Look.id.now)) g.D.Disk.IsTold c.args.self.now
    (g.D.Disk.told c.args.disk.now) h cursors (look_given state.jobs c.in-Look.side c.in-Look.id.now) c.show.result c.unless_no_memory.result (state.jobs, bears.stands.jobs, refl) c.show.ensures
    c.unless_no_memory.ensures bears)

pub returns-in-Look-clause-any_moment : goal.returns-in-Look-clause-any_moment
returns-in-Look-clause-any_moment g c = λ told h cursors bears.
    let self = c.args.self.now in
    meanwhile-rests _ self.state.inventory self.ledger (g.D.Disk.told c.args.disk.now) h c.requires.usable.ready (bears.store told) bears.stands.history

pub returns-in-Events-clause-any_moment : goal.returns-in-Events-clause-any_moment
returns-in-Events-clause-any_moment g c = λ told h cursors bears.
    let self = c.args.self.now in
    meanwhile-rests _ self.state.inventory self.ledger (g.D.Disk.told c.args.disk.now) h c.requires.usable.ready (bears.store told) bears.stands.history

pub returns-in-Events-clause-gives : goal.returns-in-Events-clause-gives
returns-in-Events-clause-gives g c = λ h cursors bears.
    let self = c.args.self.now in
    rw c.in-Events.is
    (events-gives g.D.Disk.IsTold self.state.inventory _ (g.D.Disk.told c.args.disk.now) h cursors c.in-Events.body.now c.take_events.result
    c.unless_no_memory-in-Events.result bears.stands.history bears.stands.begun bears.store c.take_events.ensures.inventory
    (ap (λ (s : Subscriptions). cursors_of (subscriptions_of s)) c.take_events.ensures.subs ∙ bears.served) (c.take_events.ensures.stands h bears.stands) c.unless_no_memory-in-Events.ensures)

pub returns-in-Files-clause-any_moment : goal.returns-in-Files-clause-any_moment
returns-in-Files-clause-any_moment g c = λ told h cursors bears.
    let self = c.args.self.now in
    meanwhile-rests _ self.state.inventory self.ledger (g.D.Disk.told c.args.disk.now) h c.requires.usable.ready (bears.store told) bears.stands.history

pub returns-in-File-clause-any_moment : goal.returns-in-File-clause-any_moment
returns-in-File-clause-any_moment g c = λ told h cursors bears.
    let self = c.args.self.now in
    meanwhile-rests _ self.state.inventory self.ledger (g.D.Disk.told c.args.disk.now) h c.requires.usable.ready (bears.store told) bears.stands.history

pub returns-in-Files-clause-gives : goal.returns-in-Files-clause-gives
returns-in-Files-clause-gives g c = λ h cursors bears.
    rw c.in-Files.is
    (shows-gives (IsListGiven c.args.self.now.state.inventory h c.in-Files.query.now) g.D.Disk.IsTold c.args.self.now (g.D.Disk.told c.args.disk.now) h cursors
    c.list_files.result c.unless_no_memory-in-Files.result (c.list_files.ensures h bears.stands) c.unless_no_memory-in-Files.ensures bears)

pub returns-in-File-clause-gives : goal.returns-in-File-clause-gives
returns-in-File-clause-gives g c = λ h cursors bears.
    rw c.in-File.is
    (shows-gives (IsFileGiven c.args.self.now.state.inventory h c.in-File.name.now) g.D.Disk.IsTold c.args.self.now (g.D.Disk.told c.args.disk.now) h cursors
    c.show_file.result c.unless_no_memory-in-File.result (c.show_file.ensures h bears.stands) c.unless_no_memory-in-File.ensures bears)

pub returns-in-Change-clause-gives : goal.returns-in-Change-clause-gives
returns-in-Change-clause-gives g c = λ h cursors bears.
    let state = c.args.self.now.state in
    let told = g.D.Disk.told c.change.new.disk in
    let side = c.in-Change.side in
    let ask = c.in-Change.ask in
    let One = λ (given : Given) (next : List ℕ). Leaves cursors next (given ≡ change_given state.inventory state.jobs state.last side ask) in
    let Wished = IsWishGiven state.inventory h cursors (Change side ask) in
    rw c.in-Change.is
    (if-ok (GivesBy One g.D.Disk.IsTold c.change.new.self told h cursors) (GivesBy Wished g.D.Disk.IsTold c.change.new.self told h cursors) c.change.result
    (λ o gives.
    gives-map One Wished g.D.Disk.IsTold c.change.new.self told h cursors o
    (λ given next is. (
      over-jobs state.inventory h (λ jobs last. change_given state.inventory jobs last side ask) state.jobs state.last bears.stands.jobs bears.stands.last given is.0,
      is.1,
    ))
    gives)
    (c.change.ensures.changed h cursors bears))

pub returns-in-Change-clause-any_moment : goal.returns-in-Change-clause-any_moment
returns-in-Change-clause-any_moment g c = λ t h cursors bears.
    let state = c.args.self.now.state in
    let side = c.in-Change.side in
    let ask = c.in-Change.ask in
    let One = λ (given : Given) (next : List ℕ). Leaves cursors next (given ≡ change_given state.inventory state.jobs state.last side ask) in
    rw c.in-Change.is
    (meanwhile-map One (IsWishGiven state.inventory h cursors (Change side ask)) state.inventory (g.D.Disk.told c.args.disk.now) (g.D.Disk.told c.change.new.disk) h
    (λ given next is. (
      over-jobs state.inventory h (λ jobs last. change_given state.inventory jobs last side ask) state.jobs state.last bears.stands.jobs bears.stands.last given is.0,
      is.1,
    ))
    (c.change.ensures.any_moment t h cursors bears))

pub returns-in-Subscribe-clause-gives : goal.returns-in-Subscribe-clause-gives
returns-in-Subscribe-clause-gives g c = λ h cursors bears. rw c.in-Subscribe.is (c.subscribe.ensures.gives h cursors bears)

pub returns-in-Subscribe-clause-any_moment : goal.returns-in-Subscribe-clause-any_moment
returns-in-Subscribe-clause-any_moment g c = λ t h cursors bears. rw c.in-Subscribe.is (c.subscribe.ensures.any_moment t h cursors bears)

pub returns-in-Unsubscribe-clause-gives : goal.returns-in-Unsubscribe-clause-gives
returns-in-Unsubscribe-clause-gives g c = λ h cursors bears. rw c.in-Unsubscribe.is (c.unsubscribe.ensures.gives h cursors bears)

pub returns-in-Unsubscribe-clause-any_moment : goal.returns-in-Unsubscribe-clause-any_moment
returns-in-Unsubscribe-clause-any_moment g c = λ t h cursors bears. rw c.in-Unsubscribe.is (c.unsubscribe.ensures.any_moment t h cursors bears)
