use Rattle.std.proofs.Common.{length, refl, ◌∙◌, sym, ap, subst}
use Rattle.pm_batch.specs.Reading.{AreOfSlots}
use Rattle.pm_batch.specs.OpenTick.{HasRoom}
use Rattle.pm_batch.proofs.AnswerLemmas.{same-stands, answer-room, answer-full}
use Rattle.pm_batch.proofs.open_events.OpenEvents.read.Goals as goal

pub returns-then-not-has_room-clause-stands : goal.returns-then-not-has_room-clause-stands
returns-then-not-has_room-clause-stands c = λ inventory h moment before stands.
    let events = c.args.self.now in
    let hits = c.read.new.self in
    let read = c.in_ok-read.ensures.read in
    let sound = subst (λ n. AreOfSlots n hits) (sym events.wide) c.in_ok-read.ensures.sound in
    let none = c.if-not-has_room.ensures.room in (
      answer-full inventory h moment events.slots c.args.body.now hits events.tick stands.slots read stands.tick sound (λ room. let no = none.1 (subst (HasRoom events.tick) (sym c.hits.ensures) room) in absurd (cc (no))),
      record { slots = stands.slots; tick = same-stands inventory h events.tick c.has_room.new.self c.has_room.ensures.same stands.tick; batch = c.clear.ensures },
    )

pub returns-clause-stands : goal.returns-clause-stands
returns-clause-stands c = λ inventory h moment before stands.
    let events = c.args.self.now in
    let hits = c.read.new.self in
    let read = c.in_ok-read.ensures.read in
    let sound = subst (λ n. AreOfSlots n hits) (sym events.wide) c.in_ok-read.ensures.sound in
    let room = c.if-not-has_room.ensures.room in (
      answer-room inventory h moment events.slots c.args.body.now hits events.tick stands.slots read stands.tick sound (subst (HasRoom events.tick) c.hits.ensures (room.0 refl)),
      ap length c.hits-2.ensures ∙ c.in_ok-read.ensures.lines,
      record { slots = stands.slots; tick = same-stands inventory h events.tick c.has_room.new.self c.has_room.ensures.same stands.tick; batch = refl },
    )
