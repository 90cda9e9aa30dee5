use Rattle.std.proofs.Common.{◌≡◌, ◌<◌, Err, ap, ◌∙◌, subst, refl, arith}
use Rattle.pm_outside.specs.Feed.{left_to}
use Rattle.pm_http.specs.Stream.{IsNext, IsPlaced}
use Rattle.pm_http.specs.declared.next.Next.TheVariants as next
use Rattle.pm_top.specs.Session.{mail_of}
use Rattle.pm_top.proofs.SessionLemmas.{takes, unsent, quits, tells, framed, placed-at, if-none}
use Rattle.pm_top.proofs.session_turns.take_turn.Goals as goal

pub returns-in-Ok-Request-clause-takes : goal.returns-in-Ok-Request-clause-takes
returns-in-Ok-Request-clause-takes g c = λ t.
    let before = left_to c.args.feed.now (g.S.Source.left c.args.input.now) in
    let after = left_to c.next_request.new.feed (g.S.Source.left c.next_request.new.source) in
    let first = subst (λ n. IsNext before c.args.feed.now.given n after) c.in-Ok-Request.field-0-is (c.in-Ok-Request.ensures.next t) in
    let less = takes before c.in-Ok-Request.request after first in
    let counted = c.next_request.ensures.reads.given t in
    if-none c.carry.result (c.args.feed.now.given < c.next_request.new.feed.given) (omega (arith, less, counted))

pub returns-in-Ok-End-clause-turn : goal.returns-in-Ok-End-clause-turn
returns-in-Ok-End-clause-turn g c = λ run carries.
    quits g.D.Disk.IsTold g.K.Sink.IsTold g.P.Courier.IsTold _ c.args.engine.now (g.D.Disk.told c.args.disk.now) run _ (g.K.Sink.written c.args.output.now)
    (g.P.Courier.posts c.args.courier.now) (g.P.Courier.faults c.args.courier.now) refl c.requires.usable carries
    (tells g.S.Source.IsTold _ _ _ c.in-Ok-End.field-0 next.End c.in-Ok-End.field-0-is c.in-Ok-End.ensures.next c.in-Ok-End.ensures.within)

pub returns-in-Ok-Framing-clause-turn : goal.returns-in-Ok-Framing-clause-turn
returns-in-Ok-Framing-clause-turn g c = λ run carries.
    let at : c.in-Ok-Framing.offset ≡ c.args.feed.now.given = subst (IsPlaced c.args.feed.now.given) c.in-Ok-Framing.field-0-is c.in-Ok-Framing.ensures.placed in
    framed g.D.Disk.IsTold g.K.Sink.IsTold g.S.Source.IsTold _ c.args.start c.args.feed.now.given
    (left_to c.args.feed.now (g.S.Source.left c.args.input.now)) (left_to c.next_request.new.feed (g.S.Source.left c.next_request.new.source))
    (g.K.Sink.written c.args.output.now) (g.K.Sink.written c.refuse_framing.new.output)
    (mail_of g.P.Courier.IsTold (g.P.Courier.posts c.args.courier.now) (g.P.Courier.posts c.args.courier.now) (g.P.Courier.faults c.args.courier.now)
    (g.P.Courier.faults c.args.courier.now)) c.args.engine.now (g.D.Disk.told c.args.disk.now) run
    c.in-Ok-Framing.code c.in-Ok-Framing.offset c.saturating_sub-offset.result c.refuse_framing.result
    (unsent g.P.Courier.IsTold (g.P.Courier.posts c.args.courier.now) (g.P.Courier.faults c.args.courier.now)) refl c.requires.usable carries
    (tells g.S.Source.IsTold _ _ _ c.in-Ok-Framing.field-0 (next.Framing c.in-Ok-Framing.code c.in-Ok-Framing.offset) c.in-Ok-Framing.field-0-is c.in-Ok-Framing.ensures.next c.in-Ok-Framing.ensures.within)
    (λ t. let started = c.requires.started t in omega (arith, at, started, c.saturating_sub-offset.ensures))
    c.refuse_framing.ensures.refused

pub returns-in-Ok-CutShort-clause-turn : goal.returns-in-Ok-CutShort-clause-turn
returns-in-Ok-CutShort-clause-turn g c = λ run carries.
    let at : c.in-Ok-CutShort.offset ≡ c.args.feed.now.given = subst (IsPlaced c.args.feed.now.given) c.in-Ok-CutShort.field-0-is c.in-Ok-CutShort.ensures.placed in
    let offset = c.saturating_sub-offset-in-Ok-CutShort in
    quits g.D.Disk.IsTold g.K.Sink.IsTold g.P.Courier.IsTold _ c.args.engine.now (g.D.Disk.told c.args.disk.now) run _ (g.K.Sink.written c.args.output.now)
    (g.P.Courier.posts c.args.courier.now) (g.P.Courier.faults c.args.courier.now) refl c.requires.usable carries
    (placed-at g.S.Source.IsTold c.args.start c.args.feed.now.given (left_to c.args.feed.now (g.S.Source.left c.args.input.now))
    (left_to c.next_request.new.feed (g.S.Source.left c.next_request.new.source)) c.in-Ok-CutShort.offset offset.result
    (λ t. let started = c.requires.started t in omega (arith, at, started, offset.ensures))
    (tells g.S.Source.IsTold c.args.feed.now.given (left_to c.args.feed.now (g.S.Source.left c.args.input.now))
    (left_to c.next_request.new.feed (g.S.Source.left c.next_request.new.source)) c.in-Ok-CutShort.field-0 (next.CutShort c.in-Ok-CutShort.offset) c.in-Ok-CutShort.field-0-is c.in-Ok-CutShort.ensures.next c.in-Ok-CutShort.ensures.within))

pub returns-in-Err-ReadFault-clause-turn : goal.returns-in-Err-ReadFault-clause-turn
returns-in-Err-ReadFault-clause-turn g c = λ run carries.
    quits g.D.Disk.IsTold g.K.Sink.IsTold g.P.Courier.IsTold _ c.args.engine.now (g.D.Disk.told c.args.disk.now) run _ (g.K.Sink.written c.args.output.now)
    (g.P.Courier.posts c.args.courier.now) (g.P.Courier.faults c.args.courier.now) refl c.requires.usable carries
    (λ t. c.next_request.ensures.fault t (c.in-Err-ReadFault.is ∙ ap (λ e. Err e) c.in-Err-ReadFault.field-0-is))

pub returns-in-Err-Limit-clause-turn : goal.returns-in-Err-Limit-clause-turn
returns-in-Err-Limit-clause-turn g c = λ run carries.
    quits g.D.Disk.IsTold g.K.Sink.IsTold g.P.Courier.IsTold _ c.args.engine.now (g.D.Disk.told c.args.disk.now) run _ (g.K.Sink.written c.args.output.now)
    (g.P.Courier.posts c.args.courier.now) (g.P.Courier.faults c.args.courier.now) refl c.requires.usable carries
    (λ t. c.next_request.ensures.limit t (c.in-Err-Limit.is ∙ ap (λ e. Err e) c.in-Err-Limit.field-0-is))

pub returns-in-Err-Memory-clause-turn : goal.returns-in-Err-Memory-clause-turn
returns-in-Err-Memory-clause-turn g c = λ run carries.
    quits g.D.Disk.IsTold g.K.Sink.IsTold g.P.Courier.IsTold _ c.args.engine.now (g.D.Disk.told c.args.disk.now) run _ (g.K.Sink.written c.args.output.now)
    (g.P.Courier.posts c.args.courier.now) (g.P.Courier.faults c.args.courier.now) refl c.requires.usable carries
    (λ t. c.next_request.ensures.memory t (c.in-Err-Memory.is ∙ ap (λ e. Err e) c.in-Err-Memory.field-0-is))
