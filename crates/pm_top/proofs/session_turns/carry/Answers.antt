use Rattle.std.proofs.Common.{◌∙◌}
use Rattle.pm_top.specs.Session.{output_of, mail_of}
use Rattle.pm_top.proofs.SessionLemmas.{known, made, goes-on, ends-last, unwritten, unsent, in-part, still-usable}
use Rattle.pm_top.proofs.session_turns.carry.Goals as goal

pub returns-in-Err-clause-turn : goal.returns-in-Err-clause-turn
returns-in-Err-clause-turn g c = λ run carries.
    let told = g.D.Disk.told c.answer.new.disk in
    unwritten g.D.Disk.IsTold _ c.answer.new.engine told (output_of g.K.Sink.IsTold (g.K.Sink.written c.args.output.now) (g.K.Sink.written c.write_reply.new.sink))
    _ run c.args.request.now c.in-Ok.reply c.now.result c.now.ensures c.in-Ok.ensures.inventory c.in-Ok.ensures.usable (c.in-Ok.ensures.answered run carries)
    (λ t. in-part _ _ _ c.in-Err.field-0 (c.in-Err.ensures.told t)) (unsent g.P.Courier.IsTold (g.P.Courier.posts c.args.courier.now) (g.P.Courier.faults c.args.courier.now))

pub returns-then-request-clause-turn : goal.returns-then-request-clause-turn
returns-then-request-clause-turn g c = λ run carries.
    let told = g.D.Disk.told c.answer.new.disk in
    let turn = c.in-Ok.ensures.answered run carries in
    let rounds = c.deliver.ensures.delivers turn.0 (known g.D.Disk.IsTold c.answer.new.engine told turn.0 turn.2) in
    let mail = mail_of g.P.Courier.IsTold (g.P.Courier.posts c.args.courier.now) (g.P.Courier.posts c.deliver.new.courier) (g.P.Courier.faults c.args.courier.now)
    (g.P.Courier.faults c.deliver.new.courier) in (
      c.if-request.true,
      ends-last g.D.Disk.IsTold g.K.Sink.IsTold _ c.deliver.new.self told (g.K.Sink.written c.args.output.now) (g.K.Sink.written c.write_reply.new.sink) mail run
          c.args.request.now c.in-Ok.reply c.now.result (c.deliver.ensures.inventory ∙ c.in-Ok.ensures.inventory)
          (still-usable g.D.Disk.IsTold c.answer.new.engine c.deliver.new.self told c.deliver.ensures.store c.in-Ok.ensures.usable)
          (made g.D.Disk.IsTold _ c.answer.new.engine c.deliver.new.self told mail run c.args.request.now c.in-Ok.reply c.now.result rounds.0 c.now.ensures
          c.in-Ok.ensures.inventory c.deliver.ensures.inventory c.deliver.ensures.store turn rounds.1 rounds.2)
          (λ t. c.in-Ok-write_reply.ensures.told t),
    )

pub returns-clause-turn : goal.returns-clause-turn
returns-clause-turn g c = λ run carries.
    let told = g.D.Disk.told c.answer.new.disk in
    let turn = c.in-Ok.ensures.answered run carries in
    let rounds = c.deliver.ensures.delivers turn.0 (known g.D.Disk.IsTold c.answer.new.engine told turn.0 turn.2) in
    let mail = mail_of g.P.Courier.IsTold (g.P.Courier.posts c.args.courier.now) (g.P.Courier.posts c.deliver.new.courier) (g.P.Courier.faults c.args.courier.now)
    (g.P.Courier.faults c.deliver.new.courier) in
    goes-on g.D.Disk.IsTold g.K.Sink.IsTold _ c.deliver.new.self told (g.K.Sink.written c.args.output.now) (g.K.Sink.written c.write_reply.new.sink) mail run
    c.args.request.now c.in-Ok.reply c.now.result
    (made g.D.Disk.IsTold _ c.answer.new.engine c.deliver.new.self told mail run c.args.request.now c.in-Ok.reply c.now.result rounds.0 c.now.ensures
    c.in-Ok.ensures.inventory c.deliver.ensures.inventory c.deliver.ensures.store turn rounds.1 rounds.2)
    c.if-request.false (λ t. c.in-Ok-write_reply.ensures.told t)

pub returns-clause-usable : goal.returns-clause-usable
returns-clause-usable g c =
    still-usable g.D.Disk.IsTold c.answer.new.engine c.deliver.new.self (g.D.Disk.told c.answer.new.disk) c.deliver.ensures.store c.in-Ok.ensures.usable
