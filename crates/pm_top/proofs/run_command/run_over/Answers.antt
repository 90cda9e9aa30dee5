use Rattle.std.proofs.Common.{inl, inr, subst}
use Rattle.pm_outside.specs.Feed.{left_to}
use Rattle.pm_top.specs.Session.{input_of, output_of, mail_of, store_of, IsSession}
use Rattle.pm_top.specs.Run.{booted}
use Rattle.pm_top.proofs.SessionLemmas.{nothing, unsent}
use Rattle.pm_top.proofs.RunLemmas.{unopened}
use Rattle.pm_top.proofs.run_command.run_over.Goals as goal

pub returns-in-Ok-clause-opened : goal.returns-in-Ok-clause-opened
returns-in-Ok-clause-opened g c =
    inr (record {
      end = c.session.result;
      status_is = c.from.ensures.status;
      ahead = c.session.new.feed.buffered;
      few = c.session.ensures.few;
      emptied = c.session.ensures.emptied;
      session =
          let input = input_of g.S.Source.IsTold c.args.feed.now.given (left_to c.args.feed.now (g.S.Source.left c.args.input.now))
          (left_to c.session.new.feed (g.S.Source.left c.session.new.input)) in
          let output = output_of g.K.Sink.IsTold (g.K.Sink.written c.args.output.now) (g.K.Sink.written c.session.new.output) in
          let mail = mail_of g.P.Courier.IsTold (g.P.Courier.posts c.args.courier.now) (g.P.Courier.posts c.session.new.courier) (g.P.Courier.faults c.args.courier.now)
          (g.P.Courier.faults c.session.new.courier) in
          subst (λ i. IsSession i input output mail (store_of g.D.Disk.IsTold (g.D.Disk.told c.session.new.disk)) (booted c.args.boot) c.session.result)
          c.in-Ok.ensures.inventory (c.session.ensures.session (booted c.args.boot) c.in-Ok.ensures.carries);
    })

pub returns-in-Err-clause-opened : goal.returns-in-Err-clause-opened
returns-in-Err-clause-opened g c =
    let written = g.K.Sink.written c.args.output.now in
    inl (unopened c.args.inventory c.args.boot (output_of g.K.Sink.IsTold written written) _ g.D.Disk.IsTold (g.D.Disk.told c.args.disk.now) (g.D.Disk.told c.open.new.disk)
    c.in-Err.error c.from-in-Err.result c.from-in-Err.ensures.status (nothing g.K.Sink.IsTold written)
    (unsent g.P.Courier.IsTold (g.P.Courier.posts c.args.courier.now) (g.P.Courier.faults c.args.courier.now)) (λ told empty. c.open.ensures.any_moment told empty))
