use Rattle.pm_http.proofs.ReplyLemmas.{on_finished}
use Rattle.pm_http.proofs.outgoing.Outgoing.finish.Goals as goal

pub returns-clause-told : goal.returns-clause-told
returns-clause-told g c =
    λ told start text way.
    on_finished start text (g.K.Sink.written c.args.sink.now) (g.K.Sink.written c.put.new.sink) c.args.self.held.items c.put.result (rw c.if-self.false at way) (rw c.as_slice.ensures.value at (c.put.ensures.told told)) c.put.ensures.no_memory
