use Rattle.std.proofs.Common.{◌≡◌, sym, ◌∙◌}
use Rattle.pm_http.proofs.ReplyLemmas.{on_err, on_put}
use Rattle.pm_http.proofs.outgoing.Outgoing.pass.Goals as goal

pub returns-clause-on : goal.returns-clause-on
returns-clause-on g c =
    λ told start text way.
    let same = on_err c.try_extend_from_slice.result (sym c.is_ok.ensures.value ∙ c.if-is_ok.false) c.try_extend_from_slice.ensures.err in
    let held : c.as_slice.result.now ≡ c.args.self.now.held.items = cc (same, c.as_slice.ensures.value) in
    let put = on_put start text (g.K.Sink.written c.args.sink.now) (g.K.Sink.written c.put_both.new.sink) c.args.self.now.held.items c.args.part.now c.put_both.result (rw c.if-self.false at way) (rw held at (c.put_both.ensures.told told)) c.put_both.ensures.no_memory in
    rw (c.is_err-self.ensures.value, c.clear.ensures) put
