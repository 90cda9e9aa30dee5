use Rattle.std.proofs.Common.{[]}
use Rattle.pm_http.proofs.ReplyLemmas.{on_nothing}
use Rattle.pm_http.proofs.replying.write_with.Goals as goal

pub returns-clause-told : goal.returns-clause-told
returns-clause-told g c =
    λ told.
    let start = g.K.Sink.written c.args.sink.now in
    c.finish.ensures.told told start _ (c.pass_body.ensures.on told start _ (c.pass_head.ensures.on told start [] (rw (c.new-out.ensures.good, c.new-out.ensures.empty) (on_nothing start))))
