use Rattle.pm_http.proofs.replying.pass_close.Goals as goal

pub returns-then-close-clause-on : goal.returns-then-close-clause-on
returns-then-close-clause-on g c = λ told start text way. rw c.if-close.true (c.pass.ensures.on told start text way)
