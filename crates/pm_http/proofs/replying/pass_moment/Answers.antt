use Rattle.pm_http.specs.Reply.{moment_field}
use Rattle.pm_http.proofs.replying.pass_moment.Goals as goal

pub returns-clause-on : goal.returns-clause-on
unfolding moment_field
returns-clause-on g c =
    λ told start text way. rw (c.as_bytes.ensures.value, c.format.ensures.text) at (c.pass_line.ensures.on told start text way)
