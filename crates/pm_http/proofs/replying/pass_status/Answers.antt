use Rattle.std.proofs.Common.{append_assoc}
use Rattle.pm_http.specs.Reply.{status_line}
use Rattle.pm_http.proofs.replying.pass_status.Goals as goal

pub returns-clause-on : goal.returns-clause-on
unfolding status_line
returns-clause-on g c =
    λ told start text way.
    let all = c.pass_line.ensures.on told start _ (c.pass-2.ensures.on told start _ (c.pass.ensures.on told start text way)) in
    simp append_assoc (simp append_assoc at (rw (c.as_bytes.ensures.value, c.format.ensures.text, c.as_bytes-2.ensures.value, c.phrase_of.ensures) at all))
