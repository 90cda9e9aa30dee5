use Rattle.std.proofs.Common.{append_assoc}
use Rattle.pm_http.specs.Reply.{head_text}
use Rattle.pm_http.proofs.replying.pass_head.Goals as goal

pub returns-clause-on : goal.returns-clause-on
unfolding head_text
returns-clause-on g c =
    λ told start text way.
    let all = c.pass.ensures.on told start _ (c.pass_close.ensures.on told start _ (c.pass_moment.ensures.on told start _ (c.pass_allow.ensures.on told start _ (c.pass_content_fields.ensures.on told start _ (c.pass_status.ensures.on told start text way))))) in
    simp append_assoc (simp append_assoc at (rw (c.as_bytes.ensures.value, c.requires) at all))
