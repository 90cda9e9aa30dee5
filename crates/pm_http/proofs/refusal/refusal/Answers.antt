use Rattle.std.proofs.Common.{append_assoc}
use Rattle.pm_http.specs.Reply.{refusal_body}
use Rattle.pm_http.proofs.refusal.refusal.Goals as goal

pub returns : goal.returns
unfolding refusal_body
returns c =
    rw (c.append-4.ensures.items, c.append_line.ensures.items, c.append-3.ensures.items, c.append-2.ensures.items, c.append.ensures.items, c.as_bytes.ensures.value, c.name_of.ensures.name, c.new-body.ensures)
    (simp append_assoc)
