use Rattle.std.proofs.Common.{length}
use Rattle.pm_http.proofs.size.length_by.Goals as goal

pub returns-in-One-clause-size : goal.returns-in-One-clause-size
returns-in-One-clause-size c =
    let is = c.in-One.ensures (length c.args.buf.now) c.requires in
    rw (is.1, ← c.of.ensures) c.length_of.ensures.size
