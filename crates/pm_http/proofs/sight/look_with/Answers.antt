use Rattle.std.proofs.Common.{Err, ap}
use Rattle.httparse.specs.declared.Error.{Error}
use Rattle.pm_http.proofs.HeadLemmas.{no_excess}
use Rattle.pm_http.proofs.sight.look_with.Goals as goal

pub returns-in-Err-TooManyHeaders : goal.returns-in-Err-TooManyHeaders
returns-in-Err-TooManyHeaders c =
    let over = c.in-Err-TooManyHeaders.ensures.too_many (ap (λ (e : Error). Err e) c.in-Err-TooManyHeaders.field-0-is) in
    absurd (no_excess c.args.bytes.now c.requires.few (rw c.requires.room at over))
