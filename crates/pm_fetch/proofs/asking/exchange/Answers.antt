use Rattle.std.proofs.Common.{inr}
use Rattle.pm_fetch.proofs.asking.exchange.Goals as goal

pub returns-in-Some-clause-replies : goal.returns-in-Some-clause-replies
returns-in-Some-clause-replies g c = λ told. (c.in-Ok.reply, c.in-Ok.ensures.told told, rw c.as_bytes.ensures at c.in-Some.ensures)

pub returns-in-Ok-clause-replies : goal.returns-in-Ok-clause-replies
returns-in-Ok-clause-replies g c = λ told. inr (c.in-Ok.reply, c.in-Ok.ensures.told told)
