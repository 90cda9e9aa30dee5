use Rattle.std.proofs.Common.{refl}
use Rattle.pm_file.proofs.UsualNumberLemmas.{written_so}
use Rattle.pm_file.proofs.usual_tokens.whole_of.Goals as goal

pub returns-in-Ok : goal.returns-in-Ok
returns-in-Ok c = written_so c.args.text.now c.in-Ok.n ((rw c.as_bytes.ensures.value at c.if-not-is_plain.ensures) refl)
    c.in-Ok.ensures.value.0
