use Rattle.std.proofs.Common.{◌≡◌, ◌<◌, length, arith, rules, sym, ◌∙◌, ap}
use Rattle.std.proofs.lemmas.Bool.{eqb-true}
use Rattle.std.specs.Fmt.{decimal}
use Rattle.pm_meas.proofs.NumberLemmas.{IsWritten-word, value-positive, decimal-value}
use Rattle.pm_meas.proofs.method.number.Goals as goal
use Rattle.pm_meas.proofs.method.number.Goals.{then-is_empty-via-then-is_empty, then-is_empty-via-else-is_empty+then-word-gt4, then-is_empty-via-else-is_empty+else-word-gt4+then-word-eq48}

pub returns-then-is_empty : goal.returns-then-is_empty
returns-then-is_empty c = λ n least most is.
    let w = IsWritten-word n c.args.word.now least most is in
    elim c.then-is_empty.branch [
      | then-is_empty-via-then-is_empty b ↦ let none : length c.args.word.now ≡ 0 = eqb-true _ _ (sym c.is_empty.ensures ∙ b.if-is_empty.true) in omega (arith, w.some)
      | then-is_empty-via-else-is_empty+then-word-gt4 b ↦ omega (arith, w.short, b.if-word-gt4.true)
      | then-is_empty-via-else-is_empty+else-word-gt4+then-word-eq48 b ↦ w.led b.if-word-eq48.true
    ]

pub returns-in_err-n : goal.returns-in_err-n
returns-in_err-n c = rw c.from_residual.ensures (λ n least most is. c.in_err-n.ensures (IsWritten-word n c.args.word.now least most is).all)

pub returns-then-n-le1000 : goal.returns-then-n-le1000
returns-then-n-le1000 c =
    let read = c.in_ok-n.ensures in
    let some : 0 < length c.args.word.now = search rules in
    let positive = value-positive c.args.word.now read.0 some c.if-word-gt4.false c.if-word-eq48.false in
    (omega (arith, read.1, positive), c.if-n-le1000.true, ap decimal read.1 ∙ decimal-value c.args.word.now read.0 some c.if-word-gt4.false c.if-word-eq48.false)

pub returns-else-n-le1000 : goal.returns-else-n-le1000
returns-else-n-le1000 c = λ n least most is.
    let read = c.in_ok-n.ensures in
    let w = IsWritten-word n c.args.word.now least most is in
    omega (arith, read.1, w.value, c.if-n-le1000.false)
