use Rattle.std.proofs.Common.{arith, get_or}
use Rattle.std.proofs.lemmas.Bool.Decides.{Decides-eqb}
use Rattle.pm_name.proofs.PartLemmas.{looks_like, like_looks}
use Rattle.pm_name.proofs.parts.looks_like_date.Goals as goal

pub returns-then-are_digits : goal.returns-then-are_digits
returns-then-are_digits c = (
  λ dot. looks_like c.args.bytes.now (omega arith) (c.are_digits.ensures.0 c.if-are_digits.true) ((Decides-eqb _ _).0 dot),
  λ like. (Decides-eqb (get_or c.args.bytes.now 8 0) 46).1 (like_looks c.args.bytes.now like).2,
)

pub returns-else-are_digits : goal.returns-else-are_digits
returns-else-are_digits c =
    let fails = c.if-are_digits.false in (
      λ yes. cc,
      λ like. c.are_digits.ensures.1 (like_looks c.args.bytes.now like).1,
    )
