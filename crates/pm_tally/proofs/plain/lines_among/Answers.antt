use Rattle.std.proofs.Common.{◌-◌, length, sym, ◌∙◌, arith}
use Rattle.pm_tally.proofs.PlainLemmas.{lines_among-empty, lines_among-last}
use Rattle.pm_tally.proofs.plain.lines_among.Goals as goal

pub returns-then-is_empty : goal.returns-then-is_empty
returns-then-is_empty c = lines_among-empty (λ line. line.now) c.args.parts.now (length c.args.parts.now - 1) _ (omega (arith, c.in-len1-up.len_at_least)) (sym c.is_empty.ensures ∙ c.if-is_empty.true)

pub returns-else-is_empty : goal.returns-else-is_empty
returns-else-is_empty c = lines_among-last (λ line. line.now) c.args.parts.now (length c.args.parts.now - 1) _ (omega (arith, c.in-len1-up.len_at_least)) (sym c.is_empty.ensures ∙ c.if-is_empty.false)
