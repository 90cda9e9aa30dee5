use Rattle.std.proofs.Common.{◌≡◌, ℕ, take, subst, ◌∙◌, arith}
use Rattle.std.proofs.lemmas.List.{take_all}
use Rattle.pm_events.proofs.reader.begins.Goals as goal

pub returns-clause-same : goal.returns-clause-same
returns-clause-same c = λ _.
    let line = c.args.line.now in
    let text = c.args.text.now in
    let end : c.loop-i.i ≡ 11 = omega arith in
    subst (λ (n : ℕ). take n line ≡ take n text) end c.loop-i.invariant ∙ take_all 11 text (omega arith)
