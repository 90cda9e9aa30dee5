use Rattle.std.proofs.Common.{◌≡◌, ℕ, sym, ◌∙◌, ap, drop, arith}
use Rattle.std.proofs.lemmas.List.{length-map}
use Rattle.pm_collect.proofs.RowLemmas.{rising_rows, row, some_left, entry_at, left_after}
use Rattle.pm_collect.proofs.names.Names.at.Goals as goal

pub loop-before-preserved : goal.loop-before-preserved
loop-before-preserved c =
    left_after (λ x. (x.0.now, x.1.now)) c.args.self.now.held.entries c.loop-before.rest c.next.new.self c.loop-before._before c.next.result c.loop-before.invariant
    c.next.ensures.steps

pub unreachable-requires : goal.unreachable-requires
unreachable-requires c =
    let same : c.loop-before._before ≡ c.args.place = omega (arith, c.loop-before-test.false, c.loop-before.auto._before-end) in
    some_left c.args.self.now.held.entries c.args.place (omega (arith, c.requires, length-map c.args.self.now.held.entries row))
    (ap (λ (n : ℕ). drop n c.args.self.now.held.entries) (sym same) ∙ sym c.loop-before.invariant ∙ c.in-None.ensures.steps.0)

pub returns-clause-rising : goal.returns-clause-rising
returns-clause-rising c = rising_rows c.args.self.now.held.entries c.iter-rest.ensures.ordered

pub returns-clause-entry : goal.returns-clause-entry
returns-clause-entry c =
    let same : c.loop-before._before ≡ c.args.place = omega (arith, c.loop-before-test.false, c.loop-before.auto._before-end) in
    rw c.as_slice.ensures.value
    (entry_at c.args.self.now c.args.place c.in-Some.name.now c.in-Some.place.now c.next-2.new.self
    (ap (λ (n : ℕ). drop n c.args.self.now.held.entries) (sym same) ∙ sym c.loop-before.invariant ∙ c.in-Some.ensures.steps)
    c.iter-rest.ensures.found)
