use Rattle.std.proofs.Common.{ℕ, ap}
use Rattle.pm_batch.proofs.PhaseLemmas.{not_yet, not_full}
use Rattle.pm_batch.proofs.phase.Phase.step.Goals as goal

pub returns-then-seen-self-clause-registered : goal.returns-then-seen-self-clause-registered
returns-then-seen-self-clause-registered c = not_yet c.args.self.now.seen c.args.self.now.each c.if-seen-self.true

pub returns-then-seen-self-clause-stepped : goal.returns-then-seen-self-clause-stepped
returns-then-seen-self-clause-stepped c = ap (λ (n : ℕ). record { seen = n; each = c.args.self.now.each }) (not_full c.args.self.now.seen c.args.self.now.each c.if-seen-self.true)
