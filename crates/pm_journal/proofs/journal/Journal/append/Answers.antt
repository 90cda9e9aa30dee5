use Rattle.std.proofs.Common.{◌++◌, [], ◌∷◌, refl, arith}
use Rattle.pm_journal.proofs.AppendingLemmas.{either_at_rest, grown_is, at_grown, length_at_end}
use Rattle.pm_journal.proofs.TiedLemmas.{at_ready}
use Rattle.pm_journal.proofs.journal.Journal.append.Goals as goal

pub returns-then-need-self-clause-any_moment : goal.returns-then-need-self-clause-any_moment
returns-then-need-self-clause-any_moment g c = λ told items at.
    either_at_rest c.args.self.now.area _ c.args.self.now items (items ++ c.args.bytes.now ∷ []) at c.requires.ready (omega (arith, c.args.self.now.in_limit, c.args.self.now.small))

pub returns-in-Ok-clause-added : goal.returns-in-Ok-clause-added
returns-in-Ok-clause-added g c = λ told items at.
    let end = at.ready c.requires.ready in
    let stored = c.in-Ok.ensures.stored told items end (omega (arith, at.length, length_at_end _ items end)) in
    at_grown c.args.self.now _ _ _ items c.args.bytes.now at c.requires.ready (omega (arith, c.if-need-self.false, c.args.self.now.small)) stored refl (omega arith)

pub returns-in-Ok-clause-tied : goal.returns-in-Ok-clause-tied
returns-in-Ok-clause-tied g c = λ told.
    let tied = c.requires.tied told in
    let at = at_ready _ _ tied.0 tied.1 tied.2 c.requires.ready in
    let end = at.ready c.requires.ready in
    let stored = c.in-Ok.ensures.stored told tied.0 end (omega (arith, at.length, length_at_end _ tied.0 end)) in
    (tied.0 ++ c.args.bytes.now ∷ [], [], at_grown c.args.self.now _ _ _ tied.0 c.args.bytes.now at c.requires.ready (omega (arith, c.if-need-self.false, c.args.self.now.small)) stored refl (omega arith))

pub returns-in-Ok-clause-grown : goal.returns-in-Ok-clause-grown
returns-in-Ok-clause-grown g c = λ told.
    let tied = c.requires.tied told in
    let at = at_ready _ _ tied.0 tied.1 tied.2 c.requires.ready in
    let end = at.ready c.requires.ready in
    grown_is c.args.self.now.at _ tied.0 c.args.bytes.now _ end at.gate (c.in-Ok.ensures.stored told tied.0 end (omega (arith, at.length, length_at_end _ tied.0 end)))
