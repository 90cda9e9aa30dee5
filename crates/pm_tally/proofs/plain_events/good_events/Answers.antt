use Rattle.std.proofs.Common.{◌≡◌, ◌++◌, List, ℕ, [], get_or, Some, None, subst, ◌∙◌, ap, Bor, arith}
use Rattle.pm_events.specs.Event.{refusal, registered_one}
use Rattle.pm_events.specs.declared.event.Event.{Event}
use Rattle.pm_tally.proofs.PlainLemmas.{so_far-more, finds_refused, finds_all}
use Rattle.pm_tally.proofs.plain_events.good_events.Goals as goal

pub returns-in-Err : goal.returns-in-Err
returns-in-Err c =
    let none : Bor (List ℕ) = record { ref_ptr = (0, 0); now = [] } in
    let line = (get_or c.args.lines.now c.loop-at.at none).now in
    record {
      first = finds_refused (λ line. line.now) c.args.slots.now c.args.lines.now none c.loop-at.events.items c.loop-at.registered.items (record { at = c.loop-at.at; code = c.in-Err.code }) c.loop-at-test.true c.loop-at.invariant
          (subst (λ (l : List Event). refusal c.args.slots.now l line ≡ Some c.in-Err.code) c.deref.ensures.value c.in-Err.ensures.refused);
      registered_are = c.loop-at.invariant.found_are;
      few = c.loop-at.invariant.few;
    }

pub loop-at-preserved : goal.loop-at-preserved
loop-at-preserved c =
    let none : Bor (List ℕ) = record { ref_ptr = (0, 0); now = [] } in
    let slots = c.args.slots.now in
    let line = (get_or c.args.lines.now c.loop-at.at none).now in
    let e = c.in-Ok.event in
    so_far-more (λ line. line.now) slots c.args.lines.now c.loop-at.at none c.loop-at.events.items c.push.new.self.items c.loop-at.registered.items c.register.new.found.items e c.loop-at-test.true c.loop-at.invariant c.in-Ok.ensures.event
    (subst (λ (l : List Event). refusal slots l line ≡ None) c.deref.ensures.value c.in-Ok.ensures.good)
    c.in_ok-push-in-Ok.ensures.items
    (c.in_ok-register-in-Ok.ensures ∙ ap (λ (l : List Event). c.loop-at.registered.items ++ registered_one slots l e) c.deref-in-Ok.ensures.value)

pub returns : goal.returns
returns c = record {
  first = finds_all (λ line. line.now) c.args.slots.now c.args.lines.now c.loop-at.at c.loop-at.events.items c.loop-at.registered.items (omega (arith, c.loop-at-test.false)) c.loop-at.invariant;
  registered_are = c.loop-at.invariant.found_are;
  few = c.loop-at.invariant.few;
}
