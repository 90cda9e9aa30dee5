use Rattle.std.proofs.Common.{◌≡◌, ◌+◌, ℕ, List, map, Option, Some, ◌∙◌, ap, subst, arith}
use Rattle.pm_base.specs.Moment.{tick_of}
use Rattle.pm_inventory.specs.Slot.{Slot}
use Rattle.pm_events.specs.Event.{last_moment, registered}
use Rattle.pm_tally.specs.Tally.{lines_before}
use Rattle.pm_tally.specs.Plain.{FindsFirst, EndsBy}
use Rattle.pm_tally.specs.declared.plain_events.Refused.{Refused}
use Rattle.pm_tally.specs.declared.tally_end.TallyEnd.TheVariants as end
use Rattle.pm_tally.proofs.PlainLemmas.{ends_refused}
use Rattle.pm_tally.proofs.plain.tally_of.Goals as goal

pub returns : goal.returns
returns c =
    let slots = c.in_ok-slots.slots in
    let lines : List (List ℕ) = map (λ line. line.now) c.args.lines.now in
    let good = c.in_ok-events.field-0 in
    let events = good.events.items in
    let found = c.in_ok-events.ensures in
    let first : FindsFirst slots lines events (Some c.in-Some.field-0) = subst (λ (r : Option Refused). FindsFirst slots lines events r) c.in-Some.is found.first in
    let registered_are : c.deref-in-Some.result.now ≡ registered slots events = c.deref-in-Some.ensures.value ∙ found.registered_are in
    let last : c.tick-last_tick.result ≡ tick_of (last_moment events) = c.tick-last_tick.ensures ∙ ap tick_of (c.moment_of_last.ensures ∙ ap last_moment c.deref.ensures.value) in
    let written : c.from_vec-in-Some.result ≡ lines_before slots events (tick_of (last_moment events)) =
    c.from_vec-in-Some.ensures ∙ c.in_ok-text_before-in-Some.ensures events registered_are ∙ ap (lines_before slots events) last in
    let place = c.in-Some.field-0.at + c.args.read.now.lines + 1 in
    let ends : EndsBy slots (c.args.read.now.lines + 1) lines c.from_vec-in-Some.result (end.Refused place c.in-Some.field-0.code) =
    ends_refused slots (c.args.read.now.lines + 1) lines events c.in-Some.field-0 place c.from_vec-in-Some.result first (omega arith) written in
    subst (λ (s : List Slot). EndsBy s (c.args.read.now.lines + 1) lines c.from_vec-in-Some.result (end.Refused place c.in-Some.field-0.code)) c.in_ok-slots.ensures ends
