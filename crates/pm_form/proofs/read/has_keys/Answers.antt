use Rattle.std.proofs.Common.{sym, ◌∙◌}
use Rattle.pm_form.proofs.ReadLemmas.{keys_view, keys_stop, keys_short, keys_end}
use Rattle.pm_form.proofs.read.has_keys.Goals as goal

pub returns-in_default : goal.returns-in_default
returns-in_default c =
    let start = rw c.keys-names.ensures.rest at c.loop-key.invariant in
    rw (keys_view c.args.members.now.entries)
    (sym (start ∙ keys_stop c.args.keys.now c.loop-key.key-index _ c.loop-key.names c.next.new.self c.in-Some.name.now c.as_str.result.now
    c.loop-key-test.true c.in-Some.ensures.steps c.as_str.ensures.value c.if-eq.ensures))

pub returns-in_default-2 : goal.returns-in_default-2
returns-in_default-2 c =
    let start = rw c.keys-names.ensures.rest at c.loop-key.invariant in
    let steps = rw c.in_default.is at c.next.ensures.steps in
    rw (keys_view c.args.members.now.entries)
    (sym (start ∙ keys_short c.args.keys.now c.loop-key.key-index c.loop-key.names c.loop-key-test.true steps.0))

pub returns : goal.returns
returns c =
    let start = rw c.keys-names.ensures.rest at c.loop-key.invariant in
    rw (keys_view c.args.members.now.entries)
    (sym (start ∙ keys_end c.args.keys.now c.loop-key.key-index c.loop-key.names c.next-2.result c.next-2.new.self c.is_none.result
    c.loop-key-test.false c.next-2.ensures.steps c.is_none.ensures))
