use Rattle.std.proofs.Common.{◌∙◌, ◌≡◌, true, ap, sym}
use Rattle.std.specs.Str.{bytes_eq}
use Rattle.pm_jobs.proofs.FindLemmas.{here, named}
use Rattle.pm_jobs.proofs.planning.find.Goals as goal

pub returns-then-is_same-clause-none : goal.returns-then-is_same-clause-none
returns-then-is_same-clause-none c =
    let item = c.index-items-place.result in
    let same : bytes_eq c.args.id.now item.id ≡ true = ap (bytes_eq c.args.id.now) (sym c.as_bytes.ensures.value) ∙ sym c.is_same.ensures ∙ c.if-is_same.true in
    c.loop-place.invariant.same ∙ here c.args.items.now c.loop-place.place item c.args.id.now c.loop-place-test.true c.index-items-place.is same

pub returns-then-is_same-clause-place : goal.returns-then-is_same-clause-place
returns-then-is_same-clause-place c =
    let item = c.index-items-place.result in
    let same : bytes_eq c.args.id.now item.id ≡ true = ap (bytes_eq c.args.id.now) (sym c.as_bytes.ensures.value) ∙ sym c.is_same.ensures ∙ c.if-is_same.true in
    named c.args.items.now c.loop-place.place item c.args.id.now c.loop-place-test.true c.index-items-place.is same
