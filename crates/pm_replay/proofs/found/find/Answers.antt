use Rattle.std.proofs.Common.{◌≡◌, ◌<◌, true, false, length, sym, ap, ◌∙◌, arith}
use Rattle.std.specs.Str.{bytes_eq}
use Rattle.pm_jobs.specs.State.{on}
use Rattle.pm_jobs.proofs.FindLemmas.{here, named}
use Rattle.pm_replay.proofs.FoundLemmas.{at-place, past-standing, past-any}
use Rattle.pm_replay.proofs.found.find.Goals as goal

pub returns-then-is_same-clause-none : goal.returns-then-is_same-clause-none
returns-then-is_same-clause-none c =
    let items = on c.args.side c.args.jobs.now in
    let item = c.at.result.now in
    let lt : c.loop-place.place < length items = omega (arith, c.loop-place-test.true, c.count-place-end.ensures) in
    let same : bytes_eq c.args.id.now item.id ≡ true = ap (bytes_eq c.args.id.now) (sym c.as_bytes.ensures.value) ∙ sym c.is_same.ensures ∙ c.if-is_same.true in
    c.loop-place.invariant.same ∙ here items c.loop-place.place item c.args.id.now lt (at-place items c.loop-place.place item lt c.at.ensures) same

pub returns-then-is_same-clause-place : goal.returns-then-is_same-clause-place
returns-then-is_same-clause-place c =
    let items = on c.args.side c.args.jobs.now in
    let item = c.at.result.now in
    let lt : c.loop-place.place < length items = omega (arith, c.loop-place-test.true, c.count-place-end.ensures) in
    let same : bytes_eq c.args.id.now item.id ≡ true = ap (bytes_eq c.args.id.now) (sym c.as_bytes.ensures.value) ∙ sym c.is_same.ensures ∙ c.if-is_same.true in
    named items c.loop-place.place item c.args.id.now lt (at-place items c.loop-place.place item lt c.at.ensures) same

pub loop-place-preserved : goal.loop-place-preserved
loop-place-preserved c =
    let items = on c.args.side c.args.jobs.now in
    let item = c.at.result.now in
    let lt : c.loop-place.place < length items = omega (arith, c.loop-place-test.true, c.count-place-end.ensures) in
    let other : bytes_eq c.args.id.now item.id ≡ false = ap (bytes_eq c.args.id.now) (sym c.as_bytes.ensures.value) ∙ sym c.is_same.ensures ∙ c.if-is_same.false in
    let at = at-place items c.loop-place.place item lt c.at.ensures in
    record {
      same = c.loop-place.invariant.same ∙ past-standing items c.loop-place.place item c.args.id.now lt at other;
      any = c.loop-place.invariant.any ∙ past-any items c.loop-place.place item c.args.id.now lt at other;
    }
