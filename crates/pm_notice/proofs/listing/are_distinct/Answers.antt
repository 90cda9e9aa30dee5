use Rattle.std.proofs.Common.{sym, ◌∙◌}
use Rattle.pm_notice.proofs.ListingLemmas.{distinct-stop, distinct-go}
use Rattle.pm_notice.proofs.listing.are_distinct.Goals as goal

pub returns-then-is_among : goal.returns-then-is_among
returns-then-is_among c =
    sym (c.loop-place.invariant
    ∙ distinct-stop c.args.files.now c.loop-place.place c.index-files-place.result c.as_bytes-name.result.now c.is_among.result
    c.loop-place-test.true c.as_bytes-name.ensures.value (rw c.split_at.ensures.back at c.is_among.ensures) c.if-is_among.true)

pub loop-place-preserved : goal.loop-place-preserved
loop-place-preserved c =
    c.loop-place.invariant
    ∙ distinct-go c.args.files.now c.loop-place.place c.index-files-place.result c.as_bytes-name.result.now c.is_among.result
    c.loop-place-test.true c.as_bytes-name.ensures.value (rw c.split_at.ensures.back at c.is_among.ensures) c.if-is_among.false
