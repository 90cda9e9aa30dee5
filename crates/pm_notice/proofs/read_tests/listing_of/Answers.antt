use Rattle.std.proofs.Common.{rules}
use Rattle.pm_notice.proofs.ListingLemmas.{one-file}
use Rattle.pm_notice.proofs.read_tests.listing_of.Goals as goal

pub listing_text-requires : goal.listing_text-requires
listing_text-requires c =
    rw c.from_ref.ensures.value (one-file c.args.file.now (record { named = search rules; ready = search rules; size = search rules }))
