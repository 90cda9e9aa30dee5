use Rattle.std.proofs.Common.{rules}
use Rattle.pm_notice.proofs.RoundLemmas.{one-rising, one-numbered}
use Rattle.pm_notice.proofs.tests.round.Goals as goal

pub deliver-requires : goal.deliver-requires
deliver-requires c some =
    record {
      rising = rw c.from_ref.ensures.value (one-rising c.args.notice.now);
      numbered = rw c.from_ref.ensures.value (one-numbered c.args.notice.now 1 (search rules));
      cursors = search rules;
    }
