use Rattle.std.proofs.Common.{◌≡◌, true, sym, subst, ◌∙◌}
use Rattle.pm_kpi.specs.Key.{key_content}
use Rattle.pm_kpi.specs.Maps.{has_key}
use Rattle.pm_kpi.specs.declared.share.Share.{Share}
use Rattle.pm_kpi.proofs.SumLemmas.{one_more_share}
use Rattle.pm_kpi.proofs.sums.add_shares.Goals as goal

pub add_share-requires : goal.add_share-requires
add_share-requires c =
    let P : Share → Type 0 = λ s. has_key c.args.sums.now (key_content s.key) ≡ true in
    c.loop-share.invariant.stays (key_content c.share-item.result.key)
    ∙ subst P (sym c.share-item.is) (c.requires c.loop-share.share-index c.share-item.result c.loop-share-test.true)

pub loop-share-preserved : goal.loop-share-preserved
loop-share-preserved c = record {
  stays = λ q. c.add_share.ensures.stays q ∙ c.loop-share.invariant.stays q;
  added = λ base few holds.
      one_more_share c.args.shares.now c.loop-share.share-index base c.loop-share.sums c.add_share.new.sums c.share-item.result c.loop-share-test.true
      c.share-item.is few c.add_share.ensures.added (c.loop-share.invariant.added base few holds);
}
