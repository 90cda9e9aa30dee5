use Rattle.std.proofs.Common.{◌∷◌, [], length, ap, ◌∙◌, arith}
use Rattle.std.proofs.lemmas.List.{length-append}
use Rattle.pm_close.proofs.EnactedLemmas.{same-more}
use Rattle.pm_close.proofs.open_monitors_book.plans_of.Goals as goal

pub loop-k-preserved : goal.loop-k-preserved
loop-k-preserved c =
    let was = c.loop-k.invariant in
    let is = c.in_ok-push.ensures.items in
    let many = was.as_many in
    let long = ap length is ∙ length-append c.loop-k.plans.items (c.new.result ∷ []) in
    record {
      as_many = omega (arith, long, many);
      same = same-more c.args.monitors.now c.loop-k.k c.index-monitors-k.result c.loop-k.plans.items c.push.new.self.items c.new.result
          c.loop-k-test.true c.index-monitors-k.is many is c.new.ensures was.same;
    }
