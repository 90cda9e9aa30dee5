use Rattle.std.proofs.Common.{◌≡◌, ◌+◌, ℕ, ◌∷◌, [], ◌++◌, List, map, take, get_or, sym, ap, subst, ◌∙◌}
use Rattle.std.proofs.lemmas.List.{map-append, take_more}
use Rattle.pm_history.specs.Notices as history
use Rattle.pm_thresh.specs.declared.direction.Direction.TheVariants.{Up}
use Rattle.pm_jobs.specs.State.{ids}
use Rattle.pm_close.specs.declared.open_monitors_tick.MonitorCrossing.{MonitorCrossing}
use Rattle.pm_close.specs.MonitorPlans.{told_as, all_told}
use Rattle.pm_notify.specs.Notices.{AreNoticesFrom}
use Rattle.pm_notify.specs.Tellable.{IsTellable}
use Rattle.pm_notify.proofs.ListLemmas.{each_at, each-from_map}
use Rattle.pm_notify.proofs.ToldLemmas.{told_more}
use Rattle.pm_notify.proofs.added.AddedNotices.add_crossings.Goals as goal

pub loop-crossing-preserved : goal.loop-crossing-preserved
loop-crossing-preserved c =
    let inventory = c.args.inventory.now in
    let names = ids c.args.jobs.now.monitors in
    let end = c.args.end in
    let all = c.args.crossings.now in
    let i = c.loop-crossing.crossing-index in
    let lt = c.loop-crossing-test.true in
    let was = c.loop-crossing.invariant in
    let old = c.loop-crossing.self in
    let new = c.add_crossing.new.self in
    let d : MonitorCrossing = record {
      monitor = 0;
      crossing = record { threshold = 0; metric = 0; object = 0; direction = Up; value = 0; limit = 0; hysteresis = 0 };
    } in
    let x = get_or all i d in
    record {
      first = c.in_ok-add_crossing.ensures.first ∙ was.first;
      told = λ before are tellable.
          let told = before ++ map history.Crossing (all_told names end (take i all)) in
          let done = subst (λ (n : ℕ). AreNoticesFrom inventory n told old.notices.items) (sym was.first) (was.told before are tellable) in
          let one = each_at (λ (m : MonitorCrossing). IsTellable inventory (told_as names end m)) all i d
          (each-from_map (IsTellable inventory) (told_as names end) all tellable) lt in
          let more : all_told names end (take (i + 1) all) ≡ all_told names end (take i all) ++ told_as names end x ∷ [] =
          ap (all_told names end) (take_more all i d lt) ∙ map-append (told_as names end) (take i all) (x ∷ []) in
          subst (λ (n : ℕ). AreNoticesFrom inventory n (before ++ map history.Crossing (all_told names end (take (i + 1) all))) new.notices.items) was.first
          (subst (λ (ns : List history.Notice). AreNoticesFrom inventory old.first ns new.notices.items)
          (told_more history.Crossing before (all_told names end (take i all)) (all_told names end (take (i + 1) all)) (told_as names end x) more)
          (c.in_ok-add_crossing.ensures.told told done one));
    }
