use Rattle.std.proofs.Common.{◌≡◌, ◌<◌, ◌≤◌, ◌+◌, ℕ, [], length, get_or, sym, ap, subst, ◌∙◌, arith}
use Rattle.std.specs.List.{flat_map}
use Rattle.std.proofs.lemmas.List.{length-map, length-set, take_all}
use Rattle.pm_inventory.specs.Inventory.{InventoryState}
use Rattle.pm_history.specs.declared.entry.Side.TheVariants.{Monitor}
use Rattle.pm_history.specs.declared.entry.Entry.TheVariants.{Now}
use Rattle.pm_history.specs.History.{History, ◌▷◌}
use Rattle.pm_history.specs.Notices.{crossings_under}
use Rattle.pm_asked.specs.Asked.{terms_of}
use Rattle.pm_jobs.specs.State.{ids}
use Rattle.pm_jobs.specs.Stands.{Stands, StandsFor}
use Rattle.pm_jobs.specs.declared.standing.Standing as job
use Rattle.pm_close.specs.declared.open_monitors.KeptMonitor.{KeptMonitor}
use Rattle.pm_close.specs.Watched.{all_crossed}
use Rattle.pm_close.specs.OpenMonitors.{GoesOn, IsKeptUnder, AreKept}
use Rattle.pm_close.specs.MonitorPlans.{enacted, all_enacted, told_as, crossings_in_place}
use Rattle.pm_close.proofs.ObjectLemmas.{fact-more, later-more, crossed-more}
use Rattle.pm_close.proofs.FollowLemmas.{kept-at, kept-from}
use Rattle.pm_close.proofs.EnactedLemmas.{length-enacted, enacted-there, enacted-next, fact-more-at}
use Rattle.pm_close.proofs.TickEndLemmas.{at-place, id-there, at-id, told-in-place, at-end}
use Rattle.pm_close.proofs.open_monitors_tick.end_monitors.Goals as goal

pub end_monitor-requires-clause-goes_on : goal.end_monitor-requires-clause-goes_on
end_monitor-requires-clause-goes_on c =
    let ms = c.args.monitors.now in
    let ps = c.args.plans.now in
    let k = c.loop-k.k in
    let m = c.index-monitors-k.result in
    let p = c.index-plans-k.result in
    let lt : k < length ms = omega (arith, c.loop-k-test.true, c.requires.plans) in
    let self : k ≤ k = omega arith in
    subst (GoesOn c.args.kept.now c.args.tick)
    (enacted-there ms ps c.loop-k.plans k m p c.requires.plans lt c.index-monitors-k.is (c.loop-k.invariant.later k p self))
    (c.requires.go_on k m (omega (arith, lt, length-enacted ms ps)))

pub loop-k-preserved : goal.loop-k-preserved
loop-k-preserved c =
    let ms = c.args.monitors.now in
    let ps = c.args.plans.now in
    let now = c.loop-k.plans in
    let k = c.loop-k.k in
    let m = c.index-monitors-k.result in
    let p = c.index-plans-k.result in
    let new = c.end_monitor.new.plan in
    let was = c.loop-k.invariant in
    let tick = c.args.tick in
    let is = ids c.args.jobs.now.monitors in
    let s = c.at-standing.result.now in
    let ended = c.in_ok-new.ensures in
    let many = was.as_many in
    let lt : k < length ms = omega (arith, c.loop-k-test.true, c.requires.plans) in
    let as_many : length now ≡ length ms = omega (arith, many, c.requires.plans) in
    let room : k < length (all_enacted ms now) = omega (arith, lt, length-enacted ms now) in
    let self : k ≤ k = omega arith in
    let there = enacted-there ms ps now k m p c.requires.plans lt c.index-monitors-k.is (was.later k p self) in
    let next = enacted-next ms now k m new as_many lt c.index-monitors-k.is in
    let id = id-there c.args.jobs.now.monitors k s c.at-standing.ensures in
    let old : (inventory : InventoryState) (h : History) (n : ℕ) → AreKept inventory (h ▷ Now n) tick is (all_enacted ms ps)
    → IsKeptUnder inventory (h ▷ Now n) tick s.id (enacted m (get_or now k p)) =
    λ inventory h n kept. subst (λ i. IsKeptUnder inventory (h ▷ Now n) tick i (enacted m (get_or now k p))) id
    (subst (IsKeptUnder inventory (h ▷ Now n) tick (get_or is k [])) there
    (kept-at inventory (h ▷ Now n) tick is (all_enacted ms ps) k m (omega (arith, lt, length-enacted ms ps)) kept)) in
    let standing : (inventory : InventoryState) (h : History) → Stands inventory c.args.jobs.now h → StandsFor inventory Monitor h s =
    λ inventory h stands. at-place (StandsFor inventory Monitor h) c.args.jobs.now.monitors k s stands.of_monitors.each
    c.at-standing.ensures in
    record {
      as_many = length-set now k new ∙ many;
      later = later-more ps now k new was.later;
      go_on = subst (λ l. (j : ℕ) (d : KeptMonitor) → j < k + 1 → GoesOn c.args.kept.now (tick + 1) (get_or l j d)) (sym next)
          (fact-more (GoesOn c.args.kept.now (tick + 1)) (all_enacted ms now) k (enacted m new) room ended.goes_on was.go_on);
      stand = λ inventory h n ends stands kept.
          let own = ended.open inventory h n ends (standing inventory h stands) (old inventory h n kept) in
          subst (λ l. (j : ℕ) (d : KeptMonitor) → j < k + 1 → IsKeptUnder inventory (h ▷ Now n) (tick + 1) (get_or is j []) (get_or l j d))
          (sym next)
          (fact-more-at (λ j x. IsKeptUnder inventory (h ▷ Now n) (tick + 1) (get_or is j []) x) (all_enacted ms now) k (enacted m new) room
          (subst (λ i. IsKeptUnder inventory (h ▷ Now n) (tick + 1) i (enacted m new)) (sym id) own)
          (was.stand inventory h n ends stands kept));
      crossed = λ inventory h n ends stands kept.
          let told = ended.crossings inventory h n ends (standing inventory h stands) (old inventory h n kept) in
          crossed-more (crossings_under (terms_of inventory) (h ▷ Now n) (tick + 1)) (told_as is (tick + 1)) is k s.id []
          c.loop-k.crossings.items (crossings_in_place k c.deref.result.now) c.add_crossings.new.all.items
          (omega (arith, lt, c.requires.as_many, length-map c.args.jobs.now.monitors (λ (x : job.Standing). x.id)))
          (at-id is k s.id id (omega (arith, lt, c.requires.as_many, length-map c.args.jobs.now.monitors (λ (x : job.Standing). x.id))))
          c.in_ok-add_crossings.ensures (was.crossed inventory h n ends stands kept)
          (told-in-place is (tick + 1) k s.id c.deref.result.now id ∙ ap (all_crossed s.id (tick + 1)) c.deref.ensures.value ∙ told);
    }

pub returns-clause-go_on : goal.returns-clause-go_on
returns-clause-go_on c =
    let ms = c.args.monitors.now in
    λ k d lt. c.loop-k.invariant.go_on k d
    (omega (arith, lt, length-enacted ms c.loop-k.plans, c.loop-k-test.false, c.requires.plans))

pub returns-clause-open : goal.returns-clause-open
returns-clause-open c =
    let ms = c.args.monitors.now in
    let is = ids c.args.jobs.now.monitors in
    let long = length-enacted ms c.loop-k.plans in
    λ inventory h m ends stands kept.
    kept-from inventory (h ▷ Now m) (c.args.tick + 1) is (all_enacted ms c.loop-k.plans)
    (long ∙ c.requires.as_many ∙ sym (length-map c.args.jobs.now.monitors (λ (x : job.Standing). x.id)))
    (λ k d lt. c.loop-k.invariant.stand inventory h m ends stands kept k d
    (omega (arith, lt, long, c.loop-k-test.false, c.requires.plans)))

pub returns-clause-crossings : goal.returns-clause-crossings
returns-clause-crossings c =
    let is = ids c.args.jobs.now.monitors in
    let tick = c.args.tick in
    let past : length is ≤ c.loop-k.k = omega (
      arith,
      c.loop-k-test.false,
      c.requires.plans,
      c.requires.as_many,
      length-map c.args.jobs.now.monitors (λ (x : job.Standing). x.id),
    ) in
    λ inventory h m ends stands kept.
    c.loop-k.invariant.crossed inventory h m ends stands kept
    ∙ ap (flat_map (crossings_under (terms_of inventory) (h ▷ Now m) (tick + 1))) (take_all c.loop-k.k is past)
    ∙ at-end (terms_of inventory) h (Now m) tick is ends.over ends.ends stands.of_monitors.listed
