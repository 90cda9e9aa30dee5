use Rattle.std.proofs.Common.{◌≡◌, ◌<◌, ◌+◌, ◌∷◌, ℕ, [], List, length, get_or, refl, sym, ap, subst, ◌∙◌, arith}
use Rattle.std.proofs.lemmas.List.{length-append}
use Rattle.pm_base.specs.Moment.{tick_of}
use Rattle.pm_history.specs.declared.entry.Entry.TheVariants.{Now}
use Rattle.pm_history.specs.History.{◌▷◌, last_moment}
use Rattle.pm_history.specs.Notices.{crossings_at}
use Rattle.pm_asked.specs.Asked.{terms_of}
use Rattle.pm_jobs.specs.State.{ids}
use Rattle.pm_close.specs.declared.open_monitors_tick.EndCrossings.{EndCrossings}
use Rattle.pm_close.specs.OpenMonitors.{AllGoOn, AreKept}
use Rattle.pm_close.specs.MonitorPlans.{all_enacted, all_told}
use Rattle.pm_close.proofs.EachLemmas.{each-push-at}
use Rattle.pm_close.proofs.FollowLemmas.{all-stay}
use Rattle.pm_close.proofs.TickEndLemmas.{tick-ends}
use Rattle.pm_close.proofs.open_monitors_book.end_ticks.Goals as goal

pub loop-t-init : goal.loop-t-init
loop-t-init c =
    let all = all_enacted c.args.monitors.now c.args.plans.now in
    let open_tick = c.end-open_tick.result in
    let is = c.end-open_tick.ensures in
    let none = ap length c.new-ends.ensures.items in
    record {
      as_many = refl;
      from = omega arith;
      go_on = subst (λ t. AllGoOn c.args.kept.now t all) (sym is) c.requires.go_on;
      stand = λ inventory h m ends kept.
          let follows = ends.history.1 in
          let at : open_tick ≡ tick_of (last_moment h) = is ∙ ends.cells.reach in
          subst (λ t. AreKept inventory (h ▷ Now m) t (ids c.args.jobs.now.monitors) all) (sym at)
          (all-stay inventory h (Now m) (tick_of (last_moment h)) follows.later (omega arith) (ids c.args.jobs.now.monitors) all
          (λ i. refl) kept);
      crossed = λ inventory h m ends kept. record {
        as_many = omega (arith, none);
        each = λ k d lt. absurd (omega (arith, none, lt));
      };
    }

pub loop-t-preserved : goal.loop-t-preserved
loop-t-preserved c =
    let was = c.loop-t.invariant in
    let ended = c.in_ok-end_monitors.ensures in
    let t = c.loop-t.t in
    let from = was.from in
    let many = was.as_many in
    let jobs = c.args.jobs.now in
    let ends_before = c.loop-t.ends.items in
    let end = c.in_ok-end_monitors.field-0 in
    let is = c.in_ok-push.ensures.items in
    record {
      as_many = c.end_monitors.auto.plans ∙ many;
      from = omega (arith, from);
      go_on = ended.go_on;
      stand = λ inventory h m ends kept.
          ended.open inventory h m
          (tick-ends inventory jobs h m c.args.kept.now c.args.row.now c.args.cut c.cuts-cut.result c.args.tick c.end-open_tick.result t
          ends c.end-open_tick.ensures from c.loop-t-test.true c.cuts-cut.ensures)
          ends.stands (was.stand inventory h m ends kept);
      crossed = λ inventory h m ends kept.
          let told = ended.crossings inventory h m
          (tick-ends inventory jobs h m c.args.kept.now c.args.row.now c.args.cut c.cuts-cut.result c.args.tick
          c.end-open_tick.result t ends c.end-open_tick.ensures from c.loop-t-test.true c.cuts-cut.ensures)
          ends.stands (was.stand inventory h m ends kept) in
          let before = was.crossed inventory h m ends kept in
          let as_many = before.as_many in
          let long = ap length is ∙ length-append ends_before (end ∷ []) in
          let open_tick = c.end-open_tick.result in
          let P : ℕ → EndCrossings → Type 0 = λ k e. all_told (ids jobs.monitors) (open_tick + k + 1) e.crossings.items
          ≡ crossings_at (terms_of inventory) (h ▷ Now m) (open_tick + k + 1) in
          record {
            as_many = omega (arith, as_many, long);
            each = subst (λ (l : List EndCrossings). (k : ℕ) (d : EndCrossings) → k < length l → P k (get_or l k d)) (sym is)
                (each-push-at P ends_before end before.each
                (subst (λ n. all_told (ids jobs.monitors) (n + 1) end.crossings.items
                ≡ crossings_at (terms_of inventory) (h ▷ Now m) (n + 1)) (sym as_many) told));
          };
    }

pub returns-clause-open : goal.returns-clause-open
returns-clause-open c =
    let all = all_enacted c.args.monitors.now c.loop-t.plans in
    λ inventory h m ends kept.
    let up_to = ends.up_to in
    let at : c.loop-t.t ≡ tick_of m = omega (arith, up_to, c.loop-t-test.false, c.requires.later, c.end-open_tick.ensures, c.loop-t.auto.t-end) in
    subst (λ t. AreKept inventory (h ▷ Now m) t (ids c.args.jobs.now.monitors) all) at
    (c.loop-t.invariant.stand inventory h m ends kept)
