use Rattle.std.proofs.Common.{◌≡◌, ◌+◌, ℕ, Some, Vec, Global, sym, ap, ◌∙◌}
use Rattle.std.specs.List.{flat_map}
use Rattle.std.proofs.lemmas.Result.{on_ok_weaker}
use Rattle.pm_inventory.specs.Inventory.{slots}
use Rattle.pm_history.specs.declared.entry.Side.TheVariants.{Monitor}
use Rattle.pm_history.specs.declared.entry.Entry.TheVariants.{Now}
use Rattle.pm_history.specs.History.{◌▷◌}
use Rattle.pm_history.specs.Standing.{Standing, making_of, standing_after}
use Rattle.pm_history.specs.Notices.{crossings_by, crossings_under}
use Rattle.pm_asked.specs.Asked.{terms_of}
use Rattle.pm_jobs.specs.Stands.{told_of}
use Rattle.pm_close.specs.OpenMonitors.{IsKept}
use Rattle.pm_close.specs.declared.crossing.Crossing.{Crossing}
use Rattle.pm_close.specs.Watched.{all_crossed}
use Rattle.pm_close.specs.MonitorPlans.{enacted}
use Rattle.pm_close.proofs.TickEndLemmas.{on_ok-each, if_ok-weaker, told-some, under-is}
use Rattle.pm_close.proofs.open_monitors_tick.end_monitor.Goals as goal

pub returns-clause-open : goal.returns-clause-open
returns-clause-open c =
    let id = c.args.standing.now.id in
    let tick = c.args.tick in
    let new = enacted c.args.monitor.now c.end_tick.new.self in
    λ inventory h m ends standing kept.
    let terms = terms_of inventory in
    on_ok-each (λ (s : Standing). standing_after terms Monitor h id ≡ Some s → IsKept inventory (h ▷ Now m) (tick + 1) id s new)
    c.end_tick.result
    (λ s. on_ok-each (λ (there : standing_after terms Monitor h id ≡ Some s). IsKept inventory (h ▷ Now m) (tick + 1) id s new)
    c.end_tick.result
    (λ there.
    let was = kept s there in
    let mark = c.counts_for-mark.ensures inventory h m s ends.history standing there ends.cut_is ends.over ends.ends in
    on_ok_weaker c.end_tick.result (λ now. record { granularity = was.granularity; stands = now })
    (c.end_tick.ensures.stands terms (slots inventory) (h ▷ Now m) (making_of Monitor id s) (terms Monitor s.body).watched s.armed tick
    ends.knows mark was.stands)))

pub returns-clause-crossings : goal.returns-clause-crossings
returns-clause-crossings c =
    let id = c.args.standing.now.id in
    let tick = c.args.tick in
    λ inventory h m ends standing kept.
    let terms = terms_of inventory in
    let found = told-some (standing_after terms Monitor h id) (told_of c.args.standing.now) standing.told in
    let s = found.0 in
    let there = found.1 in
    let was = kept s there in
    let w = making_of Monitor id s in
    let mark = c.counts_for-mark.ensures inventory h m s ends.history standing there ends.cut_is ends.over ends.ends in
    let is = ap (λ (g : ℕ). flat_map (crossings_by terms (h ▷ Now m) w g s.armed (tick + 1)) (terms Monitor s.body).watched)
    was.granularity ∙ sym (under-is terms h (Now m) tick id s ends.over ends.ends there) in
    if_ok-weaker (λ (v : Vec Crossing Global). all_crossed id (tick + 1) v.items ≡ flat_map (crossings_by terms (h ▷ Now m) w
    c.args.monitor.now.granularity s.armed (tick + 1)) (terms Monitor s.body).watched)
    (λ (v : Vec Crossing Global). all_crossed id (tick + 1) v.items ≡ crossings_under terms (h ▷ Now m) (tick + 1) id)
    c.end_tick.result (λ v told. told ∙ is)
    (c.end_tick.ensures.crossings terms (slots inventory) (h ▷ Now m) w (terms Monitor s.body).watched s.armed tick
    ends.knows mark was.stands)
