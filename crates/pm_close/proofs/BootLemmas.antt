-- Ticks that a start of the program ends, for the monitors that stand.
use Rattle.std.proofs.Common.{◌≡◌, ◌<◌, ◌≤◌, ◌-◌, ◌%◌, ◌*◌, ◌++◌, ◌&&◌, ℕ, zero, suc, Bool, true, false, not, cond, leb, eqb, List, [], ◌∷◌, length, get_or, Option, Some, None, refl, sym, subst, ◌∙◌, arith}
use Rattle.std.specs.List.{flat_map}
use Rattle.pm_base.specs.Moment.{tick_of}
use Rattle.pm_inventory.specs.Inventory.{InventoryState, slots}
use Rattle.pm_history.specs.declared.entry.Side.{Side}
use Rattle.pm_history.specs.declared.entry.Side.TheVariants.{Monitor}
use Rattle.pm_history.specs.declared.entry.Entry.TheVariants.{Boot}
use Rattle.pm_history.specs.declared.metric.Metric.{Metric}
use Rattle.pm_history.specs.History.{History, ◌▷◌, IsHistory, before, size, last_moment}
use Rattle.pm_history.specs.Terms.{Terms}
use Rattle.pm_history.specs.Standing.{Making, Standing, making_of, standing_after, ids_after}
use Rattle.pm_history.specs.Value.{is_suspect}
use Rattle.pm_history.specs.Notices.{value_at, crossings_of, crossings_under, crossings_at}
use Rattle.pm_history.proofs.StandingLemmas.{is_counted-boot}
use Rattle.pm_asked.specs.Asked.{terms_of}
use Rattle.pm_close.specs.declared.open_monitors.KeptMonitor.{KeptMonitor}
use Rattle.pm_close.specs.declared.open_monitors_plan.MonitorPlan.{MonitorPlan}
use Rattle.pm_close.specs.Marks.{NoneCounted}
use Rattle.pm_close.specs.OpenMonitors.{IsKeptUnder, AreKept}
use Rattle.pm_close.specs.MonitorPlans.{IsCutBy, enacted, all_enacted}
use Rattle.pm_close.proofs.PassLemmas.{value_at-uncounted, crossings-none}
use Rattle.pm_close.proofs.FollowLemmas.{as-many, kept-at, kept-from, all-stay}
use Rattle.pm_close.proofs.EnactedLemmas.{length-enacted, enacted-at}

none-counted : (terms : Side → List ℕ → Terms) (h : History) (m : ℕ) (w : Making) → 0 < size h
    → NoneCounted terms (h ▷ Boot m) w (tick_of (last_moment h)) (tick_of m)
none-counted terms h m w some t from lt = is_counted-boot terms h m w t some from lt

-- ---- crossings

-- a period of no ticks has no value either
value-none : (terms : Side → List ℕ → Terms) (h : History) (w : Making) (granularity object : ℕ) (m : Metric) (from tick end : ℕ)
    → NoneCounted terms h w from tick → from < end → end ≤ tick → value_at terms h w granularity object m end ≡ []
value-none terms h w zero object m from tick end none after within =
    by (leb 0 end && eqb (end % 0) 0 && not (is_suspect terms h w (end - 0) 0))
  where
    by : (b : Bool) → cond {A = List ℕ} b [] [] ≡ []
    by true = refl
    by false = refl
value-none terms h w (suc n) object m from tick end none after within =
    value_at-uncounted terms h w (suc n) object m from tick end (omega arith) none after within

none-of : (terms : Side → List ℕ → Terms) (h : History) (m end : ℕ) (id : List ℕ) (o : Option Standing) → 0 < size h
    → tick_of (last_moment h) < end → end ≤ tick_of m → crossings_of terms (h ▷ Boot m) id end o ≡ []
none-of terms h m end id None some after within = refl
none-of terms h m end id (Some s) some after within =
    let w = making_of Monitor id s in
    let granularity = (terms Monitor s.body).granularity in
    crossings-none terms (h ▷ Boot m) w granularity s.armed end (terms Monitor s.body).watched
    (λ object metric. value-none terms (h ▷ Boot m) w granularity object metric (tick_of (last_moment h)) (tick_of m) end
    (none-counted terms h m w some) after within)

pub no-crossings : (terms : Side → List ℕ → Terms) (h : History) (m end : ℕ) → 0 < size h → tick_of (last_moment h) < end
    → end ≤ tick_of m → crossings_at terms (h ▷ Boot m) end ≡ []
no-crossings terms h m end some after within = of_each (ids_after Monitor (before (60 * end) (h ▷ Boot m)))
  where
    of_each : (is : List (List ℕ)) → flat_map (crossings_under terms (h ▷ Boot m) end) is ≡ []
    of_each [] = refl
    of_each (i ∷ is) =
        let first = none-of terms h m end i (standing_after terms Monitor (before (60 * end) (h ▷ Boot m)) i) some after within in
        λ n. first n ++ of_each is n

-- ---- what is kept

cut-kept : (inventory : InventoryState) (h : History) (m tick : ℕ) (id : List ℕ) (k : KeptMonitor) (plan : MonitorPlan) → 0 < size h
    → tick_of m ≡ tick → IsCutBy tick k plan → IsKeptUnder inventory (h ▷ Boot m) (tick_of (last_moment h)) id k
    → IsKeptUnder inventory (h ▷ Boot m) tick id (enacted k plan)
cut-kept inventory h m tick id k plan some at cut kept s there =
    let terms = terms_of inventory in
    let was = kept s there in
    let w = making_of Monitor id s in
    record {
      granularity = was.granularity;
      stands = cut.stands terms (slots inventory) (h ▷ Boot m) w (terms Monitor s.body).watched s.armed (tick_of (last_moment h))
          (subst (NoneCounted terms (h ▷ Boot m) w (tick_of (last_moment h))) at (none-counted terms h m w some)) was.stands;
    }

pub cut-open : (inventory : InventoryState) (h : History) (m tick : ℕ) (is : List (List ℕ)) (ms : List KeptMonitor) (ps : List MonitorPlan)
    → IsHistory (h ▷ Boot m) → 0 < size h → tick_of m ≡ tick → length ps ≡ length ms
    → ((j : ℕ) (n : KeptMonitor) (d : MonitorPlan) → j < length ms → IsCutBy tick (get_or ms j n) (get_or ps j d))
    → AreKept inventory h (tick_of (last_moment h)) is ms
    → AreKept inventory (h ▷ Boot m) (tick_of m) is (all_enacted ms ps)
cut-open inventory h m tick is ms ps history some at many cut kept =
    let from = tick_of (last_moment h) in
    let stay = all-stay inventory h (Boot m) from history.1.later (omega arith) is ms (λ i. refl) kept in
    let long = length-enacted ms ps in
    subst (λ t. AreKept inventory (h ▷ Boot m) t is (all_enacted ms ps)) (sym at)
    (kept-from inventory (h ▷ Boot m) tick is (all_enacted ms ps) (long ∙ as-many inventory h from is ms kept)
    (λ k d lt.
    let less : k < length ms = omega (arith, lt, long) in
    let plan : MonitorPlan = record { marks = d.open.marks; watches = None } in
    subst (IsKeptUnder inventory (h ▷ Boot m) tick (get_or is k [])) (sym (enacted-at ms ps k d d plan many less))
    (cut-kept inventory h m tick (get_or is k []) (get_or ms k d) (get_or ps k plan) some at (cut k d plan less)
    (kept-at inventory (h ▷ Boot m) from is ms k d less stay))))
