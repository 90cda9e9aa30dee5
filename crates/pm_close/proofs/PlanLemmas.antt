-- What is kept of the monitors that stand, behind a plan that pm_jobs enacts.
use Rattle.std.proofs.Common.{◌≡◌, ℕ, zero, suc, ◌+◌, ◌<◌, ◌≤◌, Bool, true, false, List, [], ◌∷◌, length, set, get_or, Option, Some, None, IfSome, refl, sym, ap, subst, ◌∙◌, arith}
use Rattle.std.specs.List.{insert, remove}
use Rattle.std.proofs.lemmas.List.{length-map, length-set}
use Rattle.std.proofs.lemmas.List.Edits.{length-insert, length-remove}
use Rattle.std.proofs.lemmas.Option.{same_Some}
use Rattle.pm_base.specs.Moment.{tick_of}
use Rattle.pm_inventory.specs.Inventory.{InventoryState}
use Rattle.pm_history.specs.declared.entry.Side.TheVariants.{Job, Monitor}
use Rattle.pm_history.specs.declared.entry.Entry.{Entry}
use Rattle.pm_history.specs.declared.entry.Entry.TheVariants.{MonitorMade, MonitorState, MonitorDeleted, JobMade, JobState, JobDeleted}
use Rattle.pm_history.specs.Entry.{Made, Moved, Deleted, moment_of, change_of}
use Rattle.pm_history.specs.History.{History, ◌▷◌, MayFollow, grown, size, last_moment}
use Rattle.pm_history.specs.Standing.{Standing, making_of, standing_after, after_change}
use Rattle.pm_asked.specs.Asked.{terms_of}
use Rattle.pm_jobs.specs.State.{JobsState, AreApart, ids}
use Rattle.pm_jobs.specs.Stands.{Stands}
use Rattle.pm_jobs.specs.Plan.{Suits, entries_of, jobs_after, moved_at, id_at}
use Rattle.pm_jobs.specs.declared.plan.Plan.{Plan}
use Rattle.pm_jobs.specs.declared.plan.Plan.TheVariants.{Make, Same, Move, Already, Delete}
use Rattle.pm_jobs.specs.declared.standing.Standing as job
use Rattle.pm_jobs.proofs.IdLemmas.{own_id, place-within}
use Rattle.pm_jobs.proofs.ItemLemmas.{ids-insert, ids-moved_at, ids-remove}
use Rattle.pm_jobs.proofs.StandsLemmas.{Does}
use Rattle.pm_close.specs.declared.cells.TickCells.{TickCells}
use Rattle.pm_close.specs.declared.marks.Marks.{Marks}
use Rattle.pm_close.specs.Values.{IsCovered}
use Rattle.pm_close.proofs.EachLemmas.{each-insert, each-remove}
use Rattle.pm_close.proofs.ObjectLemmas.{fact-set}
use Rattle.pm_close.specs.declared.open_monitors.KeptMonitor.{KeptMonitor}
use Rattle.pm_close.specs.OpenMonitors.{IsKept, IsKeptUnder, AreKept, MonitorsOpen, IsFresh, IsFor, IsRearmed, GoesOn, AllGoOn, IsFollowed, HasPlace, MayEnact}
use Rattle.pm_close.proofs.IdsLemmas.{ids-apart}
use Rattle.pm_close.proofs.MadeLemmas.{uncounted-before}
use Rattle.pm_close.proofs.FollowLemmas.{kept-insert, all-stay, others-stay, all-but-one, all-move, all-lock, unlocks}

-- ---- the entries

made-does : (moment : ℕ) (id body : List ℕ) → Does Monitor id (Made body) (MonitorMade moment id body)
made-does moment id body = record { here = rw (own_id id) refl; elsewhere = λ other ne. rw ne refl }

state-does : (moment : ℕ) (id : List ℕ) (unlocked : Bool) → Does Monitor id (Moved unlocked) (MonitorState moment id unlocked)
state-does moment id unlocked = record { here = rw (own_id id) refl; elsewhere = λ other ne. rw ne refl }

deleted-does : (moment : ℕ) (id : List ℕ) → Does Monitor id Deleted (MonitorDeleted moment id)
deleted-does moment id = record { here = rw (own_id id) refl; elsewhere = λ other ne. rw ne refl }

within-ids : (items : List job.Standing) (place : ℕ) → place < length items → place < length (ids items)
within-ids items place lt = rw (length-map items (λ (s : job.Standing). s.id)) lt

-- ---- a plan has a place beside jobs

pub has-place : (inventory : InventoryState) (jobs : JobsState) (tick : ℕ) (plan : Plan) (made : Option KeptMonitor) (many : ℕ)
    → many ≡ length jobs.monitors → Suits jobs plan → IsFor inventory tick plan made → HasPlace many plan made
has-place inventory jobs tick (Make Job place s) made many is suits for = tt
has-place inventory jobs tick (Make Monitor place s) None many is suits for = for
has-place inventory jobs tick (Make Monitor place s) (Some m) many is suits for =
    let at = suits.at in
    let few = suits.few in
    let within = place-within s.id (ids jobs.monitors) in
    let long = length-map jobs.monitors (λ (t : job.Standing). t.id) in
    (omega (arith, is, at, within, long), omega (arith, is, few))
has-place inventory jobs tick Same made many is suits for = tt
has-place inventory jobs tick (Move Job place unlocked moment) made many is suits for = tt
has-place inventory jobs tick (Move Monitor place unlocked moment) made many is suits for = omega (arith, is, suits)
has-place inventory jobs tick Already made many is suits for = tt
has-place inventory jobs tick (Delete Job place moment) made many is suits for = tt
has-place inventory jobs tick (Delete Monitor place moment) made many is suits for = omega (arith, is, suits)

-- ---- what is kept, where only one entry comes

stay-now : (inventory : InventoryState) (h : History) (e : Entry) (is : List (List ℕ)) (ms : List KeptMonitor)
    → last_moment h ≤ moment_of e → tick_of (moment_of e) ≡ tick_of (last_moment h)
    → ((id : List ℕ) → change_of Monitor id e ≡ None)
    → AreKept inventory h (tick_of (last_moment h)) is ms → AreKept inventory (h ▷ e) (tick_of (moment_of e)) is ms
stay-now inventory h e is ms le same none kept =
    subst (λ t. AreKept inventory (h ▷ e) t is ms) (sym same)
    (all-stay inventory h e (tick_of (last_moment h)) le (omega arith) is ms none kept)

pub monitors-open-stay : (inventory : InventoryState) (jobs : JobsState) (h : History) (e : Entry) (monitors : List KeptMonitor)
    → last_moment h ≤ moment_of e → tick_of (moment_of e) ≡ tick_of (last_moment h)
    → ((id : List ℕ) → change_of Monitor id e ≡ None)
    → MonitorsOpen inventory jobs h monitors → MonitorsOpen inventory jobs (h ▷ e) monitors
monitors-open-stay inventory jobs h e monitors le same none kept = stay-now inventory h e (ids jobs.monitors) monitors le same none kept

-- what is made is kept
made-kept : (inventory : InventoryState) (h : History) (made : job.Standing) (m : KeptMonitor)
    → last_moment h ≤ made.changed
    → IsFresh inventory (tick_of made.changed) made m
    → IsKeptUnder inventory (h ▷ MonitorMade made.changed made.id made.body) (tick_of made.changed) made.id m
made-kept inventory h made m le fresh s there =
    let terms = terms_of inventory in
    let e = MonitorMade made.changed made.id made.body in
    let own : Standing = record {
      place = size h;
      body = made.body;
      unlocked = (terms Monitor made.body).unlocked;
      changed = made.changed;
      armed = made.changed;
    } in
    let is : own ≡ s = same_Some own s (sym (ap
    (after_change terms Monitor (size h) made.changed (standing_after terms Monitor h made.id))
    (made-does made.changed made.id made.body).here) ∙ there) in
    let w = making_of Monitor made.id own in
    subst (λ (t : Standing). IsKept inventory (h ▷ e) (tick_of made.changed) made.id t m) is
    (record {
      granularity = fresh.granularity;
      stands = record {
        armed_before = omega arith;
        marks = fresh.marks terms (h ▷ e) w (λ t lt. uncounted-before terms h e w t refl (omega (arith, lt)));
        watches = fresh.watches terms (h ▷ e) w m.granularity made.changed;
      };
    })

apart-of : (inventory : InventoryState) (jobs : JobsState) (h : History) → Stands inventory jobs h → AreApart (ids jobs.monitors)
apart-of inventory jobs h stands = subst AreApart (sym stands.of_monitors.listed) (ids-apart Monitor h)

in-place : (inventory : InventoryState) (h : History) (is js : List (List ℕ)) (ms ns : List KeptMonitor) (t u : ℕ) → u ≡ t → js ≡ is → ns ≡ ms
    → AreKept inventory h t is ms → AreKept inventory h u js ns
in-place inventory h is js ms ns t u same listed kept all =
    subst (λ v. AreKept inventory h v js ns) (sym same)
    (subst (λ l. AreKept inventory h t l ns) (sym listed)
    (subst (AreKept inventory h t is) (sym kept) all))

make-open : (inventory : InventoryState) (jobs : JobsState) (h : History) (place : ℕ) (s : job.Standing) (m : KeptMonitor) (old new : List KeptMonitor)
    → new ≡ insert old place m → MayEnact inventory jobs h (Make Monitor place s) → IsFresh inventory (tick_of (last_moment h)) s m
    → MonitorsOpen inventory jobs h old
    → MonitorsOpen inventory (jobs_after jobs (Make Monitor place s)) (h ▷ MonitorMade s.changed s.id s.body) new
make-open inventory jobs h place s m old new is may fresh kept =
    let e = MonitorMade s.changed s.id s.body in
    let follows = may.history.1 in
    let le = follows.later in
    let same : tick_of s.changed ≡ tick_of (last_moment h) = ap tick_of (follows.beside refl).1 in
    let own = made-kept inventory h s m le (subst (λ t. IsFresh inventory t s m) (sym same) fresh) in
    let others = subst (λ t. AreKept inventory (h ▷ e) t (ids jobs.monitors) old) (sym same)
    (others-stay inventory h e (tick_of (last_moment h)) le (omega arith) (ids jobs.monitors) old s.id (Made s.body)
    (made-does s.changed s.id s.body) may.suits.fresh kept) in
    let all = kept-insert inventory (h ▷ e) (tick_of s.changed) (ids jobs.monitors) old place s.id m own others in
    let listed = ids-insert jobs.monitors place s in
    subst (AreKept inventory (h ▷ e) (tick_of s.changed) (ids (insert jobs.monitors place s))) (sym is)
    (subst (λ js. AreKept inventory (h ▷ e) (tick_of s.changed) js (insert old place m)) (sym listed) all)

move-open : (inventory : InventoryState) (jobs : JobsState) (h : History) (place moment : ℕ) (unlocked : Bool) (d m : KeptMonitor) (old new : List KeptMonitor)
    → new ≡ set old place m → MayEnact inventory jobs h (Move Monitor place unlocked moment)
    → ((i : List ℕ) → change_of Monitor i (MonitorState moment (id_at jobs Monitor place) unlocked) ≡ Some (Moved unlocked)
    → last_moment h ≤ moment → tick_of moment ≡ tick_of (last_moment h)
    → IsKeptUnder inventory h (tick_of (last_moment h)) i (get_or old place d)
    → IsKeptUnder inventory (h ▷ MonitorState moment (id_at jobs Monitor place) unlocked) (tick_of (last_moment h)) i m)
    → MonitorsOpen inventory jobs h old
    → MonitorsOpen inventory (jobs_after jobs (Move Monitor place unlocked moment)) (h ▷ MonitorState moment (id_at jobs Monitor place) unlocked) new
move-open inventory jobs h place moment unlocked d m old new is may own kept =
    let id = id_at jobs Monitor place in
    let e = MonitorState moment id unlocked in
    let follows = may.history.1 in
    let le = follows.later in
    let same : tick_of moment ≡ tick_of (last_moment h) = ap tick_of (follows.beside refl).1 in
    let does = state-does moment id unlocked in
    let all = all-move inventory h e (tick_of (last_moment h)) le (omega arith) (ids jobs.monitors) old place unlocked d m
    (apart-of inventory jobs h may.stands) (within-ids jobs.monitors place may.suits) does
    (own id does.here le same) kept in
    let listed = ids-moved_at moment unlocked place jobs.monitors in
    in-place inventory (h ▷ e) (ids jobs.monitors) (ids (moved_at moment unlocked place jobs.monitors)) (set old place m) new
    (tick_of (last_moment h)) (tick_of moment) same listed is all

lock-open : (inventory : InventoryState) (jobs : JobsState) (h : History) (place moment : ℕ) (old new : List KeptMonitor)
    → new ≡ old → MayEnact inventory jobs h (Move Monitor place false moment)
    → MonitorsOpen inventory jobs h old
    → MonitorsOpen inventory (jobs_after jobs (Move Monitor place false moment)) (h ▷ MonitorState moment (id_at jobs Monitor place) false) new
lock-open inventory jobs h place moment old new is may kept =
    let id = id_at jobs Monitor place in
    let e = MonitorState moment id false in
    let follows = may.history.1 in
    let le = follows.later in
    let same : tick_of moment ≡ tick_of (last_moment h) = ap tick_of (follows.beside refl).1 in
    let all = all-lock inventory h e (tick_of (last_moment h)) le (omega arith) (ids jobs.monitors) old place
    (apart-of inventory jobs h may.stands) (within-ids jobs.monitors place may.suits) (state-does moment id false) kept in
    in-place inventory (h ▷ e) (ids jobs.monitors) (ids (moved_at moment false place jobs.monitors)) old new
    (tick_of (last_moment h)) (tick_of moment) same (ids-moved_at moment false place jobs.monitors) is all

delete-open : (inventory : InventoryState) (jobs : JobsState) (h : History) (place moment : ℕ) (old new : List KeptMonitor)
    → new ≡ remove old place → MayEnact inventory jobs h (Delete Monitor place moment)
    → MonitorsOpen inventory jobs h old
    → MonitorsOpen inventory (jobs_after jobs (Delete Monitor place moment)) (h ▷ MonitorDeleted moment (id_at jobs Monitor place)) new
delete-open inventory jobs h place moment old new is may kept =
    let id = id_at jobs Monitor place in
    let e = MonitorDeleted moment id in
    let follows = may.history.1 in
    let le = follows.later in
    let same : tick_of moment ≡ tick_of (last_moment h) = ap tick_of (follows.beside refl).1 in
    let all = all-but-one inventory h e (tick_of (last_moment h)) le (omega arith) (ids jobs.monitors) old place
    (apart-of inventory jobs h may.stands) (within-ids jobs.monitors place may.suits) (deleted-does moment id) kept in
    let listed = ids-remove jobs.monitors place in
    in-place inventory (h ▷ e) (remove (ids jobs.monitors) place) (ids (remove jobs.monitors place)) (remove old place) new
    (tick_of (last_moment h)) (tick_of moment) same listed is all

-- an entry on a job
job-open : (inventory : InventoryState) (jobs : JobsState) (h : History) (e : Entry) (old new : List KeptMonitor)
    → new ≡ old → MayFollow h e → moment_of e ≡ last_moment h → ((id : List ℕ) → change_of Monitor id e ≡ None)
    → MonitorsOpen inventory jobs h old → AreKept inventory (h ▷ e) (tick_of (moment_of e)) (ids jobs.monitors) new
job-open inventory jobs h e old new is follows same none kept =
    subst (AreKept inventory (h ▷ e) (tick_of (moment_of e)) (ids jobs.monitors)) (sym is)
    (stay-now inventory h e (ids jobs.monitors) old follows.later (ap tick_of same) none kept)

pub followed-open : (inventory : InventoryState) (jobs : JobsState) (h : History) (plan : Plan) (made : Option KeptMonitor)
    (old new : List KeptMonitor) → IsFollowed plan made old new → MayEnact inventory jobs h plan
    → IsFor inventory (tick_of (last_moment h)) plan made → MonitorsOpen inventory jobs h old
    → MonitorsOpen inventory (jobs_after jobs plan) (grown h (entries_of jobs plan)) new
followed-open inventory jobs h (Make Job place s) made old new is may for kept =
    let follows = may.history.1 in
    job-open inventory jobs h (JobMade s.changed s.id s.body) old new is follows (follows.beside refl).1 (λ id. refl) kept
followed-open inventory jobs h (Make Monitor place s) None old new is may for kept = absurd for
followed-open inventory jobs h (Make Monitor place s) (Some m) old new is may for kept =
    make-open inventory jobs h place s m old new is may for kept
followed-open inventory jobs h Same made old new is may for kept = subst (MonitorsOpen inventory jobs h) (sym is) kept
followed-open inventory jobs h (Move Job place unlocked moment) made old new is may for kept =
    let follows = may.history.1 in
    job-open inventory jobs h (JobState moment (id_at jobs Job place) unlocked) old new is follows (follows.beside refl).1 (λ id. refl) kept
followed-open inventory jobs h (Move Monitor place true moment) made old new is may for kept =
    let e = MonitorState moment (id_at jobs Monitor place) true in
    move-open inventory jobs h place moment true is.monitor is.monitor old new is.is may
    (λ i does le same own. unlocks inventory h e (tick_of (last_moment h)) le (omega arith) i (get_or old place is.monitor)
    is.monitor same does is.rearmed own) kept
followed-open inventory jobs h (Move Monitor place false moment) made old new is may for kept =
    lock-open inventory jobs h place moment old new is may kept
followed-open inventory jobs h Already made old new is may for kept = subst (MonitorsOpen inventory jobs h) (sym is) kept
followed-open inventory jobs h (Delete Job place moment) made old new is may for kept =
    let follows = may.history.1 in
    job-open inventory jobs h (JobDeleted moment (id_at jobs Job place)) old new is follows (follows.beside refl).1 (λ id. refl) kept
followed-open inventory jobs h (Delete Monitor place moment) made old new is may for kept =
    delete-open inventory jobs h place moment old new is may kept

-- ---- as many as jobs have, and each can go on

length-moved_at : (moment : ℕ) (unlocked : Bool) (place : ℕ) (items : List job.Standing) → length (moved_at moment unlocked place items) ≡ length items
length-moved_at moment unlocked place [] = refl
length-moved_at moment unlocked zero (s ∷ ss) = refl
length-moved_at moment unlocked (suc place) (s ∷ ss) = let rest = length-moved_at moment unlocked place ss in omega (arith, rest)

pub followed-many : (jobs : JobsState) (plan : Plan) (made : Option KeptMonitor) (old new : List KeptMonitor)
    → HasPlace (length old) plan made → IsFollowed plan made old new → length old ≡ length jobs.monitors
    → length new ≡ length (jobs_after jobs plan).monitors
followed-many jobs (Make Job place s) made old new has is many = ap length is ∙ many
followed-many jobs (Make Monitor place s) None old new has is many = absurd has
followed-many jobs (Make Monitor place s) (Some m) old new has is many =
    let within = has.0 in
    let own = ap length is ∙ length-insert old place m within in
    let others = length-insert jobs.monitors place s (omega (arith, within, many)) in
    omega (arith, own, others, many)
followed-many jobs Same made old new has is many = ap length is ∙ many
followed-many jobs (Move Job place unlocked moment) made old new has is many = ap length is ∙ many
followed-many jobs (Move Monitor place true moment) made old new has is many =
    ap length is.is ∙ length-set old place is.monitor ∙ many ∙ sym (length-moved_at moment true place jobs.monitors)
followed-many jobs (Move Monitor place false moment) made old new has is many =
    ap length is ∙ many ∙ sym (length-moved_at moment false place jobs.monitors)
followed-many jobs Already made old new has is many = ap length is ∙ many
followed-many jobs (Delete Job place moment) made old new has is many = ap length is ∙ many
followed-many jobs (Delete Monitor place moment) made old new has is many =
    let own = length-remove old place has in
    let others = length-remove jobs.monitors place (omega (arith, has, many)) in
    let new_is = ap length is in
    omega (arith, new_is, own, others, many)

rearmed-goes_on : (cells : TickCells) (tick : ℕ) (old new : KeptMonitor) → IsRearmed old new → GoesOn cells tick old → GoesOn cells tick new
rearmed-goes_on cells tick old new rearmed on =
    let granularity = rearmed.granularity in
    let few = on.few in
    let marks = rearmed.marks in
    record {
      few = omega (arith, granularity, few);
      marks = (λ (g : ℕ) (m : Marks) (p : g ≡ old.granularity) (q : m ≡ old.open.marks). within-marks g m old p q on.marks) new.granularity
          new.open.marks granularity marks;
      reach = ap (λ (m : Marks). m.begin + m.count) marks ∙ on.reach;
      covered = subst (IsCovered cells) (sym marks) on.covered;
      within = rearmed.within cells.slots on.within;
    }
  where
    within-marks : (g : ℕ) (m : Marks) (o : KeptMonitor) → g ≡ o.granularity → m ≡ o.open.marks → o.open.marks.count < o.granularity → m.count < g
    within-marks g m o p q lt = let same : m.count ≡ o.open.marks.count = ap (λ (x : Marks). x.count) q in omega (arith, same, p, lt)

pub followed-go_on : (cells : TickCells) (tick : ℕ) (plan : Plan) (made : Option KeptMonitor) (old new : List KeptMonitor)
    → HasPlace (length old) plan made → IsFollowed plan made old new → IfSome made (GoesOn cells tick)
    → AllGoOn cells tick old → AllGoOn cells tick new
followed-go_on cells tick (Make Job place s) made old new has is fresh on = subst (AllGoOn cells tick) (sym is) on
followed-go_on cells tick (Make Monitor place s) None old new has is fresh on = absurd has
followed-go_on cells tick (Make Monitor place s) (Some m) old new has is fresh on =
    subst (AllGoOn cells tick) (sym is) (each-insert (GoesOn cells tick) old place m on fresh)
followed-go_on cells tick Same made old new has is fresh on = subst (AllGoOn cells tick) (sym is) on
followed-go_on cells tick (Move Job place unlocked moment) made old new has is fresh on = subst (AllGoOn cells tick) (sym is) on
followed-go_on cells tick (Move Monitor place true moment) made old new has is fresh on =
    subst (AllGoOn cells tick) (sym is.is)
    (λ k d lt. fact-set (GoesOn cells tick) old place is.monitor has
    (rearmed-goes_on cells tick (get_or old place is.monitor) is.monitor is.rearmed (on place is.monitor has)) k d
    (on k d (omega (arith, lt, length-set old place is.monitor))))
followed-go_on cells tick (Move Monitor place false moment) made old new has is fresh on = subst (AllGoOn cells tick) (sym is) on
followed-go_on cells tick Already made old new has is fresh on = subst (AllGoOn cells tick) (sym is) on
followed-go_on cells tick (Delete Job place moment) made old new has is fresh on = subst (AllGoOn cells tick) (sym is) on
followed-go_on cells tick (Delete Monitor place moment) made old new has is fresh on =
    subst (AllGoOn cells tick) (sym is) (each-remove (GoesOn cells tick) old place on)
