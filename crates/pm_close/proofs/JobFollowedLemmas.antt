-- What is kept of the jobs once a plan is followed.
use Rattle.std.proofs.Common.{◌≡◌, [], Bool, true, false, cond, List, get_or, Option, Some, None, refl, sym, ap, subst, ◌∙◌, arith}
use Rattle.std.specs.Str.{bytes_eq}
use Rattle.std.proofs.lemmas.List.{get_or-map, length-map}
use Rattle.pm_base.specs.Moment.{tick_of}
use Rattle.pm_inventory.specs.Inventory.{InventoryState}
use Rattle.pm_history.specs.declared.entry.Side.TheVariants.{Job, Monitor}
use Rattle.pm_history.specs.declared.entry.Entry.TheVariants.{JobMade, JobState, JobDeleted}
use Rattle.pm_history.specs.Entry.{Change, Made, Moved, Deleted}
use Rattle.pm_history.specs.History.{History, ◌▷◌, IsHistory, grown, size, last_moment}
use Rattle.pm_history.specs.Standing as history
use Rattle.pm_history.specs.Standing.{standing_after, standing_next, after_change}
use Rattle.pm_asked.specs.Asked.{terms_of}
use Rattle.pm_jobs.specs.declared.standing.Standing.{Standing}
use Rattle.pm_jobs.specs.declared.plan.Plan.{Plan}
use Rattle.pm_jobs.specs.declared.plan.Plan.TheVariants.{Make, Same, Move, Already, Delete}
use Rattle.pm_jobs.specs.State.{JobsState, ids}
use Rattle.pm_jobs.specs.Plan.{IsNew, Suits, IsOver, entries_of, jobs_after, id_at}
use Rattle.pm_jobs.proofs.IdLemmas.{own_id, any_at, place-within}
use Rattle.pm_close.specs.declared.open_job.OpenJob.{OpenJob}
use Rattle.pm_history.specs.Standing.{making_of}
use Rattle.pm_close.specs.Reports.{ReportStands}
use Rattle.pm_close.specs.OpenJobs.{JobOpen, JobsOpen}
use Rattle.pm_close.specs.Following.{IsFresh, ComesWith, followed}
use Rattle.pm_close.proofs.JobFollowLemmas.{IsNoMaking, all-on, all-moved, one-less, one-more, none-counted}

none-named : (b : Bool) (change : Change) → b ≡ false → IsNoMaking (cond b (Some change) None)
none-named true change is = absurd cc
none-named false change is = tt

moves-only : (b : Bool) (unlocked : Bool) → IsNoMaking (cond b (Some (Moved unlocked)) None)
moves-only true unlocked = tt
moves-only false unlocked = tt

deletes-only : (b : Bool) → IsNoMaking (cond b (Some Deleted) None)
deletes-only true = tt
deletes-only false = tt

named : (b : Bool) (change : Change) → b ≡ true → cond b (Some change) None ≡ Some change
named true change is = refl
named false change is = cc

-- what a making makes stands at the place of its entry
fresh-place : (inventory : InventoryState) (h : History) (s : Standing) (made : history.Standing)
    → standing_after (terms_of inventory) Job (h ▷ JobMade s.changed s.id s.body) s.id ≡ Some made → made.place ≡ size h
fresh-place inventory h s made is =
    let new = ap (after_change (terms_of inventory) Job (size h) s.changed (standing_after (terms_of inventory) Job h s.id))
    (named (bytes_eq s.id s.id) (Made s.body) (own_id s.id)) in
    let same = sym new ∙ is in
    place-of _ made same
  where
    place-of : (a b : history.Standing) → Some a ≡ Some b → b.place ≡ a.place
    place-of a b same = let one : a ≡ b = cc in sym (ap (λ (x : history.Standing). x.place) one)

pub fresh-open : (inventory : InventoryState) (h : History) (s : Standing) (job : OpenJob)
    → s.changed ≡ last_moment h → IsNew inventory Job s → IsFresh inventory (tick_of (last_moment h)) s job
    → JobOpen inventory (h ▷ JobMade s.changed s.id s.body) s job
fresh-open inventory h s job at new fresh = record {
  asked = fresh.asked new.keeps;
  report = λ made is.
      let place = fresh-place inventory h s made is in
      let tick : tick_of (last_moment h) ≡ tick_of s.changed = ap tick_of (sym at) in
      subst (λ t. ReportStands (terms_of inventory) (h ▷ JobMade s.changed s.id s.body) (making_of Job s.id made)
      (terms_of inventory Job s.body) t [] job.report) tick
      (fresh.stands new.keeps (h ▷ JobMade s.changed s.id s.body) (making_of Job s.id made)
      (none-counted (terms_of inventory) h (JobMade s.changed s.id s.body) s.id made.place (tick_of (last_moment h))
      (omega (arith, place)) (omega (arith, tick))));
}

pub follows : (inventory : InventoryState) (jobs : JobsState) (h : History) (plan : Plan) (made : Option OpenJob) (kept : List OpenJob)
    → Suits jobs plan → IsOver inventory plan → ComesWith inventory (tick_of (last_moment h)) plan made
    → IsHistory (grown h (entries_of jobs plan)) → JobsOpen inventory h jobs.jobs kept
    → JobsOpen inventory (grown h (entries_of jobs plan)) (jobs_after jobs plan).jobs (followed kept plan made)
follows inventory jobs h (Make Job place s) (Some job) kept suits over comes is old =
    let same = (is.1.beside refl).1 in
    let within = place-within s.id (ids jobs.jobs) in
    let long = length-map jobs.jobs (λ (t : Standing). t.id) in
    let at = suits.at in
    one-more inventory (h ▷ JobMade s.changed s.id s.body) jobs.jobs kept place s job (omega (arith, at, within, long))
    (fresh-open inventory h s job same over comes)
    (all-on inventory h (JobMade s.changed s.id s.body) jobs.jobs kept is.1.later (ap tick_of same)
    (λ k t lt. none-named (bytes_eq s.id (get_or jobs.jobs k t).id) (Made s.body)
    (ap (bytes_eq s.id) (sym (get_or-map (λ (t : Standing). t.id) jobs.jobs k t [] lt))
    ∙ any_at s.id (ids jobs.jobs) k (omega (arith, lt, long)) suits.fresh)) old)
follows inventory jobs h (Make Job place s) None kept suits over comes is old = absurd comes
follows inventory jobs h (Make Monitor place s) made kept suits over comes is old =
    all-on inventory h _ jobs.jobs kept is.1.later (ap tick_of (is.1.beside refl).1) (λ k t lt. tt) old
follows inventory jobs h Same made kept suits over comes is old = old
follows inventory jobs h (Move Job place unlocked moment) made kept suits over comes is old =
    all-moved inventory (h ▷ JobState moment (id_at jobs Job place) unlocked) moment unlocked place jobs.jobs kept
    (all-on inventory h (JobState moment (id_at jobs Job place) unlocked) jobs.jobs kept is.1.later (ap tick_of (is.1.beside refl).1)
    (λ k t lt. moves-only (bytes_eq (id_at jobs Job place) (get_or jobs.jobs k t).id) unlocked) old)
follows inventory jobs h (Move Monitor place unlocked moment) made kept suits over comes is old =
    all-on inventory h _ jobs.jobs kept is.1.later (ap tick_of (is.1.beside refl).1) (λ k t lt. tt) old
follows inventory jobs h Already made kept suits over comes is old = old
follows inventory jobs h (Delete Job place moment) made kept suits over comes is old =
    one-less inventory (h ▷ JobDeleted moment (id_at jobs Job place)) jobs.jobs kept place suits
    (all-on inventory h (JobDeleted moment (id_at jobs Job place)) jobs.jobs kept is.1.later (ap tick_of (is.1.beside refl).1)
    (λ k t lt. deletes-only (bytes_eq (id_at jobs Job place) (get_or jobs.jobs k t).id)) old)
follows inventory jobs h (Delete Monitor place moment) made kept suits over comes is old =
    all-on inventory h _ jobs.jobs kept is.1.later (ap tick_of (is.1.beside refl).1) (λ k t lt. tt) old
