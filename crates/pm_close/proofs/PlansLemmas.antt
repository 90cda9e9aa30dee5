-- Plans of all jobs, one by one.
use Rattle.std.proofs.Common.{◌≡◌, ◌≤◌, ◌<◌, ◌+◌, ◌-◌, ◌++◌, ◌&&◌, [], ℕ, suc, Bool, true, false, eqb, List, length, get_or, refl, sym, ap, subst, ◌∙◌, arith, inl, inr}
use Rattle.std.proofs.lemmas.Bool.{cases_lt, eq-eqb, ne_eqb}
use Rattle.std.proofs.lemmas.List.Elements.{All-from_recursion}
use Rattle.pm_base.specs.Moment.{tick_of}
use Rattle.pm_meas.specs.declared.cell.Cell.{Cell}
use Rattle.pm_inventory.specs.Inventory.{InventoryState}
use Rattle.pm_history.specs.declared.entry.Side.TheVariants.{Job}
use Rattle.pm_history.specs.declared.entry.Entry.TheVariants.{Now}
use Rattle.pm_history.specs.History.{History, ◌▷◌, IsHistory, is_cut, last_moment}
use Rattle.pm_history.specs.Ticks.{behind}
use Rattle.pm_history.specs.Files.{Report}
use Rattle.pm_history.proofs.HistoryLemmas.{is_cut-past}
use Rattle.pm_history.proofs.TickLemmas.{behind-none}
use Rattle.pm_jobs.specs.declared.standing.Standing.{Standing}
use Rattle.pm_jobs.specs.Stands.{StandsFor, SideStands}
use Rattle.pm_close.specs.declared.cells.TickCells.{TickCells}
use Rattle.pm_close.specs.declared.report.OpenReport.{OpenReport}
use Rattle.pm_close.specs.declared.due_report.DueReport.{DueReport}
use Rattle.pm_close.specs.declared.open_job.OpenJob.{OpenJob}
use Rattle.pm_close.specs.OpenJobs.{IsAsked, StandsAt, AreAsked, PlansStand, earlier_parts}
use Rattle.pm_close.specs.DueReports.{AreFiles, TickEnds, TicksEnd}

-- ---- one job

pub job-stands : (inventory : InventoryState) (h : History) (jobs : List Standing) (k : ℕ) (s : Standing)
    → get_or jobs k s ≡ s → k < length jobs → SideStands inventory Job jobs h → StandsFor inventory Job h s
job-stands inventory h jobs k s is lt stands =
    subst (StandsFor inventory Job h) is (All-from_recursion (StandsFor inventory Job h) jobs stands.each k s lt)

pub job-asked : (inventory : InventoryState) (jobs : List Standing) (kept : List OpenJob) (k : ℕ) (s : Standing) (job : OpenJob)
    → get_or jobs k s ≡ s → get_or kept k job ≡ job → k < length jobs → AreAsked inventory jobs kept → IsAsked inventory s job
job-asked inventory jobs kept k s job s_is job_is lt asked =
    subst (λ (x : Standing). IsAsked inventory x job) s_is
    (subst (λ (x : OpenJob). IsAsked inventory (get_or jobs k s) x) job_is (asked k s job lt))

pub plan-stands : (inventory : InventoryState) (h : History) (tick : ℕ) (jobs : List Standing) (kept : List OpenJob)
    (plans : List OpenReport) (k : ℕ) (s : Standing) (job : OpenJob) (plan : OpenReport)
    → get_or jobs k s ≡ s → get_or kept k job ≡ job → get_or plans k plan ≡ plan → k < length jobs
    → PlansStand inventory h tick jobs kept plans → StandsAt inventory h s tick (earlier_parts job plan.earlier) plan
plan-stands inventory h tick jobs kept plans k s job plan s_is job_is plan_is lt stand =
    subst (λ (x : Standing). StandsAt inventory h x tick (earlier_parts job plan.earlier) plan) s_is
    (subst (λ (x : OpenJob). StandsAt inventory h (get_or jobs k s) tick (earlier_parts x plan.earlier) plan) job_is
    (subst (λ (x : OpenReport). StandsAt inventory h (get_or jobs k s) tick (earlier_parts (get_or kept k job) x.earlier) x) plan_is
    (stand k s job plan lt)))

pub plan-placed : (inventory : InventoryState) (h : History) (tick : ℕ) (jobs : List Standing) (kept : List OpenJob)
    (k : ℕ) (s d : Standing) (job e : OpenJob) (plan : OpenReport)
    → get_or jobs k d ≡ s → get_or kept k e ≡ job
    → StandsAt inventory h s tick (earlier_parts job plan.earlier) plan
    → StandsAt inventory h (get_or jobs k d) tick (earlier_parts (get_or kept k e) plan.earlier) plan
plan-placed inventory h tick jobs kept k s d job e plan s_is job_is stand =
    subst (λ (x : Standing). StandsAt inventory h x tick (earlier_parts (get_or kept k e) plan.earlier) plan) (sym s_is)
    (subst (λ (x : OpenJob). StandsAt inventory h s tick (earlier_parts x plan.earlier) plan) (sym job_is) stand)

-- ---- a tick of many

boots-at : (h : History) (cut : Bool) (first t : ℕ) → IsHistory h → first ≡ tick_of (last_moment h) → first ≤ t
    → is_cut h (tick_of (last_moment h)) ≡ cut → is_cut h t ≡ (cut && eqb t first)
boots-at h cut first t is at from boots =
    elim (cases_lt first t) [
      | inl past ↦
          is_cut-past h t is (omega (arith, at, past))
          ∙ sym (none cut (eqb t first) (ne_eqb t first (λ same. omega (arith, same, past))))
      | inr up ↦
          let same : t ≡ first = omega (arith, from, up) in
          ap (is_cut h) (same ∙ at) ∙ (boots ∙ sym (all cut (eqb t first) (eq-eqb t first same)))
    ]
  where
    none : (a b : Bool) → b ≡ false → (a && b) ≡ false
    none true b is = is
    none false b is = refl

    all : (a b : Bool) → b ≡ true → (a && b) ≡ a
    all true b is = is
    all false b is = refl

pub one-tick : (inventory : InventoryState) (h : History) (m : ℕ) (kept : TickCells) (row : List Cell) (cut boots : Bool) (first t tick : ℕ)
    (jobs : List Standing) (open_jobs : List OpenJob) (before plans : List OpenReport)
    → first ≡ kept.first + kept.ticks → first ≤ t → t < tick → boots ≡ (cut && eqb t first)
    → TicksEnd inventory h m kept row cut tick jobs open_jobs before
    → PlansStand inventory (h ▷ Now m) t jobs open_jobs plans
    → TickEnds inventory h m kept row boots t jobs open_jobs plans
one-tick inventory h m kept row cut boots first t tick jobs open_jobs before plans first_is from lt boots_is ends stand =
    let reach = ends.reach in
    let to = ends.to in
    record {
      now = record {
        is = ends.is;
        knows = ends.knows;
        from = omega (arith, reach, first_is, from);
        to = omega (arith, to, lt);
        boots = boots-at h cut first t ends.is (first_is ∙ reach) from ends.boots ∙ sym boots_is;
      };
      stands = ends.stands;
      asked = ends.asked;
      plans_stand = stand;
    }

-- the files of one more tick
pub behind-next : {A : Type 0} (f : ℕ → List A) (last t n : ℕ) → last ≤ t → t + 1 ≡ last + n
    → behind f last (t - last) ++ f (t + 1) ≡ behind f last n
behind-next f last t n from at =
    let next : n ≡ suc (t - last) = omega (arith, from, at) in
    let here : t + 1 ≡ suc (last + (t - last)) = omega (arith, from) in
    (λ i. behind f last (t - last) ++ f (here i)) ∙ sym (ap (behind f last) next)

-- no reports are no files
pub no-files : (inventory : InventoryState) (jobs : List Standing) (kept : List OpenJob) (reports : List DueReport) → reports ≡ []
    → AreFiles inventory jobs kept [] reports
no-files inventory jobs kept reports none =
    subst (AreFiles inventory jobs kept []) (sym none) (record { told = λ s job. refl; ends = refl })

pub no-files_behind : (inventory : InventoryState) (jobs : List Standing) (kept : List OpenJob) (f : ℕ → List Report) (last n : ℕ)
    (reports : List DueReport) → ((e : ℕ) → f e ≡ []) → reports ≡ []
    → AreFiles inventory jobs kept (behind f last n) reports
no-files_behind inventory jobs kept f last n reports nothing none =
    subst (λ fs. AreFiles inventory jobs kept fs reports) (sym (behind-none f last n (λ e after le. nothing e)))
    (no-files inventory jobs kept reports none)
