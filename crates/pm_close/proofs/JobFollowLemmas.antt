-- What is kept of the jobs, as one is made, changed or deleted.
use Rattle.std.proofs.Common.{◌≡◌, ◌≤◌, ◌<◌, ◌+◌, ◌*◌, ◌-◌, ◌&&◌, ◌∷◌, [], ℕ, not, zero, suc, Bool, true, false, cond, List, length, get_or, Option, Some, None, refl, sym, ap, subst, ◌∙◌, arith, inl, inr}
use Rattle.std.specs.Prelude.{nat_lt}
use Rattle.std.specs.List.{insert, remove}
use Rattle.std.proofs.lemmas.Bool.{cases_lt, and_left, and_right, ne_eqb}
use Rattle.std.proofs.lemmas.List.Edits.{length-insert, get_or-insert_below, get_or-insert_at, get_or-insert_above, length-remove, get_or-remove_below, get_or-remove_above}
use Rattle.pm_base.specs.Moment.{tick_of}
use Rattle.pm_inventory.specs.Inventory.{InventoryState}
use Rattle.pm_history.specs.declared.entry.Side.{Side}
use Rattle.pm_history.specs.declared.entry.Side.TheVariants.{Job}
use Rattle.pm_history.specs.declared.entry.Entry.{Entry}
use Rattle.pm_history.specs.Entry.{Change, Made, Moved, Deleted, moment_of, change_of}
use Rattle.pm_history.specs.History.{History, Start, ◌▷◌, size, last_moment, before, is_over, is_cut}
use Rattle.pm_history.specs.Terms.{Terms}
use Rattle.pm_history.specs.Standing as history
use Rattle.pm_history.specs.Standing.{Making, making_of, runs, standing_after, after_change, moved}
use Rattle.pm_history.proofs.HistoryLemmas.{before-stays}
use Rattle.pm_history.proofs.StandingLemmas.{place-lt}
use Rattle.pm_asked.specs.Asked.{terms_of}
use Rattle.pm_jobs.specs.declared.standing.Standing.{Standing}
use Rattle.pm_jobs.specs.Plan.{moved_at}
use Rattle.pm_close.specs.declared.part.PartValues.{PartValues}
use Rattle.pm_close.specs.declared.report.OpenReport.{OpenReport}
use Rattle.pm_close.specs.declared.open_job.OpenJob.{OpenJob}
use Rattle.pm_inventory.specs.Inventory.{slots}
use Rattle.pm_close.specs.Parts.{ReadEach, quantities_of}
use Rattle.pm_close.specs.Marks.{NoneCounted}
use Rattle.pm_close.specs.Reports.{ReportStands}
use Rattle.pm_close.specs.OpenJobs.{StandsAt, JobOpen, JobsOpen}
use Rattle.pm_close.proofs.StayLemmas.{reports-stay}

-- ---- one job, at an entry that doesn't make it

abbrev pub IsNoMaking : Option Change → Type 0
IsNoMaking (Some (Made body)) = ⊥
IsNoMaking o = Unit {0}

module _ (terms : Side → List ℕ → Terms) where
  -- what stood before has the same place
  stood : (place moment : ℕ) (old : Option history.Standing) (change : Option Change) (made : history.Standing) → IsNoMaking change
      → after_change terms Job place moment old change ≡ Some made
      → (was : history.Standing) × (old ≡ Some was) × (made.place ≡ was.place)
  stood place moment old None made unmade is = (made, is, refl)
  stood place moment old (Some (Made body)) made unmade is = absurd unmade
  stood place moment (Some was) (Some (Moved true)) made unmade is =
      let same : moved moment true was ≡ made = cc in (was, refl, sym (ap (λ (s : history.Standing). s.place) same))
  stood place moment (Some was) (Some (Moved false)) made unmade is =
      let same : moved moment false was ≡ made = cc in (was, refl, sym (ap (λ (s : history.Standing). s.place) same))
  stood place moment None (Some (Moved unlocked)) made unmade is = absurd cc
  stood place moment old (Some Deleted) made unmade is = absurd cc

pub stands-on : (inventory : InventoryState) (h : History) (e : Entry) (s : Standing) (tick : ℕ) (earlier : List PartValues)
    (report : OpenReport)
    → last_moment h ≤ moment_of e → tick ≤ tick_of (last_moment h) → IsNoMaking (change_of Job s.id e)
    → StandsAt inventory h s tick earlier report → StandsAt inventory (h ▷ e) s tick earlier report
stands-on inventory h e s tick earlier report later over unmade stand = λ made is.
    let was = stood (terms_of inventory) (size h) (moment_of e) (standing_after (terms_of inventory) Job h s.id) (change_of Job s.id e) made
    unmade is in
    subst (λ place. ReportStands (terms_of inventory) (h ▷ e) (record { side = Job; id = s.id; place = place })
    (terms_of inventory Job s.body) tick earlier report) (sym was.2)
    (reports-stay (terms_of inventory) h e (making_of Job s.id was.0) (terms_of inventory Job s.body) tick earlier report later over
    (stand was.0 was.1))

pub job-on : (inventory : InventoryState) (h : History) (e : Entry) (s : Standing) (job : OpenJob)
    → last_moment h ≤ moment_of e → tick_of (moment_of e) ≡ tick_of (last_moment h) → IsNoMaking (change_of Job s.id e)
    → JobOpen inventory h s job → JobOpen inventory (h ▷ e) s job
job-on inventory h e s job later same unmade old = record {
  asked = old.asked;
  report =
      subst (λ t. StandsAt inventory (h ▷ e) s t [] job.report) (sym same)
      (stands-on inventory h e s (tick_of (last_moment h)) [] job.report later (omega arith) unmade old.report);
}

-- the same of what has its id and its body
pub job-same : (inventory : InventoryState) (h : History) (s r : Standing) (job : OpenJob) → r.id ≡ s.id → r.body ≡ s.body
    → JobOpen inventory h s job → JobOpen inventory h r job
job-same inventory h s r job id body old = record {
  asked = record {
    granularity = ap (λ b. (terms_of inventory Job b).granularity) body ∙ old.asked.granularity;
    parts = ap (λ b. (terms_of inventory Job b).parts) body ∙ old.asked.parts;
    reads = subst (λ b. ReadEach (slots inventory) job.measures.items (quantities_of (terms_of inventory Job b).measured)) (sym body)
        old.asked.reads;
  };
  report = λ made is.
      subst (λ i. ReportStands (terms_of inventory) h (making_of Job i made) (terms_of inventory Job r.body) (tick_of (last_moment h)) []
      job.report) (sym id)
      (subst (λ b. ReportStands (terms_of inventory) h (making_of Job s.id made) (terms_of inventory Job b) (tick_of (last_moment h)) []
      job.report) (sym body)
      (old.report made (ap (standing_after (terms_of inventory) Job h) (sym id) ∙ is)));
}

-- ---- a job that is just made

runs-not : (place : ℕ) (o : Option history.Standing) → ((s : history.Standing) → o ≡ Some s → s.place < place) → runs place o ≡ false
runs-not place None lt = refl
runs-not place (Some s) lt =
    and_left _ s.unlocked (ne_eqb s.place place (λ same. let less = lt s refl in omega (arith, same, less)))

size-before : (h : History) (m : ℕ) → size (before m h) ≤ size h
size-before Start m = omega arith
size-before (h ▷ e) m = by (nat_lt (moment_of e) m) (size-before h m)
  where
    by : (b : Bool) → size (before m h) ≤ size h → size (cond b (h ▷ e) (before m h)) ≤ size h + 1
    by true le = omega arith
    by false le = omega (arith, le)

-- no tick before its making is counted
pub none-counted : (terms : Side → List ℕ → Terms) (h : History) (e : Entry) (id : List ℕ) (place tick : ℕ) → size h ≤ place
    → tick ≤ tick_of (moment_of e)
    → NoneCounted terms (h ▷ e) (record { side = Job; id = id; place = place }) 0 tick
none-counted terms h e id place tick at le u from lt =
    let g : History = before (60 * u) h in
    let small = size-before h (60 * u) in
    let begun : before (60 * u) (h ▷ e) ≡ g = before-stays h e (60 * u) (omega (arith, lt, le)) in
    let not_run = runs-not place (standing_after terms Job g id)
    (λ s is. let less = place-lt terms Job g id s is in omega (arith, less, small, at)) in
    and_left _ _ (and_right (is_over (h ▷ e) u && not (is_cut (h ▷ e) u)) _
    (ap (λ f. runs place (standing_after terms Job f id)) begun ∙ not_run))

-- ---- all jobs

pub all-on : (inventory : InventoryState) (h : History) (e : Entry) (jobs : List Standing) (kept : List OpenJob)
    → last_moment h ≤ moment_of e → tick_of (moment_of e) ≡ tick_of (last_moment h)
    → ((k : ℕ) (s : Standing) → k < length jobs → IsNoMaking (change_of Job (get_or jobs k s).id e))
    → JobsOpen inventory h jobs kept → JobsOpen inventory (h ▷ e) jobs kept
all-on inventory h e jobs kept later same unmade old = record {
  as_many = old.as_many;
  each = λ k s job lt. job-on inventory h e (get_or jobs k s) (get_or kept k job) later same (unmade k s lt) (old.each k s job lt);
}

pub moved_at-length : (moment : ℕ) (unlocked : Bool) (place : ℕ) (jobs : List Standing)
    → length (moved_at moment unlocked place jobs) ≡ length jobs
moved_at-length moment unlocked place [] = refl
moved_at-length moment unlocked zero (s ∷ ss) = refl
moved_at-length moment unlocked (suc place) (s ∷ ss) = ap suc (moved_at-length moment unlocked place ss)

moved_at-same : (moment : ℕ) (unlocked : Bool) (place : ℕ) (jobs : List Standing) (k : ℕ) (d : Standing)
    → ((get_or (moved_at moment unlocked place jobs) k d).id ≡ (get_or jobs k d).id)
    × ((get_or (moved_at moment unlocked place jobs) k d).body ≡ (get_or jobs k d).body)
moved_at-same moment unlocked place [] k d = (refl, refl)
moved_at-same moment unlocked zero (s ∷ ss) zero d = (refl, refl)
moved_at-same moment unlocked zero (s ∷ ss) (suc k) d = (refl, refl)
moved_at-same moment unlocked (suc place) (s ∷ ss) zero d = (refl, refl)
moved_at-same moment unlocked (suc place) (s ∷ ss) (suc k) d = moved_at-same moment unlocked place ss k d

pub all-moved : (inventory : InventoryState) (h : History) (moment : ℕ) (unlocked : Bool) (place : ℕ) (jobs : List Standing)
    (kept : List OpenJob)
    → JobsOpen inventory h jobs kept → JobsOpen inventory h (moved_at moment unlocked place jobs) kept
all-moved inventory h moment unlocked place jobs kept old =
    let long = moved_at-length moment unlocked place jobs in
    record {
      as_many = old.as_many ∙ sym long;
      each = λ k s job lt.
          let same = moved_at-same moment unlocked place jobs k s in
          job-same inventory h (get_or jobs k s) (get_or (moved_at moment unlocked place jobs) k s) (get_or kept k job) same.0 same.1
          (old.each k s job (omega (arith, lt, long)));
    }

pub one-less : (inventory : InventoryState) (h : History) (jobs : List Standing) (kept : List OpenJob) (place : ℕ)
    → place < length jobs → JobsOpen inventory h jobs kept → JobsOpen inventory h (remove jobs place) (remove kept place)
one-less inventory h jobs kept place within old =
    let as_many = old.as_many in
    let inside : place < length kept = omega (arith, within, as_many) in
    let fewer = length-remove jobs place within in
    let less = length-remove kept place inside in
    record {
      as_many = omega (arith, fewer, less, as_many);
      each = λ k s job lt. elim (cases_lt k place) [
        | inl below ↦
            subst (λ (x : Standing). JobOpen inventory h x (get_or (remove kept place) k job)) (sym (get_or-remove_below jobs place s k below within))
            (subst (λ (x : OpenJob). JobOpen inventory h (get_or jobs k s) x) (sym (get_or-remove_below kept place job k below inside))
            (old.each k s job (omega (arith, below, within))))
        | inr past ↦
            subst (λ (x : Standing). JobOpen inventory h x (get_or (remove kept place) k job)) (sym (get_or-remove_above jobs place s k past within))
            (subst (λ (x : OpenJob). JobOpen inventory h (get_or jobs (k + 1) s) x) (sym (get_or-remove_above kept place job k past inside))
            (old.each (k + 1) s job (omega (arith, lt, fewer))))
      ];
    }

pub one-more : (inventory : InventoryState) (h : History) (jobs : List Standing) (kept : List OpenJob) (place : ℕ) (s : Standing)
    (job : OpenJob)
    → place ≤ length jobs → JobOpen inventory h s job → JobsOpen inventory h jobs kept
    → JobsOpen inventory h (insert jobs place s) (insert kept place job)
one-more inventory h jobs kept place new made within one old =
    let as_many = old.as_many in
    let inside : place ≤ length kept = omega (arith, within, as_many) in
    let more = length-insert jobs place new within in
    let longer = length-insert kept place made inside in
    record {
      as_many = omega (arith, more, longer, as_many);
      each = λ k s job lt. elim (cases_lt k place) [
        | inl below ↦
            subst (λ (x : Standing). JobOpen inventory h x (get_or (insert kept place made) k job)) (sym (get_or-insert_below jobs place new s k below within))
            (subst (λ (x : OpenJob). JobOpen inventory h (get_or jobs k s) x) (sym (get_or-insert_below kept place made job k below inside))
            (old.each k s job (omega (arith, below, within))))
        | inr past ↦
            elim (cases_lt place k) [
              | inl above ↦
                  let at : k - 1 + 1 ≡ k = omega (arith, above) in
                  subst (λ i. JobOpen inventory h (get_or (insert jobs place new) i s) (get_or (insert kept place made) i job)) at
                  (subst (λ (x : Standing). JobOpen inventory h x (get_or (insert kept place made) (k - 1 + 1) job))
                  (sym (get_or-insert_above jobs place new s (k - 1) (omega (arith, above)) within))
                  (subst (λ (x : OpenJob). JobOpen inventory h (get_or jobs (k - 1) s) x)
                  (sym (get_or-insert_above kept place made job (k - 1) (omega (arith, above)) inside))
                  (old.each (k - 1) s job (omega (arith, lt, more, above)))))
              | inr up ↦
                  let at : place ≡ k = omega (arith, past, up) in
                  subst (λ i. JobOpen inventory h (get_or (insert jobs place new) i s) (get_or (insert kept place made) i job)) at
                  (subst (λ (x : Standing). JobOpen inventory h x (get_or (insert kept place made) place job))
                  (sym (get_or-insert_at jobs place new s within))
                  (subst (λ (x : OpenJob). JobOpen inventory h new x) (sym (get_or-insert_at kept place made job inside)) one))
            ]
      ];
    }
