-- What is kept of a job as a request ends a tick.
use Rattle.std.proofs.Common.{◌≡◌, ℕ, ◌+◌, ◌*◌, ◌<◌, ◌≤◌, Bool, true, false, cond, List, [], ◌∷◌, ◌++◌, length, take, Option, Some, None, refl, sym, ap, subst, ◌∙◌, arith}
use Rattle.std.specs.Option.{option_map}
use Rattle.std.proofs.lemmas.Bool.{cond-false}
use Rattle.pm_base.specs.Moment.{tick_of}
use Rattle.pm_inventory.specs.Inventory.{InventoryState}
use Rattle.pm_history.specs.declared.entry.Side.{Side}
use Rattle.pm_history.specs.declared.entry.Side.TheVariants.{Job}
use Rattle.pm_history.specs.declared.entry.Entry.TheVariants.{Now}
use Rattle.pm_history.specs.History.{History, ◌▷◌, size, last_moment, before}
use Rattle.pm_history.specs.Terms.{Terms}
use Rattle.pm_history.specs.Standing as history
use Rattle.pm_history.specs.Standing.{Making, making_of, standing_after}
use Rattle.pm_history.specs.Files.{Report, file_of, file_at}
use Rattle.pm_history.proofs.HistoryLemmas.{before_all, before-stays}
use Rattle.pm_history.proofs.StandingLemmas.{place-lt}
use Rattle.pm_history.proofs.StepLemmas.{standing_after-now}
use Rattle.pm_asked.specs.Asked.{terms_of}
use Rattle.pm_jobs.specs.declared.standing.Standing.{Standing}
use Rattle.pm_jobs.specs.Stands.{StandsFor, Told, told, told_of}
use Rattle.pm_close.specs.declared.part.PartValues.{PartValues}
use Rattle.pm_close.specs.declared.report.OpenReport.{OpenReport}
use Rattle.pm_close.specs.declared.report.Due.{Due}
use Rattle.pm_close.specs.declared.open_job.OpenJob.{OpenJob}
use Rattle.pm_close.specs.Files.{report_with}
use Rattle.pm_close.specs.Reports.{ReportStands, EndsTick}
use Rattle.pm_close.specs.OpenJobs.{StandsAt, earlier_parts}
use Rattle.pm_close.specs.DueReports.{due_of, files_by}
use Rattle.pm_close.proofs.FileLemmas.{due-is-file}

-- ---- what stands under the id of a job

pub record IsMade (inventory : InventoryState) (h : History) (s : Standing) (made : history.Standing) : Type 0 where
  pub is : standing_after (terms_of inventory) Job h s.id ≡ Some made
  pub body : made.body ≡ s.body
  pub unlocked : made.unlocked ≡ s.unlocked
  pub changed : made.changed ≡ s.changed

some-same : {A : Type 0} (x y : A) → Some x ≡ Some y → x ≡ y
some-same x y is = cc

pub made-told : (inventory : InventoryState) (h : History) (s : Standing) (made : history.Standing) → StandsFor inventory Job h s
    → standing_after (terms_of inventory) Job h s.id ≡ Some made → IsMade inventory h s made
made-told inventory h s made stand is =
    let same : told made ≡ told_of s = some-same (told made) (told_of s) (sym (ap (option_map told) is) ∙ stand.told) in
    record {
      is = is;
      body = ap (λ (t : Told). t.body) same;
      unlocked = ap (λ (t : Told). t.unlocked) same;
      changed = ap (λ (t : Told). t.changed) same;
    }

pub made-is : (inventory : InventoryState) (h : History) (s : Standing) → StandsFor inventory Job h s
    → (made : history.Standing) × IsMade inventory h s made
made-is inventory h s stand = by (standing_after (terms_of inventory) Job h s.id) refl stand.told
  where
    by : (o : Option history.Standing) → standing_after (terms_of inventory) Job h s.id ≡ o → option_map told o ≡ Some (told_of s)
        → (made : history.Standing) × IsMade inventory h s made
    by None is none = cc
    by (Some made) is same = (made, made-told inventory h s made stand is)

pub made-some : (inventory : InventoryState) (h : History) (s : Standing) → StandsFor inventory Job h s → 0 < size h
made-some inventory h s stand =
    let made = made-is inventory h s stand in
    let lt = place-lt (terms_of inventory) Job h s.id made.0 made.1.is in
    omega (arith, lt)

-- ---- a tick

-- the file of what ended with a tick
abbrev pub files_of-due : List ℕ → Terms → List PartValues → Option Due → List Report
files_of-due id t earlier None = []
files_of-due id t earlier (Some due) = cond due.counted (report_with id t due.begin (earlier ++ due.parts.items) ∷ []) []

module _ (terms : Side → List ℕ → Terms) (g : History) where
  take-as : (n m : ℕ) (xs : List PartValues) → n ≡ m → take m xs ≡ take n xs
  take-as n m xs same = ap (λ k. take k xs) (sym same)

  pub goes-on : (w : Making) (t : Terms) (end n : ℕ) (xs : List PartValues) (new : OpenReport) → n ≡ length (take n xs)
      → ReportStands terms g w t end (take n xs) new → ReportStands terms g w t end (take new.earlier xs) new
  goes-on w t end n xs new own stand =
      subst (λ ps. ReportStands terms g w t end ps new) (sym (take-as n new.earlier xs (own ∙ sym stand.earlier_are))) stand

  pub begins-anew : (w : Making) (t : Terms) (end : ℕ) (xs : List PartValues) (new : OpenReport)
      → ReportStands terms g w t end [] new → ReportStands terms g w t end (take new.earlier xs) new
  begins-anew w t end xs new stand =
      subst (λ ps. ReportStands terms g w t end ps new) (sym (ap (λ k. take k xs) stand.earlier_are)) stand

  pub tick-stands : (w : Making) (t : Terms) (end n : ℕ) (xs : List PartValues) (new : OpenReport) (due : Option Due)
      → n ≡ length (take n xs) → EndsTick terms g w t end (take n xs) new due
      → ReportStands terms g w t end (take new.earlier xs) new
  tick-stands w t end n xs new None own ends = goes-on w t end n xs new own ends.0
  tick-stands w t end n xs new (Some due) own ends = begins-anew w t end xs new ends.0

  pub tick-file : (id : List ℕ) (made : history.Standing) (end : ℕ) (earlier : List PartValues) (new : OpenReport) (due : Option Due)
      → EndsTick terms g (making_of Job id made) (terms Job made.body) end earlier new due
      → file_of terms g id end (Some made) ≡ files_of-due id (terms Job made.body) earlier due
  tick-file id made end earlier new None ends = cond-false _ _ _ ends.1
  tick-file id made end earlier new (Some due) ends = due-is-file terms g id made end earlier due ends.1

-- a report that is due is told as its file
pub due-told : (inventory : InventoryState) (s : Standing) (job : OpenJob) (place end n : ℕ) (due : Option Due)
    → files_of-due s.id (terms_of inventory Job s.body) (earlier_parts job n) due
    ≡ files_by inventory s job (due_of place end n due)
due-told inventory s job place end n None = refl
due-told inventory s job place end n (Some due) = by due.counted
  where
    file : Report
    file = report_with s.id (terms_of inventory Job s.body) due.begin (earlier_parts job n ++ due.parts.items)

    by : (b : Bool) → cond b (file ∷ []) [] ≡ files_by inventory s job (cond b (Some (record { job = place; end = end; earlier = n; due = due })) None)
    by true = refl
    by false = refl

-- the file of a job at an end that comes with an entry in a later tick
pub file-now : (inventory : InventoryState) (h : History) (m end : ℕ) (s : Standing) (made : history.Standing)
    → tick_of (last_moment h) < end → end ≤ tick_of m → IsMade inventory h s made
    → file_at (terms_of inventory) (h ▷ Now m) end s.id ≡ file_of (terms_of inventory) (h ▷ Now m) s.id end (Some made)
file-now inventory h m end s made after le is =
    ap (λ (g : History). file_of (terms_of inventory) (h ▷ Now m) s.id end (standing_after (terms_of inventory) Job g s.id))
    (before-stays h (Now m) (60 * end) (omega (arith, le)) ∙ before_all h (60 * end) (omega (arith, after)))
    ∙ ap (file_of (terms_of inventory) (h ▷ Now m) s.id end) is.is

-- what a tick gives, where each making of the job ends it so
pub tick-ends : (inventory : InventoryState) (h : History) (m tick : ℕ) (s : Standing) (job : OpenJob) (place : ℕ) (old new : OpenReport)
    (due : Option Due)
    → tick_of (last_moment h) ≤ tick → tick < tick_of m → StandsFor inventory Job h s
    → StandsAt inventory (h ▷ Now m) s tick (earlier_parts job old.earlier) old
    → ((made : history.Standing) → IsMade inventory h s made
    → EndsTick (terms_of inventory) (h ▷ Now m) (making_of Job s.id made) (terms_of inventory Job s.body) (tick + 1)
    (earlier_parts job old.earlier) new due)
    → StandsAt inventory (h ▷ Now m) s (tick + 1) (earlier_parts job new.earlier) new
    × (file_at (terms_of inventory) (h ▷ Now m) (tick + 1) s.id ≡ files_by inventory s job (due_of place (tick + 1) old.earlier due))
tick-ends inventory h m tick s job place old new due from to stand before ends =
    let g : History = h ▷ Now m in
    let terms : Side → List ℕ → Terms = terms_of inventory in
    let first = made-is inventory h s stand in
    let made = first.0 in
    let is = first.1 in (
      λ other after.
          let is_other = made-told inventory h s other stand (sym (standing_after-now terms Job h s.id m) ∙ after) in
          let own = (before other after).earlier_are in
          tick-stands terms g (making_of Job s.id other) (terms Job s.body) (tick + 1) old.earlier job.report.parts.items new due own
          (ends other is_other),
      file-now inventory h m (tick + 1) s made (omega (arith, from)) (omega (arith, to)) is
          ∙ (tick-file terms g s.id made (tick + 1) (earlier_parts job old.earlier) new due
          (subst (λ body. EndsTick terms g (making_of Job s.id made) (terms Job body) (tick + 1) (earlier_parts job old.earlier) new due)
          (sym is.body) (ends made is))
          ∙ (ap (λ body. files_of-due s.id (terms Job body) (earlier_parts job old.earlier) due) is.body
          ∙ due-told inventory s job place (tick + 1) old.earlier due)),
    )
