-- The files of reports that are due, one after the other.
use Rattle.std.proofs.Common.{◌≡◌, ℕ, ◌+◌, ◌<◌, List, [], ◌∷◌, ◌++◌, Contains, length, map, take, get_or, Option, Ok, option_to_list, sym, ap, ◌∙◌, subst, arith, length-append}
use Rattle.std.proofs.lemmas.List.{take_more, get_or-map, get_or_default, get_or-append-add, length-map}
use Rattle.pm_inventory.specs.Inventory.{InventoryState}
use Rattle.pm_history.specs.Files.{Report}
use Rattle.pm_jobs.specs.declared.standing.Standing.{Standing}
use Rattle.pm_close.specs.declared.open_job.OpenJob.{OpenJob}
use Rattle.pm_close.specs.declared.due_report.DueReport.{DueReport}
use Rattle.pm_close.specs.DueReports.{AreAmong, AreFiles, file_among}
use Rattle.pm_ready.specs.declared.ready.ReadyFile.{ReadyFile}
use Rattle.pm_ready.specs.Due.{GivesFiles}
use Rattle.pm_ready.specs.Files.{File, AreFilesOf, file_of}
use Rattle.pm_ready.proofs.KeptLemmas.{files-append}

-- A list that has a place has an element.
pub some-of : {A : Type 0} (xs : List A) (i : ℕ) → i < length xs → A
some-of [] i lt = absurd (omega (arith, lt))
some-of (x ∷ xs) i lt = x

-- What comes after others is among all.
pub contained : {A : Type 0} (before added all : List A) (k : ℕ) (d : A) → all ≡ before ++ added → k < length added → Contains all (get_or added k d)
contained before added all k d is lt =
    let long = ap length is ∙ length-append before added in
    let x = get_or added k d in (
      length before + k,
      omega (arith, long, lt),
      ap (λ l. get_or l (length before + k) x) is ∙ (get_or-append-add before added k x ∙ get_or_default added k x d lt),
    )

module _ (inventory : InventoryState) (jobs : List Standing) (kept : List OpenJob) (added : List Report) (reports : List DueReport)
    (are : AreFiles inventory jobs kept added reports) where
  -- As many as are due.
  pub as-many : length reports ≡ length added
  as-many = sym (length-map reports (λ (r : DueReport). r.end)) ∙ (ap length are.ends ∙ length-map added (λ (r : Report). r.end))

  -- The file of the one at a place.
  pub at-place : (s : Standing) (job : OpenJob) (k : ℕ) (d : Report) (r : DueReport) → k < length reports
      → get_or added k d ≡ file_among inventory jobs kept s job (get_or reports k r)
  at-place s job k d r lt = ap (λ fs. get_or fs k d) (sym (are.told s job)) ∙ get_or-map (file_among inventory jobs kept s job) reports k r d lt

  -- One more file is made.
  pub one-more : (s : Standing) (job : OpenJob) (k : ℕ) (r : DueReport) (file : Option ReadyFile) (old new : List File) → k < length reports
      → GivesFiles inventory (file_among inventory jobs kept s job (get_or reports k r) ∷ []) (Ok file)
      → new ≡ old ++ map file_of (option_to_list file) → AreFilesOf inventory (take k added) old → AreFilesOf inventory (take (k + 1) added) new
  one-more s job k r file old new lt gives is so_far =
      let d = file_among inventory jobs kept s job (get_or reports k r) in
      let many = as-many in
      let more = take_more added k d (omega (arith, many, lt)) ∙ ap (λ x. take k added ++ x ∷ []) (at-place s job k d r lt) in
      subst (λ rs. AreFilesOf inventory rs new) (sym more)
      (subst (AreFilesOf inventory (take k added ++ d ∷ [])) (sym is)
      (files-append inventory (take k added) (d ∷ []) old (map file_of (option_to_list file)) so_far gives))

-- One more file is made, of the report at a place.
pub next-file : (inventory : InventoryState) (jobs : List Standing) (kept : List OpenJob) (all before added : List Report) (reports : List DueReport)
    (k : ℕ) (r : DueReport) (file : Option ReadyFile) (old new : List File) → AreFiles inventory jobs kept added reports → length jobs ≡ length kept
    → AreAmong (length jobs) reports → all ≡ before ++ added → k < length reports → r ≡ get_or reports k r
    → ((s : Standing) (job : OpenJob) → Contains all (file_among inventory jobs kept s job r)
    → GivesFiles inventory (file_among inventory jobs kept s job r ∷ []) (Ok file))
    → new ≡ old ++ map file_of (option_to_list file) → AreFilesOf inventory (take k added) old → AreFilesOf inventory (take (k + 1) added) new
next-file inventory jobs kept all before added reports k r file old new are paired among adds lt here gives more so_far =
    let in_jobs = among k r lt in
    let s = some-of jobs (get_or reports k r).job in_jobs in
    let job = some-of kept (get_or reports k r).job (subst (λ n. (get_or reports k r).job < n) paired in_jobs) in
    by s job (at-place inventory jobs kept added reports are s job k (file_among inventory jobs kept s job r) r lt)
  where
    by : (s : Standing) (job : OpenJob) → get_or added k (file_among inventory jobs kept s job r) ≡ file_among inventory jobs kept s job (get_or reports k r)
        → AreFilesOf inventory (take (k + 1) added) new
    by s job is =
        let many = as-many inventory jobs kept added reports are in
        let d = file_among inventory jobs kept s job r in
        let same = ap (file_among inventory jobs kept s job) (sym here) in
        let contains = subst (Contains all) (is ∙ same) (contained before added all k d adds (omega (arith, many, lt))) in
        one-more inventory jobs kept added reports are s job k r file old new lt
        (subst (λ x. GivesFiles inventory (file_among inventory jobs kept s job x ∷ []) (Ok file)) here (gives s job contains)) more so_far
