-- Reports that are added as files.
use Rattle.std.proofs.Common.{◌≡◌, ◌<◌, ◌+◌, ◌*◌, ◌-◌, ◌++◌, ◌∷◌, [], ℕ, Bool, true, false, cond, List, length, map, get_or, Option, Some, None, sym, ap, subst, ◌∙◌, arith, inl, inr}
use Rattle.std.specs.Prelude.{IfSome, option_to_list}
use Rattle.std.proofs.lemmas.Bool.{cases_lt}
use Rattle.std.specs.List.{insert}
use Rattle.std.proofs.lemmas.List.Edits.{length-insert, get_or-insert_below, get_or-insert_at, get_or-insert_above}
use Rattle.std.proofs.lemmas.List.{append-nil, map-append, length-append, get_or_append_left, get_or_push}
use Rattle.pm_inventory.specs.Inventory.{InventoryState}
use Rattle.pm_history.specs.declared.entry.Side.{Side}
use Rattle.pm_history.specs.declared.entry.Side.TheVariants.{Job}
use Rattle.pm_history.specs.History.{History, before}
use Rattle.pm_history.specs.Terms.{Terms}
use Rattle.pm_history.specs.Standing as history
use Rattle.pm_history.specs.Standing.{making_of, standing_after}
use Rattle.pm_history.specs.Files.{Report, is_due, report_of, file_of, file_at}
use Rattle.pm_asked.specs.Asked.{terms_of}
use Rattle.pm_jobs.specs.declared.standing.Standing.{Standing}
use Rattle.pm_close.specs.declared.due_report.DueReport.{DueReport}
use Rattle.pm_close.specs.declared.open_job.OpenJob.{OpenJob}
use Rattle.pm_close.specs.DueReports.{IsPutByEnd, AreAmong, AreFiles, ends_of, report_ends, file_by, files_by, file_among}

-- a file at an end has that end
file_of-end : (terms : Side → List ℕ → Terms) (g : History) (id : List ℕ) (end : ℕ) (o : Option history.Standing) (x : Report)
    → file_of terms g id end o ≡ x ∷ [] → x.end ≡ end
file_of-end terms g id end None x is = cc
file_of-end terms g id end (Some s) x is = by (is_due terms g (making_of Job id s) (terms Job s.body) end) is
  where
    head-same : (a b : Report) → a ∷ [] ≡ b ∷ [] → b.end ≡ a.end
    head-same a b same = let one : a ≡ b = cc in sym (ap (λ (f : Report). f.end) one)

    by : (b : Bool) → cond b (report_of terms g (making_of Job id s) (terms Job s.body) end ∷ []) [] ≡ x ∷ [] → x.end ≡ end
    by true same = head-same (report_of terms g (making_of Job id s) (terms Job s.body) end) x same
    by false same = cc

pub file_at-end : (terms : Side → List ℕ → Terms) (g : History) (id : List ℕ) (end : ℕ) (x : Report)
    → file_at terms g end id ≡ x ∷ [] → x.end ≡ end
file_at-end terms g id end x is = file_of-end terms g id end (standing_after terms Job (before (60 * end) g) id) x is

pub among-file : (inventory : InventoryState) (jobs : List Standing) (kept : List OpenJob) (k : ℕ) (s : Standing) (job : OpenJob)
    (report : DueReport) (d : Standing) (o : OpenJob)
    → ((d : Standing) → get_or jobs k d ≡ s) → ((d : OpenJob) → get_or kept k d ≡ job) → report.job ≡ k
    → file_among inventory jobs kept d o report ≡ file_by inventory s job report
among-file inventory jobs kept k s job report d o s_is job_is at =
    (λ i. file_by inventory (get_or jobs (at i) d) (get_or kept (at i) o) report)
    ∙ (λ i. file_by inventory (s_is d i) (job_is o i) report)

-- one more, if there is one, with its file
pub adds-file : (inventory : InventoryState) (jobs : List Standing) (kept : List OpenJob) (g : History) (end k : ℕ) (s : Standing)
    (job : OpenJob) (files : List Report) (old new : List DueReport) (due : Option DueReport)
    → ((d : Standing) → get_or jobs k d ≡ s) → ((d : OpenJob) → get_or kept k d ≡ job)
    → file_at (terms_of inventory) g end s.id ≡ files_by inventory s job due
    → IfSome due (λ report. (report.job ≡ k) × (report.end ≡ end))
    → new ≡ old ++ option_to_list due
    → AreFiles inventory jobs kept files old
    → AreFiles inventory jobs kept (files ++ file_at (terms_of inventory) g end s.id) new
adds-file inventory jobs kept g end k s job files old new None s_is job_is file_is place is are =
    let same : new ≡ old = is ∙ append-nil old in
    let all : files ++ file_at (terms_of inventory) g end s.id ≡ files = ap (λ fs. files ++ fs) file_is ∙ append-nil files in
    subst (λ fs. AreFiles inventory jobs kept fs new) (sym all) (subst (AreFiles inventory jobs kept files) (sym same) are)
adds-file inventory jobs kept g end k s job files old new (Some report) s_is job_is file_is place is are =
    let file = file_by inventory s job report in
    record {
      told = λ d o.
          ap (map (file_among inventory jobs kept d o)) is
          ∙ (map-append (file_among inventory jobs kept d o) old (report ∷ [])
          ∙ ((λ i. are.told d o i ++ among-file inventory jobs kept k s job report d o s_is job_is place.0 i ∷ [])
          ∙ ap (λ fs. files ++ fs) (sym file_is)));
      ends =
          ap ends_of is
          ∙ (map-append (λ (r : DueReport). r.end) old (report ∷ [])
          ∙ ((λ i. are.ends i ++ (place.1 ∙ sym (file_at-end (terms_of inventory) g s.id end file file_is)) i ∷ [])
          ∙ (sym (map-append (λ (f : Report). f.end) files (file ∷ [])) ∙ ap (λ fs. report_ends (files ++ fs)) (sym file_is))));
    }

pub among-put : (n k : ℕ) (old new : List DueReport) (due : Option DueReport) → k < n
    → IfSome due (λ report. report.job ≡ k) → IsPutByEnd old due new
    → AreAmong n old → AreAmong n new
among-put n k old new None lt place put are = subst (AreAmong n) (sym put) are
among-put n k old new (Some report) lt place put are =
    subst (AreAmong n) (sym put.2)
    (λ j d within.
    let long = length-insert old put.0 report put.1 in
    elim (cases_lt j put.0) [
      | inl below ↦
          subst (λ (r : DueReport). r.job < n) (sym (get_or-insert_below old put.0 report d j below put.1))
          (are j d (omega (arith, below, put.1)))
      | inr past ↦
          elim (cases_lt put.0 j) [
            | inl above ↦
                let at : j - 1 + 1 ≡ j = omega (arith, above) in
                subst (λ i. (get_or (insert old put.0 report) i d).job < n) at
                (subst (λ (r : DueReport). r.job < n) (sym (get_or-insert_above old put.0 report d (j - 1) (omega (arith, above)) put.1))
                (are (j - 1) d (omega (arith, within, long, above))))
            | inr up ↦
                let at : put.0 ≡ j = omega (arith, past, up) in
                subst (λ i. (get_or (insert old put.0 report) i d).job < n) at
                (subst (λ (r : DueReport). r.job < n) (sym (get_or-insert_at old put.0 report d put.1)) (omega (arith, place, lt)))
          ]
    ])

pub among-more : (n k : ℕ) (old new : List DueReport) (due : Option DueReport) → k < n
    → IfSome due (λ report. report.job ≡ k) → new ≡ old ++ option_to_list due
    → AreAmong n old → AreAmong n new
among-more n k old new None lt place is are = subst (AreAmong n) (sym (is ∙ append-nil old)) are
among-more n k old new (Some report) lt place is are =
    subst (AreAmong n) (sym is)
    (λ j d within.
    let long = length-append old (report ∷ []) in
    elim (cases_lt j (length old)) [
      | inl below ↦ subst (λ (r : DueReport). r.job < n) (sym (get_or_append_left old (report ∷ []) d j below)) (are j d below)
      | inr past ↦
          subst (λ (r : DueReport). r.job < n) (sym (get_or_push old report d j (omega (arith, long, within, past))))
          (omega (arith, place, lt))
    ])
