-- A report that is put where it ends, among the files of other jobs.
use Rattle.std.proofs.Common.{◌≡◌, ◌≤◌, ◌<◌, ◌+◌, ◌*◌, ◌-◌, ◌++◌, ◌∷◌, [], ℕ, zero, suc, Bool, true, false, cond, eqb, List, length, map, take, get_or, Option, Some, None, refl, sym, ap, subst, ◌∙◌, arith, inl, inr, append_assoc}
use Rattle.std.specs.List.{AllByRecursion}
use Rattle.std.specs.Prelude.{IfSome}
use Rattle.std.proofs.lemmas.Bool.{cases_lt, cond-true, cond-false, eq-eqb, ne_eqb}
use Rattle.std.proofs.lemmas.List.{append-nil, map-append, length-append, length-map, get_or-map, get_or_append_left, get_or-append_right}
use Rattle.std.proofs.lemmas.List.Elements.{All-from_recursion}
use Rattle.pm_inventory.specs.Inventory.{InventoryState}
use Rattle.pm_history.specs.declared.entry.Side.{Side}
use Rattle.pm_history.specs.declared.entry.Side.TheVariants.{Job}
use Rattle.pm_history.specs.History.{History, before}
use Rattle.pm_history.specs.Terms.{Terms}
use Rattle.pm_history.specs.Ticks.{behind}
use Rattle.pm_history.specs.Standing as history
use Rattle.pm_history.specs.Standing.{making_of, standing_after}
use Rattle.pm_history.specs.Files.{Report, is_due, report_of, file_of, file_at}
use Rattle.pm_history.proofs.DistinctLemmas.{each-append, each-map}
use Rattle.pm_history.proofs.TickLemmas.{behind-add, behind-same}
use Rattle.pm_asked.specs.Asked.{terms_of}
use Rattle.pm_jobs.specs.declared.standing.Standing.{Standing}
use Rattle.pm_close.specs.declared.due_report.DueReport.{DueReport}
use Rattle.pm_close.specs.declared.open_job.OpenJob.{OpenJob}
use Rattle.pm_close.specs.DueReports.{AreFiles, IsPutByEnd, ends_of, report_ends, file_by, files_by_at, file_among, files_with}
use Rattle.pm_close.proofs.AddedLemmas.{file_at-end, among-file}
use Rattle.pm_close.proofs.PlaceLemmas.{flat_map-take, map-insert}

-- ---- the ends of files

abbrev EndsAt : ℕ → Report → Type 0
EndsAt end file = file.end ≡ end

file_of-ends : (terms : Side → List ℕ → Terms) (g : History) (id : List ℕ) (end : ℕ) (o : Option history.Standing)
    → AllByRecursion (EndsAt end) (file_of terms g id end o)
file_of-ends terms g id end None = tt
file_of-ends terms g id end (Some s) = by (is_due terms g (making_of Job id s) (terms Job s.body) end)
  where
    by : (b : Bool) → AllByRecursion (EndsAt end) (cond b (report_of terms g (making_of Job id s) (terms Job s.body) end ∷ []) [])
    by true = (refl, tt)
    by false = tt

with-ends : (inventory : InventoryState) (g : History) (end : ℕ) (jobs : List Standing)
    → AllByRecursion (EndsAt end) (files_with inventory jobs g end)
with-ends inventory g end [] = tt
with-ends inventory g end (s ∷ ss) =
    each-append (EndsAt end) (file_at (terms_of inventory) g end s.id) (files_with inventory ss g end)
    (file_of-ends (terms_of inventory) g s.id end (standing_after (terms_of inventory) Job (before (60 * end) g) s.id))
    (with-ends inventory g end ss)

behind-each : (P : Report → Type 0) (f : ℕ → List Report) (t n : ℕ)
    → ((e : ℕ) → t < e → e ≤ t + n → AllByRecursion P (f e)) → AllByRecursion P (behind f t n)
behind-each P f t zero each = tt
behind-each P f t (suc n) each =
    each-append P (behind f t n) (f (suc (t + n))) (behind-each P f t n (λ e after le. each e after (omega (arith, le))))
    (each (suc (t + n)) (omega arith) (omega arith))

-- ---- one file more at an end

module _ {A : Type 0} (f g : ℕ → List A) (last n end : ℕ) (x : A) (after : last < end) (within : end ≤ last + n)
    (adds : (e : ℕ) → last < e → e ≤ last + n → g e ≡ f e ++ cond (eqb end e) (x ∷ []) []) where
  same-other : (e : ℕ) → last < e → e ≤ last + n → (end ≡ e → ⊥) → g e ≡ f e
  same-other e from le other =
      adds e from le ∙ (ap (λ xs. f e ++ xs) (cond-false (eqb end e) (x ∷ []) [] (ne_eqb end e other)) ∙ append-nil (f e))

  up-to : (j : ℕ) → suc (last + j) ≡ end → behind g last (suc j) ≡ behind f last (suc j) ++ x ∷ []
  up-to j at =
      (λ i. behind-same g f last j
      (λ e from le. same-other e from (omega (arith, le, at, within)) (λ same. omega (arith, same, le, at))) i
      ++ (adds (suc (last + j)) (omega arith) (omega (arith, at, within))
      ∙ ap (λ xs. f (suc (last + j)) ++ xs) (cond-true (eqb end (suc (last + j))) (x ∷ []) [] (eq-eqb end (suc (last + j)) (sym at)))) i)
      ∙ sym (append_assoc (behind f last j) (f (suc (last + j))) (x ∷ []))

  parts : (h : ℕ → List A) → behind h last n ≡ behind h last (end - last) ++ behind h end (last + n - end)
  parts h =
      let all : n ≡ (end - last) + (last + n - end) = omega (arith, after, within) in
      let at : last + (end - last) ≡ end = omega (arith, after) in
      ap (behind h last) all
      ∙ (behind-add h last (end - last) (last + n - end)
      ∙ ap (λ t. behind h last (end - last) ++ behind h t (last + n - end)) at)

  pub behind-put : behind g last n ≡ behind f last (end - last) ++ x ∷ behind f end (last + n - end)
  behind-put =
      let j : end - last ≡ suc (end - last - 1) = omega (arith, after) in
      parts g
      ∙ ((λ i. (ap (behind g last) j ∙ (up-to (end - last - 1) (omega (arith, after)) ∙ ap (λ k. behind f last k ++ x ∷ []) (sym j))) i
      ++ behind-same g f end (last + n - end)
      (λ e from le. same-other e (omega (arith, after, from)) (omega (arith, le, within)) (λ same. omega (arith, same, from))) i)
      ∙ append_assoc (behind f last (end - last)) (x ∷ []) (behind f end (last + n - end)))

  pub behind-split : behind f last n ≡ behind f last (end - last) ++ behind f end (last + n - end)
  behind-split = parts f

-- ---- the place

place-is : (reports : List DueReport) (early late : List Report) (end place : ℕ) (report : DueReport) (file : Report)
    → ends_of reports ≡ report_ends (early ++ late)
    → AllByRecursion (λ (f : Report). f.end ≤ end) early → AllByRecursion (λ (f : Report). end < f.end) late
    → place ≤ length reports
    → ((k : ℕ) (d : DueReport) → k < place → (get_or reports k d).end ≤ end)
    → ((d : DueReport) → place < length reports → end < (get_or reports place d).end)
    → place ≡ length early
place-is reports early late end place report file ends before after within least next =
    let long = length-map reports (λ (r : DueReport). r.end) in
    let wide = length-map (early ++ late) (λ (f : Report). f.end) in
    let both = length-append early late in
    let same = ap length ends in
    let many : length reports ≡ length early + length late = omega (arith, long, wide, both, same) in
    let at : (k : ℕ) → k < length reports → (get_or reports k report).end ≡ (get_or (early ++ late) k file).end = λ k lt.
    sym (get_or-map (λ (r : DueReport). r.end) reports k report 0 lt)
    ∙ (ap (λ ns. get_or ns k 0) ends ∙ get_or-map (λ (f : Report). f.end) (early ++ late) k file 0 (omega (arith, lt, many, both))) in
    elim (cases_lt place (length early)) [
      | inl less ↦
          let own = at place (omega (arith, less, many)) in
          let here = ap (λ (f : Report). f.end) (get_or_append_left early late file place less) in
          let le = All-from_recursion (λ (f : Report). f.end ≤ end) early before place file less in
          let lt = next report (omega (arith, less, many)) in
          absurd (omega (arith, own, here, le, lt))
      | inr ge ↦
          elim (cases_lt (length early) place) [
            | inl more ↦
                let own = at (length early) (omega (arith, more, within)) in
                let here = ap (λ (f : Report). f.end) (get_or-append_right early late (length early) (length early) file refl (omega arith)) in
                let lt = All-from_recursion (λ (f : Report). end < f.end) late after (length early - length early) file
                (omega (arith, more, within, many)) in
                let le = least (length early) report more in
                absurd (omega (arith, own, here, lt, le))
            | inr up ↦ omega (arith, ge, up)
          ]
    ]

-- ---- one job more

with-more : (inventory : InventoryState) (g : History) (jobs : List Standing) (k end : ℕ) (s : Standing) → k < length jobs
    → get_or jobs k s ≡ s
    → files_with inventory (take (k + 1) jobs) g end ≡ files_with inventory (take k jobs) g end ++ file_at (terms_of inventory) g end s.id
with-more inventory g jobs k end s lt is = flat_map-take (λ (s : Standing). file_at (terms_of inventory) g end s.id) jobs k s lt is

pub puts-file : (inventory : InventoryState) (jobs : List Standing) (kept : List OpenJob) (g : History) (last n k : ℕ) (s : Standing)
    (job : OpenJob) (old new : List DueReport) (due : Option DueReport) → k < length jobs
    → ((d : Standing) → get_or jobs k d ≡ s) → ((d : OpenJob) → get_or kept k d ≡ job)
    → ((e : ℕ) → last < e → e ≤ last + n → file_at (terms_of inventory) g e s.id ≡ files_by_at inventory s job e due)
    → IfSome due (λ report. (last < report.end) × (report.end ≤ last + n))
    → IfSome due (λ report. report.job ≡ k)
    → IsPutByEnd old due new
    → AreFiles inventory jobs kept (behind (files_with inventory (take k jobs) g) last n) old
    → AreFiles inventory jobs kept (behind (files_with inventory (take (k + 1) jobs) g) last n) new
puts-file inventory jobs kept g last n k s job old new None lt s_is job_is file_is within place put are =
    subst (AreFiles inventory jobs kept (behind (files_with inventory (take (k + 1) jobs) g) last n)) (sym put)
    (subst (λ fs. AreFiles inventory jobs kept fs old)
    (sym (behind-same (files_with inventory (take (k + 1) jobs) g) (files_with inventory (take k jobs) g) last n
    (λ e after le. with-more inventory g jobs k e s lt (s_is s)
    ∙ (ap (λ fs. files_with inventory (take k jobs) g e ++ fs) (file_is e after le) ∙ append-nil (files_with inventory (take k jobs) g e)))))
    are)
puts-file inventory jobs kept g last n k s job old new (Some report) lt s_is job_is file_is within place put are =
    let end = report.end in
    let f : ℕ → List Report = files_with inventory (take k jobs) g in
    let file = file_by inventory s job report in
    let early = behind f last (end - last) in
    let late = behind f end (last + n - end) in
    let adds = λ (e : ℕ) (after : last < e) (le : e ≤ last + n).
    with-more inventory g jobs k e s lt (s_is s) ∙ ap (λ fs. f e ++ fs) (file_is e after le) in
    let all = behind-put f (files_with inventory (take (k + 1) jobs) g) last n end file within.0 within.1 adds in
    let halves = behind-split f (files_with inventory (take (k + 1) jobs) g) last n end file within.0 within.1 adds in
    let ends = are.ends ∙ ap report_ends halves in
    let at = place-is old early late end put.0 report file ends
    (behind-each (λ x. x.end ≤ end) f last (end - last)
    (λ e after le. each-map (EndsAt e) (λ x. x.end ≤ end) (f e) (λ x is. omega (arith, is, le, within.0)) (with-ends inventory g e (take k jobs))))
    (behind-each (λ x. end < x.end) f end (last + n - end)
    (λ e after le. each-map (EndsAt e) (λ x. end < x.end) (f e) (λ x is. omega (arith, is, after)) (with-ends inventory g e (take k jobs))))
    put.1 put.3 put.4 in
    let own : file_at (terms_of inventory) g end s.id ≡ file ∷ [] =
    file_is end within.0 within.1 ∙ cond-true (eqb end end) (file ∷ []) [] (eq-eqb end end refl) in
    record {
      told = λ d o.
          ap (map (file_among inventory jobs kept d o)) put.2
          ∙ (map-insert (file_among inventory jobs kept d o) old put.0 report early late (are.told d o ∙ halves) at
          ∙ (ap (λ x. early ++ x ∷ late) (among-file inventory jobs kept k s job report d o s_is job_is place) ∙ sym all));
      ends =
          ap ends_of put.2
          ∙ (map-insert (λ (r : DueReport). r.end) old put.0 report (report_ends early) (report_ends late)
          (ends ∙ map-append (λ (x : Report). x.end) early late) (at ∙ sym (length-map early (λ (x : Report). x.end)))
          ∙ (ap (λ e. report_ends early ++ e ∷ report_ends late) (sym (file_at-end (terms_of inventory) g s.id end file own))
          ∙ (sym (map-append (λ (x : Report). x.end) early (file ∷ late)) ∙ ap report_ends (sym all))));
    }
