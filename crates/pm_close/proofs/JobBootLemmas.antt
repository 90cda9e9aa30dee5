-- What is kept of a job as a start of the program ends ticks.
use Rattle.std.proofs.Common.{◌≡◌, ℕ, suc, ◌+◌, ◌-◌, ◌*◌, ◌/◌, ◌%◌, ◌<◌, ◌≤◌, ◌&&◌, Bool, true, false, cond, leb, eqb, List, [], ◌∷◌, ◌++◌, length, take, Option, Some, None, refl, sym, ap, subst, ◌∙◌, arith, inl, inr, suc-mul}
use Rattle.std.specs.Prelude.{IfSome}
use Rattle.std.specs.Cmp.{first_so, second_so}
use Rattle.std.proofs.lemmas.Bool.{cases_lt, cond-false, eqb-true, ne_eqb, eq-eqb}
use Rattle.std.proofs.lemmas.Nat.{mul-le}
use Rattle.std.proofs.Math.Nat.{div-add-mod, mul_comm}
use Rattle.pm_base.specs.Moment.{tick_of}
use Rattle.pm_inventory.specs.Inventory.{InventoryState}
use Rattle.pm_history.specs.declared.entry.Side.{Side}
use Rattle.pm_history.specs.declared.entry.Side.TheVariants.{Job}
use Rattle.pm_history.specs.declared.entry.Entry.TheVariants.{Boot}
use Rattle.pm_history.specs.History.{History, ◌▷◌, last_moment, before}
use Rattle.pm_history.specs.Terms.{Terms, reporting}
use Rattle.pm_history.specs.Standing as history
use Rattle.pm_history.specs.Standing.{Making, making_of, standing_after}
use Rattle.pm_history.specs.Counted.{some_counted}
use Rattle.pm_history.specs.Files.{Report, is_due, file_of, file_at}
use Rattle.pm_history.proofs.HistoryLemmas.{before_all, before-stays}
use Rattle.pm_history.proofs.StepLemmas.{standing_after-boot}
use Rattle.pm_asked.specs.Asked.{terms_of}
use Rattle.pm_jobs.specs.declared.standing.Standing.{Standing}
use Rattle.pm_jobs.specs.Stands.{StandsFor}
use Rattle.pm_close.specs.declared.part.PartValues.{PartValues}
use Rattle.pm_close.specs.declared.report.OpenReport.{OpenReport}
use Rattle.pm_close.specs.declared.report.Due.{Due}
use Rattle.pm_close.specs.declared.due_report.DueReport.{DueReport}
use Rattle.pm_close.specs.declared.open_job.OpenJob.{OpenJob}
use Rattle.pm_close.specs.Files.{report_with}
use Rattle.pm_close.specs.Marks.{NoneCounted}
use Rattle.pm_close.specs.Reports.{ReportStands, DueStands, EndsTicks}
use Rattle.pm_close.specs.OpenJobs.{StandsAt, earlier_parts}
use Rattle.pm_close.specs.DueReports.{due_of, files_by_at}
use Rattle.pm_close.proofs.FileLemmas.{due-is-file}
use Rattle.pm_close.proofs.GapLemmas.{file_of-gap}
use Rattle.pm_close.proofs.OpenJobLemmas.{IsMade, made-told, made-is, goes-on, begins-anew}

next-multiple : (a b r : ℕ) → a * r < b * r → a * r + r ≤ b * r
next-multiple a b r lt =
    elim (cases_lt a b) [
      | inl less ↦
          let all = mul-le (suc a) r b r (omega (arith, less)) (omega arith) in
          let more = suc-mul a r in
          omega (arith, all, more)
      | inr past ↦
          let all = mul-le b r a r past (omega arith) in
          absurd (omega (arith, all, lt))
    ]

as-multiple : (e r : ℕ) → e % r ≡ 0 → e ≡ (e / r) * r
as-multiple e r none =
    let parts = div-add-mod e r in
    let turned = mul_comm r (e / r) in
    omega (arith, parts, turned, none)

-- the file at an end, if the report ended with it
abbrev pub files_of-ended : List ℕ → Terms → ℕ → ℕ → List PartValues → Option Due → List Report
files_of-ended id t end at earlier None = []
files_of-ended id t end at earlier (Some due) =
    cond due.counted (cond (eqb at end) (report_with id t due.begin (earlier ++ due.parts.items) ∷ []) []) []

module _ (terms : Side → List ℕ → Terms) (g : History) where
  either-none : (a b : Bool) (xs : List Report) → b ≡ false → cond a (cond b xs []) [] ≡ []
  either-none true b xs is = cond-false b xs [] is
  either-none false b xs is = refl

  either-some : (a b : Bool) (xs : List Report) → b ≡ true → cond a xs [] ≡ cond a (cond b xs []) []
  either-some a true xs is = refl
  either-some a false xs is = cc

  -- no end after that of the report which was open has a file
  no-later : (id : List ℕ) (made : history.Standing) (from tick end e reports : ℕ)
      → NoneCounted terms g (making_of Job id made) from tick
      → end ≡ reports * reporting (terms Job made.body) → from < end → end < e → e ≤ tick
      → file_of terms g id e (Some made) ≡ []
  no-later id made from tick end e reports none multiple after later le =
      by (is_due terms g w t e) refl
    where
      w : Making
      w = making_of Job id made

      t : Terms
      t = terms Job made.body

      by : (b : Bool) → is_due terms g w t e ≡ b → file_of terms g id e (Some made) ≡ []
      by false is = cond-false _ _ _ is
      by true is =
          let r = reporting t in
          let test = first_so (leb r e && eqb (e % r) 0) (some_counted terms g w (e - r) r) is in
          let whole = as-multiple e r (eqb-true (e % r) 0 (second_so (leb r e) (eqb (e % r) 0) test)) in
          let lt : reports * r < (e / r) * r = omega (arith, whole, multiple, later) in
          let next = next-multiple reports (e / r) r lt in
          file_of-gap terms g id e from tick made none (omega (arith, next, whole, multiple, after)) le

  pub boot-file : (id : List ℕ) (made : history.Standing) (from tick end e : ℕ) (earlier : List PartValues) (new : OpenReport)
      (due : Option Due)
      → NoneCounted terms g (making_of Job id made) from tick
      → EndsTicks terms g (making_of Job id made) (terms Job made.body) from tick earlier new due
      → ((d : Due) → due ≡ Some d → d.begin + reporting (terms Job made.body) ≤ tick → end ≡ d.begin + reporting (terms Job made.body))
      → from < e → e ≤ tick
      → file_of terms g id e (Some made) ≡ files_of-ended id (terms Job made.body) e end earlier due
  boot-file id made from tick end e earlier new None none ends at after le = cond-false _ _ _ (ends.1 e after le)
  boot-file id made from tick end e earlier new (Some due) none ends at after le =
      let r = reporting (terms Job made.body) in
      let ended = ends.ended in
      let last = ended.ends in
      let within = ends.within in
      let same : end ≡ ends.end = at due refl (omega (arith, last, within)) ∙ last in
      elim (cases_lt e ends.end) [
        | inl below ↦
            cond-false _ _ _ (ends.first e after below)
            ∙ sym (either-none due.counted (eqb end e) _ (ne_eqb end e (λ is. omega (arith, is, same, below))))
        | inr past ↦
            elim (cases_lt ends.end e) [
              | inl later ↦
                  let next = suc-mul ended.reports r in
                  let begins = ended.begins in
                  no-later id made from tick ends.end e (suc ended.reports) none (omega (arith, next, begins, last)) ends.after later le
                  ∙ sym (either-none due.counted (eqb end e) _ (ne_eqb end e (λ is. omega (arith, is, same, later))))
              | inr no_later ↦
                  let own : ends.end ≡ e = omega (arith, past, no_later) in
                  due-is-file terms g id made e earlier due
                  (subst (λ x. DueStands terms g (making_of Job id made) (terms Job made.body) x earlier due) own ended)
                  ∙ either-some due.counted (eqb end e) _ (eq-eqb end e (same ∙ own))
            ]
      ]

  pub boot-stands : (w : Making) (t : Terms) (from tick n : ℕ) (xs : List PartValues) (new : OpenReport) (due : Option Due)
      → n ≡ length (take n xs) → EndsTicks terms g w t from tick (take n xs) new due
      → ReportStands terms g w t tick (take new.earlier xs) new
  boot-stands w t from tick n xs new None own ends = goes-on terms g w t tick n xs new own ends.0
  boot-stands w t from tick n xs new (Some due) own ends = begins-anew terms g w t tick xs new ends.next

pub ended-told : (inventory : InventoryState) (s : Standing) (job : OpenJob) (place end e n : ℕ) (due : Option Due)
    → files_of-ended s.id (terms_of inventory Job s.body) e end (earlier_parts job n) due
    ≡ files_by_at inventory s job e (due_of place end n due)
ended-told inventory s job place end e n None = refl
ended-told inventory s job place end e n (Some due) = by due.counted
  where
    file : Report
    file = report_with s.id (terms_of inventory Job s.body) due.begin (earlier_parts job n ++ due.parts.items)

    by : (b : Bool) → cond b (cond (eqb end e) (file ∷ []) []) []
        ≡ files_by_at inventory s job e (cond b (Some (record { job = place; end = end; earlier = n; due = due })) None)
    by true = refl
    by false = refl

-- what ended did so with one of the ticks
pub boot-within : (terms : Side → List ℕ → Terms) (g : History) (w : Making) (t : Terms) (from tick end place n : ℕ)
    (earlier : List PartValues) (new : OpenReport) (due : Option Due)
    → EndsTicks terms g w t from tick earlier new due
    → ((d : Due) → due ≡ Some d → d.begin + reporting t ≤ tick → end ≡ d.begin + reporting t)
    → IfSome (due_of place end n due) (λ report. (from < report.end) × (report.end ≤ tick))
boot-within terms g w t from tick end place n earlier new None ends at = tt
boot-within terms g w t from tick end place n earlier new (Some due) ends at = by due.counted
  where
    last : end ≡ ends.end
    last =
        let own = ends.ended.ends in
        let within = ends.within in
        at due refl (omega (arith, own, within)) ∙ own

    by : (b : Bool) → IfSome {T = DueReport} (cond b (Some (record { job = place; end = end; earlier = n; due = due })) None)
        (λ report. (from < report.end) × (report.end ≤ tick))
    by true = let after = ends.after in let within = ends.within in (omega (arith, last, after), omega (arith, last, within))
    by false = tt

pub file-boot : (inventory : InventoryState) (h : History) (m end : ℕ) (s : Standing) (made : history.Standing)
    → tick_of (last_moment h) < end → end ≤ tick_of m → IsMade inventory h s made
    → file_at (terms_of inventory) (h ▷ Boot m) end s.id ≡ file_of (terms_of inventory) (h ▷ Boot m) s.id end (Some made)
file-boot inventory h m end s made after le is =
    ap (λ (g : History). file_of (terms_of inventory) (h ▷ Boot m) s.id end (standing_after (terms_of inventory) Job g s.id))
    (before-stays h (Boot m) (60 * end) (omega (arith, le)) ∙ before_all h (60 * end) (omega (arith, after)))
    ∙ ap (file_of (terms_of inventory) (h ▷ Boot m) s.id end) is.is

-- what the ticks give, where each making of the job ends them so
pub boot-ends : (inventory : InventoryState) (h : History) (m from tick : ℕ) (s : Standing) (job : OpenJob) (place end : ℕ)
    (old new : OpenReport) (due : Option Due)
    → tick_of (last_moment h) ≡ from → tick ≡ tick_of m → StandsFor inventory Job h s
    → StandsAt inventory (h ▷ Boot m) s from (earlier_parts job old.earlier) old
    → ((made : history.Standing) → IsMade inventory h s made
    → NoneCounted (terms_of inventory) (h ▷ Boot m) (making_of Job s.id made) from tick)
    → ((made : history.Standing) → IsMade inventory h s made
    → EndsTicks (terms_of inventory) (h ▷ Boot m) (making_of Job s.id made) (terms_of inventory Job s.body) from tick
    (earlier_parts job old.earlier) new due)
    → ((d : Due) → due ≡ Some d → d.begin + reporting (terms_of inventory Job s.body) ≤ tick
    → end ≡ d.begin + reporting (terms_of inventory Job s.body))
    → StandsAt inventory (h ▷ Boot m) s tick (earlier_parts job new.earlier) new
    × ((e : ℕ) → from < e → e ≤ tick
    → file_at (terms_of inventory) (h ▷ Boot m) e s.id ≡ files_by_at inventory s job e (due_of place end old.earlier due))
boot-ends inventory h m from tick s job place end old new due at to stand before none ends last =
    let g : History = h ▷ Boot m in
    let terms : Side → List ℕ → Terms = terms_of inventory in
    let first = made-is inventory h s stand in
    let made = first.0 in
    let is = first.1 in (
      λ other after.
          let is_other = made-told inventory h s other stand (sym (standing_after-boot terms Job h s.id m) ∙ after) in
          let own = (before other after).earlier_are in
          boot-stands terms g (making_of Job s.id other) (terms Job s.body) from tick old.earlier job.report.parts.items new due own
          (ends other is_other),
      λ e after le.
          file-boot inventory h m e s made (omega (arith, at, after)) (omega (arith, to, le)) is
          ∙ (boot-file terms g s.id made from tick end e (earlier_parts job old.earlier) new due (none made is)
          (subst (λ body. EndsTicks terms g (making_of Job s.id made) (terms Job body) from tick (earlier_parts job old.earlier) new due)
          (sym is.body) (ends made is))
          (subst (λ body. (d : Due) → due ≡ Some d → d.begin + reporting (terms Job body) ≤ tick → end ≡ d.begin + reporting (terms Job body))
          (sym is.body) last)
          after le
          ∙ (ap (λ body. files_of-ended s.id (terms Job body) e end (earlier_parts job old.earlier) due) is.body
          ∙ ended-told inventory s job place end e old.earlier due)),
    )
