-- Which files stand for a history with one more entry.
use Rattle.std.proofs.Common.{◌≡◌, ℕ, zero, suc, ◌+◌, ◌*◌, ◌≤◌, Bool, true, false, cond, ltb, List, [], ◌∷◌, ◌++◌, refl, sym, ap, subst, ◌∙◌, arith}
use Rattle.std.specs.List.{filter, flat_map}
use Rattle.std.proofs.lemmas.List.Elements.{filter-append}
use Rattle.std.proofs.lemmas.Bool.{ltb-true, lt-ltb, le-ltb, ltb-false}
use Rattle.pm_base.specs.Moment.{tick_of}
use Rattle.pm_history.specs.declared.entry.Side.TheVariants.{Job}
use Rattle.pm_history.specs.declared.entry.Entry.{Entry}
use Rattle.pm_history.specs.Entry.{moment_of}
use Rattle.pm_history.specs.History.{History, Start, ◌▷◌, last_moment, before}
use Rattle.pm_history.specs.Ticks.{behind}
use Rattle.pm_history.specs.Standing.{ids_after}
use Rattle.pm_history.specs.Files.{Report, file_at, files_at, files_of}
use Rattle.pm_history.proofs.StepLemmas.{files_of-same_tick}
use Rattle.pm_inventory.specs.Inventory.{InventoryState}
use Rattle.pm_asked.specs.Asked.{terms_of}
use Rattle.pm_ready.specs.Files.{File, AreFilesOf}
use Rattle.pm_ready.specs.Kept.{lasts, kept_reports, FilesStand}

-- ---- tests

-- what passes the later test passes the earlier one
filter-again : {A : Type 0} (p q : A → Bool) (xs : List A) → ((x : A) → q x ≡ true → p x ≡ true) → filter q (filter p xs) ≡ filter q xs
filter-again p q [] then = refl
filter-again p q (x ∷ xs) then = by (p x) (q x) refl refl (filter-again p q xs then)
  where
    by : (b c : Bool) → p x ≡ b → q x ≡ c → filter q (filter p xs) ≡ filter q xs → filter q (cond b (x ∷ filter p xs) (filter p xs)) ≡ cond c (x ∷ filter q xs) (filter q xs)
    by true true is also more = rw also (ap (λ l. x ∷ l) more)
    by true false is also more = rw also more
    by false true is also more = let passes = then x also in cc
    by false false is also more = more

filter-same : {A : Type 0} (p q : A → Bool) (xs : List A) → ((x : A) → p x ≡ q x) → filter p xs ≡ filter q xs
filter-same p q [] same = refl
filter-same p q (x ∷ xs) same = let rest = filter-same p q xs same in λ i. cond (same x i) (x ∷ rest i) (rest i)

-- what lasts longer has lasted
lasted : (m n ready : ℕ) → m ≤ n → lasts n ready ≡ true → lasts m ready ≡ true
lasted m n ready le e = let lt = ltb-true n (ready + 86400) e in lt-ltb m (ready + 86400) (omega (arith, le, lt))

-- within a tick nothing expires
same-tick : (m n end : ℕ) → tick_of m ≡ tick_of n → lasts m (60 * end) ≡ lasts n (60 * end)
same-tick m n end same = by (ltb m (60 * end + 86400)) (ltb n (60 * end + 86400)) refl refl
  where
    by : (a b : Bool) → ltb m (60 * end + 86400) ≡ a → ltb n (60 * end + 86400) ≡ b → ltb m (60 * end + 86400) ≡ ltb n (60 * end + 86400)
    by true true x y = x ∙ sym y
    by false false x y = x ∙ sym y
    by true false x y = let lt = ltb-true m _ x in let le = ltb-false n _ y in absurd (omega (arith, lt, le, same))
    by false true x y = let le = ltb-false m _ x in let lt = ltb-true n _ y in absurd (omega (arith, lt, le, same))

module _ (inventory : InventoryState) where
  -- ---- files of reports

  pub files-append : (rs ss : List Report) (fs gs : List File) → AreFilesOf inventory rs fs → AreFilesOf inventory ss gs → AreFilesOf inventory (rs ++ ss) (fs ++ gs)
  files-append [] ss [] gs first second = second
  files-append [] ss (f ∷ fs) gs first second = absurd first
  files-append (r ∷ rs) ss [] gs first second = absurd first
  files-append (r ∷ rs) ss (f ∷ fs) gs first second = (first.0, files-append rs ss fs gs first.1 second)

  files-last : (m : ℕ) (rs : List Report) (fs : List File) → AreFilesOf inventory rs fs
      → AreFilesOf inventory (filter (λ (r : Report). lasts m (60 * r.end)) rs) (filter (λ (f : File). lasts m f.ready) fs)
  files-last m [] [] are = are
  files-last m [] (f ∷ fs) are = absurd are
  files-last m (r ∷ rs) [] are = absurd are
  files-last m (r ∷ rs) (f ∷ fs) are = by (lasts m (60 * r.end)) (lasts m f.ready) (ap (lasts m) (sym are.0.ready)) (files-last m rs fs are.1)
    where
      reports : List Report
      reports = filter (λ (r : Report). lasts m (60 * r.end)) rs

      files : List File
      files = filter (λ (f : File). lasts m f.ready) fs

      by : (a b : Bool) → a ≡ b → AreFilesOf inventory reports files → AreFilesOf inventory (cond a (r ∷ reports) reports) (cond b (f ∷ files) files)
      by true true same more = (are.0, more)
      by false false same more = more
      by true false same more = absurd cc
      by false true same more = absurd cc

  -- ---- one more entry

  pub stand-next : (h : History) (e : Entry) (added : List Report) (old new : List File) → last_moment h ≤ moment_of e
      → files_of (terms_of inventory) (h ▷ e) ≡ files_of (terms_of inventory) h ++ added → AreFilesOf inventory added new → FilesStand inventory h old
      → FilesStand inventory (h ▷ e) (filter (λ (f : File). lasts (moment_of e) f.ready) (old ++ new))
  stand-next h e added old new le grows are stand =
      let now : Report → Bool = λ (r : Report). lasts (moment_of e) (60 * r.end) in
      let then : Report → Bool = λ (r : Report). lasts (last_moment h) (60 * r.end) in
      let all = files_of (terms_of inventory) h in
      let again = filter-again then now all (λ r passes. lasted (last_moment h) (moment_of e) (60 * r.end) le passes) in
      let same : filter now (kept_reports inventory h ++ added) ≡ kept_reports inventory (h ▷ e) =
      filter-append now (kept_reports inventory h) added
      ∙ ap (λ l. l ++ filter now added) again ∙ sym (filter-append now all added) ∙ ap (filter now) (sym grows) in
      subst (λ rs. AreFilesOf inventory rs (filter (λ (f : File). lasts (moment_of e) f.ready) (old ++ new))) same
      (files-last (moment_of e) (kept_reports inventory h ++ added) (old ++ new) (files-append (kept_reports inventory h) added old new stand are))

  pub stand-same : (h : History) (e : Entry) (files : List File) → last_moment h ≤ moment_of e → tick_of (moment_of e) ≡ tick_of (last_moment h)
      → FilesStand inventory h files → FilesStand inventory (h ▷ e) files
  stand-same h e files le same stand =
      let all = files_of-same_tick (terms_of inventory) h e le same in
      let kept : kept_reports inventory h ≡ kept_reports inventory (h ▷ e) =
      filter-same _ (λ (r : Report). lasts (moment_of e) (60 * r.end)) (files_of (terms_of inventory) h) (λ r. same-tick (last_moment h) (moment_of e) r.end (sym same))
      ∙ ap (filter (λ (r : Report). lasts (moment_of e) (60 * r.end))) (sym all) in
      subst (λ rs. AreFilesOf inventory rs files) kept stand

  -- ---- the first entry

  before-first : (e : Entry) (end : ℕ) → 60 * end ≤ moment_of e → before (60 * end) (Start ▷ e) ≡ Start
  before-first e end le = let off = le-ltb (moment_of e) (60 * end) le in rw off refl

  none_at : (e : Entry) (end : ℕ) → 60 * end ≤ moment_of e → files_at (terms_of inventory) (Start ▷ e) end ≡ []
  none_at e end le = ap (λ b. flat_map (file_at (terms_of inventory) (Start ▷ e) end) (ids_after Job b)) (before-first e end le)

  none_behind : (e : Entry) (n : ℕ) → 60 * n ≤ moment_of e → behind (files_at (terms_of inventory) (Start ▷ e)) 0 n ≡ []
  none_behind e zero le = refl
  none_behind e (suc n) le =
      let at : suc (0 + n) ≡ suc n = omega arith in
      let none = none_at e (suc (0 + n)) (omega (arith, le)) in
      let rest = none_behind e n (omega (arith, le)) in
      λ i. rest i ++ none i

  pub stand-first : (e : Entry) → FilesStand inventory (Start ▷ e) []
  stand-first e =
      let none : files_of (terms_of inventory) (Start ▷ e) ≡ [] = none_behind e (tick_of (moment_of e)) (omega arith) in
      subst (λ rs. AreFilesOf inventory rs []) (sym (ap (filter (λ (r : Report). lasts (moment_of e) (60 * r.end))) none)) tt
