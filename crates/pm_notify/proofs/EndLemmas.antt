-- Which files and notices are of an end.
use Rattle.std.proofs.Common.{◌≡◌, ℕ, zero, suc, ◌+◌, ◌*◌, ◌<◌, ◌≤◌, Bool, true, false, cond, eqb, List, [], ◌∷◌, ◌++◌, length, map, drop, get_or, ◌-◌, Option, Some, None, refl, sym, ap, subst, ◌∙◌, arith, append_assoc, append-nil, ne_eqb, eq-eqb}
use Rattle.std.specs.List.{prefix_len, AllByRecursion}
use Rattle.std.proofs.lemmas.List.{map-append}
use Rattle.pm_history.specs.declared.entry.Side.{Side}
use Rattle.pm_history.specs.declared.entry.Side.TheVariants.{Job}
use Rattle.pm_history.specs.History.{History, before}
use Rattle.pm_history.specs.Terms.{Terms}
use Rattle.pm_history.specs.Ticks.{behind}
use Rattle.pm_history.specs.Standing.{Standing, making_of, standing_after, ids_after}
use Rattle.pm_history.specs.Files.{Report, report_of, is_due, file_of, file_at, files_at}
use Rattle.pm_history.specs.Notices.{FileReady, Crossing, crossings_at, notices_at}
use Rattle.pm_history.proofs.DistinctLemmas.{each-append, each-map}
use Rattle.pm_inventory.specs.Inventory.{InventoryState}
use Rattle.pm_asked.specs.Asked.{terms_of}
use Rattle.pm_jobs.specs.State.{JobsState}
use Rattle.pm_close.specs.declared.open_monitors_tick.EndCrossings.{EndCrossings}
use Rattle.pm_ready.specs.declared.ready.ReadyFile.{ReadyFile}
use Rattle.pm_ready.specs.Files as ready
use Rattle.pm_notify.specs.Ends.{IsEnd, AreEnds}
use Rattle.pm_notify.proofs.ListLemmas.{each-flat, each-any}

-- ---- runs of ends

-- the first of them
pub behind-front : {A : Type 0} (f : ℕ → List A) (t n : ℕ) → behind f t (suc n) ≡ f (suc t) ++ behind f (suc t) n
behind-front f t zero = let at : suc (t + zero) ≡ suc t = omega arith in ap f at ∙ sym (append-nil (f (suc t)))
behind-front f t (suc n) =
    let at : suc (t + suc n) ≡ suc (suc t + n) = omega arith in
    ap (λ l. l ++ f (suc (t + suc n))) (behind-front f t n)
    ∙ append_assoc (f (suc t)) (behind f (suc t) n) (f (suc (t + suc n)))
    ∙ ap (λ k. f (suc t) ++ (behind f (suc t) n ++ f k)) at

-- one more of them
pub behind-back : {A : Type 0} (f : ℕ → List A) (t n : ℕ) → behind f t n ++ f (t + n + 1) ≡ behind f t (n + 1)
behind-back f t n =
    let at : t + n + 1 ≡ suc (t + n) = omega arith in
    let more : suc n ≡ n + 1 = omega arith in
    (λ i. behind f t n ++ f (at i)) ∙ ap (behind f t) more

module _ (terms : Side → List ℕ → Terms) (h : History) where
  file-end : (id : List ℕ) (end : ℕ) (o : Option Standing) → AllByRecursion (λ (r : Report). r.end ≡ end) (file_of terms h id end o)
  file-end id end None = tt
  file-end id end (Some s) = by (is_due terms h (making_of Job id s) (terms Job s.body) end)
    where
      by : (b : Bool) → AllByRecursion (λ (r : Report). r.end ≡ end) (cond b (report_of terms h (making_of Job id s) (terms Job s.body) end ∷ []) [])
      by true = (refl, tt)
      by false = tt

  -- the files of an end
  pub files-end : (end : ℕ) → AllByRecursion (λ (r : Report). r.end ≡ end) (files_at terms h end)
  files-end end =
      let ids = ids_after Job (before (60 * end) h) in
      each-flat (λ id. Unit {0}) (λ (r : Report). r.end ≡ end) (file_at terms h end) ids
      (λ id any. file-end id end (standing_after terms Job (before (60 * end) h) id)) (each-any (λ id. Unit {0}) ids (λ id. tt))

  -- those of later ends
  pub files-later : (t n : ℕ) → AllByRecursion (λ (r : Report). t < r.end) (behind (files_at terms h) t n)
  files-later t zero = tt
  files-later t (suc n) =
      each-append (λ (r : Report). t < r.end) (behind (files_at terms h) t n) (files_at terms h (suc (t + n))) (files-later t n)
      (each-map (λ (r : Report). r.end ≡ suc (t + n)) (λ (r : Report). t < r.end) (files_at terms h (suc (t + n)))
      (λ r is. omega (arith, is)) (files-end (suc (t + n))))

  -- without crossings the notices are those of the files
  pub only-files : (t n : ℕ) → ((end : ℕ) → t < end → end ≤ t + n → crossings_at terms h end ≡ [])
      → behind (notices_at terms h) t n ≡ map FileReady (behind (files_at terms h) t n)
  only-files t zero none = refl
  only-files t (suc n) none =
      let rest = only-files t n (λ end lt le. none end lt (omega (arith, le))) in
      let end = suc (t + n) in
      let own : notices_at terms h end ≡ map FileReady (files_at terms h end) =
      ap (λ cs. map FileReady (files_at terms h end) ++ map Crossing cs) (none end (omega arith) (omega arith))
      ∙ append-nil (map FileReady (files_at terms h end)) in
      (λ i. rest i ++ own i) ∙ sym (map-append FileReady (behind (files_at terms h) t n) (files_at terms h end))

-- ---- files that are ready at an end

-- files of this end, and then of later ones: so many of them are ready at its moment
pub front-count : (inventory : InventoryState) (end : ℕ) (here later : List Report) (files : List ReadyFile)
    → AllByRecursion (λ (r : Report). r.end ≡ end) here → AllByRecursion (λ (r : Report). end < r.end) later
    → ready.AreFilesOf inventory (here ++ later) (map ready.file_of files)
    → prefix_len (λ (f : ReadyFile). eqb f.info.ready (60 * end)) files ≡ length here
front-count inventory end [] [] [] own others are = refl
front-count inventory end [] [] (f ∷ fs) own others are = absurd are
front-count inventory end [] (r ∷ rs) [] own others are = absurd are
front-count inventory end [] (r ∷ rs) (f ∷ fs) own others are =
    let at : f.info.ready ≡ 60 * r.end = are.0.ready in
    let later = others.0 in
    let off : eqb f.info.ready (60 * end) ≡ false = ne_eqb f.info.ready (60 * end) (λ same. omega (arith, at, later, same)) in
    ap (λ b. cond b (1 + prefix_len (λ (f : ReadyFile). eqb f.info.ready (60 * end)) fs) 0) off
front-count inventory end (r ∷ rs) later [] own others are = absurd are
front-count inventory end (r ∷ rs) later (f ∷ fs) own others are =
    let at : f.info.ready ≡ 60 * r.end = are.0.ready in
    let is = own.0 in
    let on : eqb f.info.ready (60 * end) ≡ true = eq-eqb f.info.ready (60 * end) (omega (arith, at, is)) in
    let more = front-count inventory end rs later fs own.1 others are.1 in
    ap (λ b. cond b (1 + prefix_len (λ (f : ReadyFile). eqb f.info.ready (60 * end)) fs) 0) on ∙ omega (arith, more)

-- ---- one end after the other

module _ (inventory : InventoryState) (jobs : JobsState) (h : History) where
  -- of what is left of files, the front ones are of the next end
  pub end-at : (from k next : ℕ) (files : List ReadyFile) (crossings : List EndCrossings) (d : EndCrossings) → k < length crossings
      → AreEnds inventory jobs h from files crossings
      → ready.AreFilesOf inventory (behind (files_at (terms_of inventory) h) (from + k) (length crossings - k)) (map ready.file_of (drop next files))
      → IsEnd inventory jobs h (from + k + 1) (behind (files_at (terms_of inventory) h) (from + k + 1) (length crossings - (k + 1)))
      (drop next files) (get_or crossings k d)
  end-at from k next files crossings d lt ends left =
      let f = files_at (terms_of inventory) h in
      let m = length crossings - (k + 1) in
      let more : length crossings - k ≡ suc m = omega (arith, lt) in
      let at : suc (from + k) ≡ from + k + 1 = omega arith in
      let parts : behind f (from + k) (length crossings - k) ≡ f (from + k + 1) ++ behind f (from + k + 1) m =
      ap (behind f (from + k)) more ∙ behind-front f (from + k) m ∙ (λ i. f (at i) ++ behind f (at i) m) in
      let range = ends.in_range in
      record {
        front = subst (λ (rs : List Report). ready.AreFilesOf inventory rs (map ready.file_of (drop next files))) parts left;
        others = files-later (terms_of inventory) h (from + k + 1) m;
        crossed = ends.crossed k d lt;
        tellable = ends.tellable k lt;
        in_range = omega (arith, range, lt);
      }
