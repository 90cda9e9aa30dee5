-- The files of a history stand in the order of their ends.
use Rattle.std.proofs.Common.{◌≡◌, ℕ, zero, suc, ◌+◌, ◌*◌, ◌<◌, ◌≤◌, Bool, true, false, cond, List, [], ◌∷◌, ◌++◌, length, map, get_or, Option, Some, None, refl, arith}
use Rattle.std.specs.List.{filter, flat_map, AllByRecursion}
use Rattle.pm_base.specs.Moment.{tick_of}
use Rattle.pm_history.specs.declared.entry.Side.{Side}
use Rattle.pm_history.specs.declared.entry.Side.TheVariants.{Job}
use Rattle.pm_history.specs.History.{History, last_moment, before}
use Rattle.pm_history.specs.Terms.{Terms}
use Rattle.pm_history.specs.Ticks.{behind}
use Rattle.pm_history.specs.Standing.{Standing, making_of, standing_after, ids_after}
use Rattle.pm_history.specs.Files.{Report, report_of, is_due, file_of, file_at, files_at, files_of}
use Rattle.pm_history.proofs.DistinctLemmas.{each-append, each-map, behind-ends}
use Rattle.pm_inventory.specs.Inventory.{InventoryState}
use Rattle.pm_asked.specs.Asked.{terms_of}
use Rattle.pm_ready.specs.declared.ready.ReadyFile.{ReadyFile}
use Rattle.pm_ready.specs.Files.{AreFilesOf, file_of as said_of}
use Rattle.pm_ready.specs.Kept.{lasts, kept_reports, FilesStand}
use Rattle.pm_ready.specs.Range.{InOrder}

abbrev Rise : List Report → Type 0
Rise [] = Unit {0}
Rise (r ∷ rs) = AllByRecursion (λ (s : Report). r.end ≤ s.end) rs × Rise rs

rise-append : (rs ss : List Report) (end : ℕ) → Rise rs → Rise ss → AllByRecursion (λ (r : Report). r.end ≤ end) rs → AllByRecursion (λ (s : Report). end ≤ s.end) ss → Rise (rs ++ ss)
rise-append [] ss end one other low high = other
rise-append (r ∷ rs) ss end one other low high = (
  each-append (λ (s : Report). r.end ≤ s.end) rs ss one.0 (each-map (λ (s : Report). end ≤ s.end) (λ (s : Report). r.end ≤ s.end) ss (λ s le. let a = low.0 in omega (arith, a, le)) high),
  rise-append rs ss end one.1 other low.1 high,
)

rise-at : (rs : List Report) (end : ℕ) → AllByRecursion (λ (r : Report). r.end ≡ end) rs → Rise rs
rise-at [] end all = tt
rise-at (r ∷ rs) end all =
    (each-map (λ (s : Report). s.end ≡ end) (λ (s : Report). r.end ≤ s.end) rs (λ s is. let a = all.0 in omega (arith, a, is)) all.1, rise-at rs end all.1)

each-filter : {A : Type 0} (P : A → Type 0) (p : A → Bool) (xs : List A) → AllByRecursion P xs → AllByRecursion P (filter p xs)
each-filter P p [] all = tt
each-filter P p (x ∷ xs) all = by (p x) (each-filter P p xs all.1)
  where
    by : (b : Bool) → AllByRecursion P (filter p xs) → AllByRecursion P (cond b (x ∷ filter p xs) (filter p xs))
    by true rest = (all.0, rest)
    by false rest = rest

rise-filter : (p : Report → Bool) (rs : List Report) → Rise rs → Rise (filter p rs)
rise-filter p [] rise = tt
rise-filter p (r ∷ rs) rise = by (p r) (rise-filter p rs rise.1)
  where
    by : (b : Bool) → Rise (filter p rs) → Rise (cond b (r ∷ filter p rs) (filter p rs))
    by true rest = (each-filter (λ (s : Report). r.end ≤ s.end) p rs rise.0, rest)
    by false rest = rest

module _ (terms : Side → List ℕ → Terms) (h : History) where
  file-end : (id : List ℕ) (end : ℕ) (o : Option Standing) → AllByRecursion (λ (r : Report). r.end ≡ end) (file_of terms h id end o)
  file-end id end None = tt
  file-end id end (Some s) = by (is_due terms h (making_of Job id s) (terms Job s.body) end)
    where
      by : (b : Bool) → AllByRecursion (λ (r : Report). r.end ≡ end) (cond b (report_of terms h (making_of Job id s) (terms Job s.body) end ∷ []) [])
      by true = (refl, tt)
      by false = tt

  among-end : (end : ℕ) (ids : List (List ℕ)) → AllByRecursion (λ (r : Report). r.end ≡ end) (flat_map (file_at terms h end) ids)
  among-end end [] = tt
  among-end end (id ∷ ids) =
      each-append (λ (r : Report). r.end ≡ end) (file_at terms h end id) (flat_map (file_at terms h end) ids)
      (file-end id end (standing_after terms Job (before (60 * end) h) id)) (among-end end ids)

  at-end : (end : ℕ) → AllByRecursion (λ (r : Report). r.end ≡ end) (files_at terms h end)
  at-end end = among-end end (ids_after Job (before (60 * end) h))

  behind-rise : (n : ℕ) → Rise (behind (files_at terms h) 0 n)
  behind-rise zero = tt
  behind-rise (suc n) =
      rise-append (behind (files_at terms h) 0 n) (files_at terms h (suc (0 + n))) (0 + n) (behind-rise n)
      (rise-at (files_at terms h (suc (0 + n))) (suc (0 + n)) (at-end (suc (0 + n)))) (behind-ends terms h 0 n)
      (each-map (λ (r : Report). r.end ≡ suc (0 + n)) (λ (r : Report). 0 + n ≤ r.end) (files_at terms h (suc (0 + n))) (λ r is. omega (arith, is)) (at-end (suc (0 + n))))

kept-rise : (inventory : InventoryState) (h : History) → Rise (kept_reports inventory h)
kept-rise inventory h =
    rise-filter (λ (r : Report). lasts (last_moment h) (60 * r.end)) (files_of (terms_of inventory) h) (behind-rise (terms_of inventory) h (tick_of (last_moment h)))

-- ---- the files

above : (inventory : InventoryState) (low : ℕ) (rs : List Report) (fs : List ReadyFile) (j : ℕ) (d : ReadyFile) → AllByRecursion (λ (r : Report). low ≤ r.end) rs
    → AreFilesOf inventory rs (map said_of fs) → j < length fs → 60 * low ≤ (get_or fs j d).info.ready
above inventory low rs [] j d all are lt = absurd (omega arith)
above inventory low [] (f ∷ fs) j d all are lt = absurd are
above inventory low (r ∷ rs) (f ∷ fs) zero d all are lt = let a = all.0 in let at = are.0.ready in omega (arith, a, at)
above inventory low (r ∷ rs) (f ∷ fs) (suc j) d all are lt = above inventory low rs fs j d all.1 are.1 (omega (arith, lt))

ordered : (inventory : InventoryState) (rs : List Report) (fs : List ReadyFile) → Rise rs → AreFilesOf inventory rs (map said_of fs) → InOrder fs
ordered inventory rs [] rise are i j d le lt = absurd (omega arith)
ordered inventory [] (f ∷ fs) rise are i j d le lt = absurd are
ordered inventory (r ∷ rs) (f ∷ fs) rise are zero zero d le lt = omega arith
ordered inventory (r ∷ rs) (f ∷ fs) rise are zero (suc j) d le lt =
    let a = above inventory r.end rs fs j d rise.0 are.1 (omega (arith, lt)) in let at = are.0.ready in omega (arith, a, at)
ordered inventory (r ∷ rs) (f ∷ fs) rise are (suc i) zero d le lt = absurd (omega (arith, le))
ordered inventory (r ∷ rs) (f ∷ fs) rise are (suc i) (suc j) d le lt = ordered inventory rs fs rise.1 are.1 i j d (omega (arith, le)) (omega (arith, lt))

-- files that stand for a history are in order
pub in_order : (inventory : InventoryState) (h : History) (fs : List ReadyFile) → FilesStand inventory h (map said_of fs) → InOrder fs
in_order inventory h fs stand = ordered inventory (kept_reports inventory h) fs (kept-rise inventory h) stand
