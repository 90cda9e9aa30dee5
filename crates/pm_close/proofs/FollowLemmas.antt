-- What is kept of the monitors that stand, behind an entry of the open tick.
use Rattle.std.proofs.Common.{◌≡◌, ℕ, zero, suc, ◌<◌, ◌≤◌, Bool, true, false, List, [], ◌∷◌, length, set, get_or, Option, Some, None, refl, sym, ap, subst, ◌∙◌, arith}
use Rattle.std.specs.List.{list_any, insert, remove}
use Rattle.std.specs.Option.{option_map}
use Rattle.std.specs.Str.{bytes_eq}
use Rattle.std.proofs.lemmas.Option.{same_Some}
use Rattle.pm_base.specs.Moment.{tick_of}
use Rattle.pm_inventory.specs.Inventory.{InventoryState, slots}
use Rattle.pm_history.specs.declared.entry.Side.TheVariants.{Monitor}
use Rattle.pm_history.specs.declared.entry.Entry.{Entry}
use Rattle.pm_history.specs.Entry.{Change, Moved, Deleted, moment_of, change_of}
use Rattle.pm_history.specs.History.{History, ◌▷◌, size, last_moment}
use Rattle.pm_history.specs.Standing.{Standing, making_of, moved, after_change, standing_after}
use Rattle.pm_asked.specs.Asked.{terms_of}
use Rattle.pm_jobs.specs.State.{AreApart}
use Rattle.pm_jobs.proofs.StandsLemmas.{Does}
use Rattle.pm_jobs.proofs.ItemLemmas.{neither, sym_eq}
use Rattle.pm_jobs.proofs.IdLemmas.{any_at}
use Rattle.pm_close.specs.declared.open_monitors.KeptMonitor.{KeptMonitor}
use Rattle.pm_close.specs.Marks.{MarksStand}
use Rattle.pm_close.specs.Watched.{MonitorStands}
use Rattle.pm_close.specs.OpenMonitors.{IsKept, IsKeptUnder, AreKept, IsRearmed}
use Rattle.pm_close.proofs.StayLemmas.{marks-stay}
use Rattle.pm_close.proofs.MonitorLemmas.{monitors-stay}

module _ (inventory : InventoryState) (h : History) (tick : ℕ) where
  -- ---- one beside each id

  pub as-many : (is : List (List ℕ)) (ms : List KeptMonitor) → AreKept inventory h tick is ms → length ms ≡ length is
  as-many [] [] kept = refl
  as-many [] (m ∷ ms) kept = absurd kept
  as-many (i ∷ is) [] kept = absurd kept
  as-many (i ∷ is) (m ∷ ms) kept = let rest = as-many is ms kept.1 in omega (arith, rest)

  pub kept-at : (is : List (List ℕ)) (ms : List KeptMonitor) (k : ℕ) (d : KeptMonitor) → k < length ms → AreKept inventory h tick is ms
      → IsKeptUnder inventory h tick (get_or is k []) (get_or ms k d)
  kept-at [] [] k d lt kept = absurd (omega (arith, lt))
  kept-at [] (m ∷ ms) k d lt kept = absurd kept
  kept-at (i ∷ is) [] k d lt kept = absurd kept
  kept-at (i ∷ is) (m ∷ ms) zero d lt kept = kept.0
  kept-at (i ∷ is) (m ∷ ms) (suc k) d lt kept = kept-at is ms k d (omega (arith, lt)) kept.1

  pub kept-from : (is : List (List ℕ)) (ms : List KeptMonitor) → length ms ≡ length is
      → ((k : ℕ) (d : KeptMonitor) → k < length ms → IsKeptUnder inventory h tick (get_or is k []) (get_or ms k d))
      → AreKept inventory h tick is ms
  kept-from [] [] many each = tt
  kept-from [] (m ∷ ms) many each = absurd (omega (arith, many))
  kept-from (i ∷ is) [] many each = absurd (omega (arith, many))
  kept-from (i ∷ is) (m ∷ ms) many each =
      (each 0 m (omega arith), kept-from is ms (omega (arith, many)) (λ k d lt. each (suc k) d (omega (arith, lt))))

  pub kept-insert : (is : List (List ℕ)) (ms : List KeptMonitor) (place : ℕ) (i : List ℕ) (m : KeptMonitor)
      → IsKeptUnder inventory h tick i m → AreKept inventory h tick is ms → AreKept inventory h tick (insert is place i) (insert ms place m)
  kept-insert is ms zero i m own kept = (own, kept)
  kept-insert [] [] (suc place) i m own kept = (own, kept)
  kept-insert [] (n ∷ ms) (suc place) i m own kept = absurd kept
  kept-insert (j ∷ is) [] (suc place) i m own kept = absurd kept
  kept-insert (j ∷ is) (n ∷ ms) (suc place) i m own kept = (kept.0, kept-insert is ms place i m own kept.1)

module _ (inventory : InventoryState) (h : History) (e : Entry) (tick : ℕ) (le : last_moment h ≤ moment_of e)
    (over : tick ≤ tick_of (last_moment h)) where
  -- ---- monitors that the entry doesn't change

  kept-stays : (i : List ℕ) (m : KeptMonitor) → change_of Monitor i e ≡ None → IsKeptUnder inventory h tick i m
      → IsKeptUnder inventory (h ▷ e) tick i m
  kept-stays i m none kept s there =
      let terms = terms_of inventory in
      let before : standing_after terms Monitor h i ≡ Some s =
      sym (ap (after_change terms Monitor (size h) (moment_of e) (standing_after terms Monitor h i)) none) ∙ there in
      let was = kept s before in
      record {
        granularity = was.granularity;
        stands = monitors-stay terms (slots inventory) h e (making_of Monitor i s) m.granularity (terms Monitor s.body).watched s.armed
            tick m.open le over was.stands;
      }

  pub all-stay : (is : List (List ℕ)) (ms : List KeptMonitor) → ((i : List ℕ) → change_of Monitor i e ≡ None)
      → AreKept inventory h tick is ms → AreKept inventory (h ▷ e) tick is ms
  all-stay [] [] none kept = tt
  all-stay [] (m ∷ ms) none kept = absurd kept
  all-stay (i ∷ is) [] none kept = absurd kept
  all-stay (i ∷ is) (m ∷ ms) none kept = (kept-stays i m (none i) kept.0, all-stay is ms none kept.1)

  pub others-stay : (is : List (List ℕ)) (ms : List KeptMonitor) (i : List ℕ) (change : Change) → Does Monitor i change e
      → list_any (bytes_eq i) is ≡ false → AreKept inventory h tick is ms → AreKept inventory (h ▷ e) tick is ms
  others-stay [] [] i change does other kept = tt
  others-stay [] (m ∷ ms) i change does other kept = absurd kept
  others-stay (j ∷ is) [] i change does other kept = absurd kept
  others-stay (j ∷ is) (m ∷ ms) i change does other kept =
      let both = neither (bytes_eq i j) (list_any (bytes_eq i) is) other in
      (kept-stays j m (does.elsewhere j both.0) kept.0, others-stay is ms i change does both.1 kept.1)

  -- ---- one less

  pub all-but-one : (is : List (List ℕ)) (ms : List KeptMonitor) (place : ℕ) → AreApart is → place < length is
      → Does Monitor (get_or is place []) Deleted e → AreKept inventory h tick is ms
      → AreKept inventory (h ▷ e) tick (remove is place) (remove ms place)
  all-but-one [] ms place apart lt does kept = absurd (omega (arith, lt))
  all-but-one (i ∷ is) [] place apart lt does kept = absurd kept
  all-but-one (i ∷ is) (m ∷ ms) zero apart lt does kept = others-stay is ms i Deleted does apart.0 kept.1
  all-but-one (i ∷ is) (m ∷ ms) (suc place) apart lt does kept =
      let within : place < length is = omega (arith, lt) in
      let other = any_at i is place within apart.0 in
      (kept-stays i m (does.elsewhere i (sym_eq _ i ∙ other)) kept.0, all-but-one is ms place apart.1 within does kept.1)

  -- ---- another state

  pub all-move : (is : List (List ℕ)) (ms : List KeptMonitor) (place : ℕ) (unlocked : Bool) (d new : KeptMonitor) → AreApart is
      → place < length is → Does Monitor (get_or is place []) (Moved unlocked) e
      → (IsKeptUnder inventory h tick (get_or is place []) (get_or ms place d) → IsKeptUnder inventory (h ▷ e) tick (get_or is place []) new)
      → AreKept inventory h tick is ms → AreKept inventory (h ▷ e) tick is (set ms place new)
  all-move [] ms place unlocked d new apart lt does own kept = absurd (omega (arith, lt))
  all-move (i ∷ is) [] place unlocked d new apart lt does own kept = absurd kept
  all-move (i ∷ is) (m ∷ ms) zero unlocked d new apart lt does own kept =
      (own kept.0, others-stay is ms i (Moved unlocked) does apart.0 kept.1)
  all-move (i ∷ is) (m ∷ ms) (suc place) unlocked d new apart lt does own kept =
      let within : place < length is = omega (arith, lt) in
      let other = any_at i is place within apart.0 in
      (kept-stays i m (does.elsewhere i (sym_eq _ i ∙ other)) kept.0, all-move is ms place unlocked d new apart.1 within does own kept.1)

  -- what stood before a change of state
  record Moves (i : List ℕ) (unlocked : Bool) (s : Standing) : Type 0 where
    before : Standing
    there : standing_after (terms_of inventory) Monitor h i ≡ Some before
    is : moved (moment_of e) unlocked before ≡ s

  moves-of : (i : List ℕ) (unlocked : Bool) (s : Standing) (o : Option Standing) → standing_after (terms_of inventory) Monitor h i ≡ o
      → option_map (moved (moment_of e) unlocked) o ≡ Some s → Moves i unlocked s
  moves-of i unlocked s None before there = absurd cc
  moves-of i unlocked s (Some b) before there = record { before = b; there = before; is = same_Some _ s there }

  moves : (i : List ℕ) (unlocked : Bool) (s : Standing) → change_of Monitor i e ≡ Some (Moved unlocked)
      → standing_after (terms_of inventory) Monitor (h ▷ e) i ≡ Some s → Moves i unlocked s
  moves i unlocked s does there =
      let terms = terms_of inventory in
      moves-of i unlocked s (standing_after terms Monitor h i) refl
      (sym (ap (after_change terms Monitor (size h) (moment_of e) (standing_after terms Monitor h i)) does) ∙ there)

  locks : (i : List ℕ) (m : KeptMonitor) → change_of Monitor i e ≡ Some (Moved false) → IsKeptUnder inventory h tick i m
      → IsKeptUnder inventory (h ▷ e) tick i m
  locks i m does kept s there =
      let terms = terms_of inventory in
      let moved = moves i false s does there in
      let b = moved.before in
      let was = kept b moved.there in
      subst (λ (t : Standing). IsKept inventory (h ▷ e) tick i t m) moved.is
      (record {
        granularity = was.granularity;
        stands = monitors-stay terms (slots inventory) h e (making_of Monitor i b) m.granularity (terms Monitor b.body).watched
            b.armed tick m.open le over was.stands;
      })

  pub all-lock : (is : List (List ℕ)) (ms : List KeptMonitor) (place : ℕ) → AreApart is → place < length is
      → Does Monitor (get_or is place []) (Moved false) e → AreKept inventory h tick is ms → AreKept inventory (h ▷ e) tick is ms
  all-lock [] ms place apart lt does kept = absurd (omega arith)
  all-lock (i ∷ is) [] place apart lt does kept = absurd kept
  all-lock (i ∷ is) (m ∷ ms) zero apart lt does kept =
      (locks i m does.here kept.0, others-stay is ms i (Moved false) does apart.0 kept.1)
  all-lock (i ∷ is) (m ∷ ms) (suc place) apart lt does kept =
      let within : place < length is = omega (arith, lt) in
      let other = any_at i is place within apart.0 in
      (kept-stays i m (does.elsewhere i (sym_eq _ i ∙ other)) kept.0, all-lock is ms place apart.1 within does kept.1)

  pub unlocks : (i : List ℕ) (m new : KeptMonitor) → tick_of (moment_of e) ≡ tick → change_of Monitor i e ≡ Some (Moved true)
      → IsRearmed m new → IsKeptUnder inventory h tick i m → IsKeptUnder inventory (h ▷ e) tick i new
  unlocks i m new at does rearmed kept s there =
      let terms = terms_of inventory in
      let moved = moves i true s does there in
      let b = moved.before in
      let was = kept b moved.there in
      let w = making_of Monitor i b in
      let g = m.granularity in
      let watched = (terms Monitor b.body).watched in
      let marks = marks-stay terms h e w g tick m.open.marks le over was.stands.marks in
      let at_armed : ℕ → Type 0 = λ t. MonitorStands terms (slots inventory) h w g watched b.armed t m.open in
      let stands = rearmed.stands terms (slots inventory) h (h ▷ e) w g watched b.armed (moment_of e)
      (subst at_armed (sym at) was.stands)
      (subst (λ t. MarksStand terms (h ▷ e) w g t m.open.marks) (sym at) marks) in
      let in_tick = subst (λ t. MonitorStands terms (slots inventory) (h ▷ e) w g watched (moment_of e) t new.open) at stands in
      subst (λ (t : Standing). IsKept inventory (h ▷ e) tick i t new) moved.is
      (record {
        granularity = rearmed.granularity ∙ was.granularity;
        stands = subst (λ n. MonitorStands terms (slots inventory) (h ▷ e) w n watched (moment_of e) tick new.open)
            (sym rearmed.granularity) in_tick;
      })
