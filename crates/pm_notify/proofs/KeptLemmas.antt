-- Which notices stand for a history with one more entry, and which are due.
use Rattle.std.proofs.Common.{◌≡◌, ℕ, zero, suc, ◌+◌, ◌*◌, ◌≤◌, Bool, true, false, not, cond, leb, List, [], ◌∷◌, ◌++◌, length, map, refl, sym, ap, subst, ◌∙◌, arith, length-append, leb-true, leb-false}
use Rattle.std.specs.List.{filter, flat_map}
use Rattle.std.proofs.lemmas.Bool.{and_parts}
use Rattle.std.proofs.lemmas.List.Elements.{filter-append}
use Rattle.pm_base.specs.Moment.{tick_of}
use Rattle.pm_history.specs.declared.entry.Side.TheVariants.{Job, Monitor}
use Rattle.pm_history.specs.declared.entry.Entry.{Entry}
use Rattle.pm_history.specs.Entry.{moment_of}
use Rattle.pm_history.specs.History.{History, Start, ◌▷◌, before, last_moment}
use Rattle.pm_history.specs.Ticks.{behind}
use Rattle.pm_history.specs.Standing.{ids_after}
use Rattle.pm_history.specs.Files.{file_at}
use Rattle.pm_history.specs.Notices as history
use Rattle.pm_history.proofs.HistoryLemmas.{before-stays}
use Rattle.pm_history.proofs.StepLemmas.{notices_of-same_tick}
use Rattle.pm_inventory.specs.Inventory.{InventoryState}
use Rattle.pm_asked.specs.Asked.{terms_of}
use Rattle.pm_notice.specs.declared.notice.Notice.{Notice}
use Rattle.pm_notice.specs.Round.{is_due}
use Rattle.pm_notice.specs.Rounds.{HaveDue}
use Rattle.pm_notify.specs.Notices.{IsNoticeOf, AreNoticesFrom}
use Rattle.pm_notify.specs.Kept.{NoticesState, notices_of, lasts, NoticesStand, AddsNotices}
use Rattle.pm_notify.proofs.ToldLemmas.{told-many, told-append}

-- ---- tests

-- what passes the later test passes the earlier one
filter-again : {A : Type 0} (p q : A → Bool) (xs : List A) → ((x : A) → q x ≡ true → p x ≡ true) → filter q (filter p xs) ≡ filter q xs
filter-again p q [] then = refl
filter-again p q (x ∷ xs) then = by (p x) (q x) refl refl (filter-again p q xs then)
  where
    by : (b c : Bool) → p x ≡ b → q x ≡ c → filter q (filter p xs) ≡ filter q xs → filter q (cond b (x ∷ filter p xs) (filter p xs)) ≡ cond c (x ∷ filter q xs) (filter q xs)
    by true true is also more = rw also (ap (λ l. x ∷ l) more)
    by true false is also more = rw also more
    by false true is also more = let passes = then x also in cc
    by false false is also more = more

not-is : (b : Bool) → not b ≡ true → b ≡ false
not-is true e = cc
not-is false e = refl

-- what lasts longer has lasted
lasted : (m n : ℕ) (x : Notice) → m ≤ n → lasts n x ≡ true → lasts m x ≡ true
lasted m n x le e = by (leb (x.end + 86400) m) refl
  where
    by : (b : Bool) → leb (x.end + 86400) m ≡ b → not b ≡ true
    by false is = refl
    by true is =
        let past = leb-true (x.end + 86400) m is in
        let ahead = leb-false (x.end + 86400) n (not-is (leb (x.end + 86400) n) e) in
        absurd (omega (arith, past, ahead, le))

-- within a tick nothing expires that ends with a tick
same-tick : (m n end : ℕ) (x : Notice) → x.end ≡ 60 * end → tick_of m ≡ tick_of n → lasts m x ≡ lasts n x
same-tick m n end x at same = by (leb (x.end + 86400) m) (leb (x.end + 86400) n) refl refl
  where
    by : (a b : Bool) → leb (x.end + 86400) m ≡ a → leb (x.end + 86400) n ≡ b → lasts m x ≡ lasts n x
    by true true p q = ap not (p ∙ sym q)
    by false false p q = ap not (p ∙ sym q)
    by true false p q = let past = leb-true _ _ p in let ahead = leb-false _ _ q in absurd (omega (arith, past, ahead, same, at))
    by false true p q = let ahead = leb-false _ _ p in let past = leb-true _ _ q in absurd (omega (arith, past, ahead, same, at))

module _ (inventory : InventoryState) where
  notice-end : (n : ℕ) (x : history.Notice) (p : Notice) → IsNoticeOf inventory n x p → (end : ℕ) × (p.end ≡ 60 * end)
  notice-end n (history.FileReady report) p is = (report.end, is.end)
  notice-end n (history.Crossing c) p is = (c.end, is.end)

  kept-same : (m k n : ℕ) (xs : List history.Notice) (ps : List Notice) → tick_of m ≡ tick_of k → AreNoticesFrom inventory n xs ps
      → filter (lasts m) ps ≡ filter (lasts k) ps
  kept-same m k n [] [] same are = refl
  kept-same m k n [] (p ∷ ps) same are = absurd are
  kept-same m k n (x ∷ xs) [] same are = absurd are
  kept-same m k n (x ∷ xs) (p ∷ ps) same are =
      let end = notice-end n x p are.0 in
      let more = kept-same m k (n + 1) xs ps same are.1 in
      let one = same-tick m k end.0 p end.1 same in
      λ i. cond (one i) (p ∷ more i) (more i)

  -- ---- one more entry

  pub stand-next : (h : History) (e : Entry) (old new : NoticesState) (posted : List Notice) → last_moment h ≤ moment_of e
      → AddsNotices inventory h e old.total posted → new.kept ≡ filter (lasts (moment_of e)) (old.kept ++ posted)
      → new.total ≡ old.total + length posted → NoticesStand inventory h old → NoticesStand inventory (h ▷ e) new
  stand-next h e old new posted le adds is count stand =
      let now = lasts (moment_of e) in
      let then = lasts (last_moment h) in
      let before = notices_of inventory h in
      let total = stand.total in
      let many = told-many inventory old.total adds.added posted adds.told in
      let long = ap length adds.grows ∙ length-append before adds.added in
      record {
        all = stand.all ++ posted;
        told = subst (λ ns. AreNoticesFrom inventory 0 ns (stand.all ++ posted)) (sym adds.grows)
            (told-append inventory 0 old.total before adds.added stand.all posted (omega (arith, total)) stand.told adds.told);
        total = omega (arith, count, total, many, long);
        kept = is ∙ filter-append now old.kept posted
            ∙ ap (λ l. l ++ filter now posted) (ap (filter now) stand.kept ∙ filter-again then now stand.all (λ x passes. lasted (last_moment h) (moment_of e) x le passes))
            ∙ sym (filter-append now stand.all posted);
      }

  pub stand-same : (h : History) (e : Entry) (s : NoticesState) → last_moment h ≤ moment_of e → tick_of (moment_of e) ≡ tick_of (last_moment h)
      → NoticesStand inventory h s → NoticesStand inventory (h ▷ e) s
  stand-same h e s le same stand =
      let all : notices_of inventory (h ▷ e) ≡ notices_of inventory h = notices_of-same_tick (terms_of inventory) h e le same in
      record {
        all = stand.all;
        told = subst (λ ns. AreNoticesFrom inventory 0 ns stand.all) (sym all) stand.told;
        total = stand.total ∙ ap length (sym all);
        kept = stand.kept ∙ kept-same (last_moment h) (moment_of e) 0 (notices_of inventory h) stand.all (sym same) stand.told;
      }

  -- ---- the first entry

  none_at : (e : Entry) (end : ℕ) → 60 * end ≤ moment_of e → history.notices_at (terms_of inventory) (Start ▷ e) end ≡ []
  none_at e end le =
      let begun : before (60 * end) (Start ▷ e) ≡ Start = before-stays Start e (60 * end) le in
      λ i. map history.FileReady (flat_map (file_at (terms_of inventory) (Start ▷ e) end) (ids_after Job (begun i)))
      ++ map history.Crossing (flat_map (history.crossings_under (terms_of inventory) (Start ▷ e) end) (ids_after Monitor (begun i)))

  none_behind : (e : Entry) (n : ℕ) → 60 * n ≤ moment_of e → behind (history.notices_at (terms_of inventory) (Start ▷ e)) 0 n ≡ []
  none_behind e zero le = refl
  none_behind e (suc n) le =
      let none = none_at e (suc (0 + n)) (omega (arith, le)) in
      let rest = none_behind e n (omega (arith, le)) in
      λ i. rest i ++ none i

  pub stand-first : (e : Entry) (s : NoticesState) → s.kept ≡ [] → s.total ≡ 0 → NoticesStand inventory (Start ▷ e) s
  stand-first e s kept total =
      let none : notices_of inventory (Start ▷ e) ≡ [] = none_behind e (tick_of (moment_of e)) (omega arith) in
      record {
        all = [];
        told = subst (λ ns. AreNoticesFrom inventory 0 ns []) (sym none) tt;
        total = total ∙ ap length (sym none);
        kept = kept;
      }

  pub stand-start : (s : NoticesState) → s.kept ≡ [] → s.total ≡ 0 → NoticesStand inventory Start s
  stand-start s kept total = record { all = []; told = tt; total = total; kept = kept }

  -- ---- what is due

  pub kept-due : (h : History) (s : NoticesState) (stand : NoticesStand inventory h s) (moment least : ℕ) → last_moment h ≤ moment
      → HaveDue s.kept stand.all moment least
  kept-due h s stand moment least le =
      ap (filter (is_due moment least)) stand.kept
      ∙ filter-again (lasts (last_moment h)) (is_due moment least) stand.all
      (λ x due. lasted (last_moment h) moment x le (and_parts (leb least x.number) (lasts moment x) due).1)
