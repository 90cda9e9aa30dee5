-- Files after a gap: a stretch of ticks that are all not counted.
use Rattle.std.proofs.Common.{◌≡◌, ℕ, zero, suc, ◌+◌, ◌-◌, ◌*◌, ◌%◌, ◌<◌, ◌≤◌, false, ◌&&◌, leb, eqb, List, [], ◌∷◌, ◌++◌, Option, Some, None, refl, arith, suc-mul}
use Rattle.std.proofs.lemmas.Bool.{cond-false, and_right, or_from}
use Rattle.std.proofs.lemmas.Nat.{mul-le}
use Rattle.std.specs.List.{flat_map}
use Rattle.pm_base.specs.Moment.{tick_of}
use Rattle.pm_history.specs.declared.entry.Side.{Side}
use Rattle.pm_history.specs.declared.entry.Side.TheVariants.{Job}
use Rattle.pm_history.specs.declared.entry.Entry.TheVariants.{Boot}
use Rattle.pm_history.specs.History.{History, ◌▷◌, size, last_moment, before}
use Rattle.pm_history.specs.Terms.{Terms, reporting}
use Rattle.pm_history.specs.Ticks.{behind}
use Rattle.pm_history.specs.Standing.{Making, Standing, making_of, standing_after, ids_after}
use Rattle.pm_history.specs.Counted.{is_counted, some_counted}
use Rattle.pm_history.specs.Files.{is_due, file_of, file_at, files_at}
use Rattle.pm_history.proofs.TickLemmas.{behind-none}
use Rattle.pm_history.proofs.StandingLemmas.{is_counted-boot}

flat_map-none : {X A : Type 0} (f : X → List A) (xs : List X) → ((x : X) → f x ≡ []) → flat_map f xs ≡ []
flat_map-none f [] none = refl
flat_map-none f (x ∷ xs) none = let rest = flat_map-none f xs none in λ i. none x i ++ rest i

module _ (terms : Side → List ℕ → Terms) where
  pub some_counted-none : (h : History) (w : Making) (first n : ℕ)
      → ((t : ℕ) → first ≤ t → t < first + n → is_counted terms h w t ≡ false)
      → some_counted terms h w first n ≡ false
  some_counted-none h w first zero none = refl
  some_counted-none h w first (suc n) none =
      or_from _ _ (some_counted-none h w first n (λ t from lt. none t from (omega arith)))
      (none (first + n) (omega arith) (omega arith))

  -- a reporting period that lies wholly in the stretch has no file
  pub file_of-gap : (h : History) (id : List ℕ) (end a b : ℕ) (s : Standing)
      → ((t : ℕ) → a ≤ t → t < b → is_counted terms h (making_of Job id s) t ≡ false)
      → a + reporting (terms Job s.body) ≤ end → end ≤ b
      → file_of terms h id end (Some s) ≡ []
  file_of-gap h id end a b s none from to =
      let r = reporting (terms Job s.body) in
      let w = making_of Job id s in
      let counted = some_counted-none h w (end - r) r (λ t ge lt. none t (omega arith) (omega arith)) in
      cond-false (is_due terms h w (terms Job s.body) end) _ [] (and_right (leb r end && eqb (end % r) 0) _ counted)

  -- GAP: where each standing reporting period that ends here lies wholly in the stretch, no file does
  pub files_at-gap : (h : History) (end a b : ℕ)
      → ((w : Making) (t : ℕ) → a ≤ t → t < b → is_counted terms h w t ≡ false)
      → ((id : List ℕ) (s : Standing) → standing_after terms Job (before (60 * end) h) id ≡ Some s
      → a + reporting (terms Job s.body) ≤ end)
      → end ≤ b
      → files_at terms h end ≡ []
  files_at-gap h end a b none wide to =
      flat_map-none (file_at terms h end) (ids_after Job (before (60 * end) h))
      (λ id. by id (standing_after terms Job (before (60 * end) h) id) refl)
    where
      by : (id : List ℕ) (o : Option Standing) → standing_after terms Job (before (60 * end) h) id ≡ o
          → file_of terms h id end o ≡ []
      by id None is = refl
      by id (Some s) is = file_of-gap h id end a b s (λ t from lt. none (making_of Job id s) t from lt) (wide id s is) to

  -- the stretch that ends with a Boot: of one item only the period open at the last moment may have a file. Its end is the
  -- first multiple of
  -- the reporting period after the tick of the last moment.
  pub file_of-boot : (h : History) (m : ℕ) (id : List ℕ) (end periods ends : ℕ) (s : Standing) → 0 < size h
      → periods * reporting (terms Job s.body) ≤ tick_of (last_moment h)
      → end ≡ ends * reporting (terms Job s.body) → suc (suc periods) ≤ ends
      → tick_of (last_moment h) < suc periods * reporting (terms Job s.body)
      → end ≤ tick_of m
      → file_of terms (h ▷ Boot m) id end (Some s) ≡ []
  file_of-boot h m id end periods ends s some begun ends_at further next to =
      let r = reporting (terms Job s.body) in
      let wide = mul-le (suc (suc periods)) r ends r further (omega arith) in
      let one_more = suc-mul (suc periods) r in
      file_of-gap (h ▷ Boot m) id end (tick_of (last_moment h)) (tick_of m) s
      (λ t from lt. is_counted-boot terms h m (making_of Job id s) t some from lt)
      (omega arith) to

  -- a whole stretch of ends that come with a Boot, once each standing reporting period has passed
  pub files-boot : (h : History) (m late k : ℕ) → 0 < size h
      → ((id : List ℕ) (s : Standing) (end : ℕ) → late < end → end ≤ late + k
      → standing_after terms Job (before (60 * end) (h ▷ Boot m)) id ≡ Some s
      → tick_of (last_moment h) + reporting (terms Job s.body) ≤ end)
      → late + k ≤ tick_of m
      → behind (files_at terms (h ▷ Boot m)) late k ≡ []
  files-boot h m late k some wide to =
      behind-none (files_at terms (h ▷ Boot m)) late k (λ end lt le.
      files_at-gap (h ▷ Boot m) end (tick_of (last_moment h)) (tick_of m)
      (λ w t from before_it. is_counted-boot terms h m w t some from before_it)
      (λ id s is. wide id s end lt le is) (omega arith))
