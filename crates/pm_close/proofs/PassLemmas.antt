-- Ticks with which no granularity period ends: watches stay, and there are no crossings.
use Rattle.std.proofs.Common.{◌≡◌, ℕ, zero, suc, ◌+◌, ◌*◌, ◌%◌, ◌<◌, ◌≤◌, Bool, true, false, ◌&&◌, not, cond, leb, eqb}
use Rattle.std.proofs.Common.{List, [], ◌∷◌, ◌++◌, ◌-◌, option_to_list, refl, ap, subst, ◌∙◌, arith}
use Rattle.std.proofs.lemmas.Bool.{leb-true}
use Rattle.std.proofs.lemmas.Nat.{mod-mul-add}
use Rattle.std.proofs.Math.Dec.{eqb-suc-zero}
use Rattle.std.specs.List.{flat_map}
use Rattle.pm_base.specs.Moment.{tick_of}
use Rattle.pm_inventory.specs.Inventory.{SlotKey}
use Rattle.pm_history.specs.declared.entry.Side.{Side}
use Rattle.pm_history.specs.declared.metric.Metric.{Metric}
use Rattle.pm_history.specs.History.{History}
use Rattle.pm_history.specs.Terms.{Terms, Watched}
use Rattle.pm_history.specs.Standing.{Making}
use Rattle.pm_history.specs.Ticks.{at_each}
use Rattle.pm_history.specs.Counted.{is_counted}
use Rattle.pm_history.specs.Value.{measured_value, is_suspect}
use Rattle.pm_history.specs.Notices.{value_at, crossing_at, crossings_by}
use Rattle.pm_close.specs.declared.marks.Marks.{Marks}
use Rattle.pm_close.specs.declared.watched.WatchedObject.{WatchedObject}
use Rattle.pm_close.specs.declared.watches.MetricWatches.{MetricWatches}
use Rattle.pm_close.specs.Marks.{NoneCounted, MarksStand}
use Rattle.pm_close.specs.Watched.{ObjectsStand, WatchesStand}
use Rattle.pm_close.proofs.FlagLemmas.{watch-none, crossing-none}

-- where each says nothing, nothing is said
flat_map-none : {X A : Type 0} (f : X → List A) (xs : List X) → ((x : X) → f x ≡ []) → flat_map f xs ≡ []
flat_map-none f [] none = refl
flat_map-none f (x ∷ xs) none = λ i. none x i ++ flat_map-none f xs none i

module _ (terms : Side → List ℕ → Terms) (h : History) (w : Making) (granularity : ℕ) where
  -- within a granularity period no value is said
  pub value_at-within : (object : ℕ) (m : Metric) (tick : ℕ) (marks : Marks) → MarksStand terms h w granularity tick marks
      → marks.count + 1 < granularity → value_at terms h w granularity object m (tick + 1) ≡ []
  value_at-within object m tick marks stand more =
      let begins = stand.begins in
      let reach = stand.reach in
      let at : tick + 1 ≡ stand.periods * granularity + suc marks.count = omega (arith, begins, reach) in
      let rest : (tick + 1) % granularity ≡ suc marks.count =
      ap (λ k. k % granularity) at ∙ mod-mul-add stand.periods granularity (suc marks.count) (omega (arith, more)) in
      let test : eqb ((tick + 1) % granularity) 0 ≡ false = ap (λ k. eqb k 0) rest ∙ eqb-suc-zero marks.count in
      (λ i. cond (leb granularity (tick + 1) && test i && not (is_suspect terms h w (tick + 1 - granularity) granularity))
      (option_to_list (measured_value terms h w object m (tick + 1 - granularity) granularity)) [])
      ∙ by (leb granularity (tick + 1)) (is_suspect terms h w (tick + 1 - granularity) granularity)
      (option_to_list (measured_value terms h w object m (tick + 1 - granularity) granularity))
    where
      by : (a s : Bool) (vs : List ℕ) → cond (a && false && not s) vs [] ≡ []
      by true s vs = refl
      by false s vs = refl

  -- a tick of a run in which none is counted ends no period with a value
  pub value_at-uncounted : (object : ℕ) (m : Metric) (from tick end : ℕ) → 0 < granularity → NoneCounted terms h w from tick
      → from < end → end ≤ tick → value_at terms h w granularity object m end ≡ []
  value_at-uncounted object m from tick end some none after within = by (leb granularity end) refl
    where
      suspect : (g : ℕ) → 0 < g → g ≤ end → is_suspect terms h w (end - g) g ≡ true
      suspect zero positive room = absurd (omega arith)
      suspect (suc n) positive room =
          let last : end - suc n + n ≡ end - 1 = omega arith in
          let uncounted = ap (is_counted terms h w) last ∙ none (end - 1) (omega arith) (omega arith) in
          ap (λ b. not (at_each n (λ k. is_counted terms h w (end - suc n + k)) && b)) uncounted
          ∙ and_none (at_each n (λ k. is_counted terms h w (end - suc n + k)))
        where
          and_none : (a : Bool) → not (a && false) ≡ true
          and_none true = refl
          and_none false = refl

      said : List ℕ
      said = option_to_list (measured_value terms h w object m (end - granularity) granularity)

      off : (a b : Bool) → cond (a && b && false) said [] ≡ []
      off true true = refl
      off true false = refl
      off false b = refl

      none_of : (b s : Bool) → cond (false && b && not s) said [] ≡ []
      none_of b s = refl

      by : (b : Bool) → leb granularity end ≡ b → value_at terms h w granularity object m end ≡ []
      by true is =
          ap (λ s. cond (leb granularity end && eqb (end % granularity) 0 && not s) said [])
          (suspect granularity some (leb-true granularity end is))
          ∙ off (leb granularity end) (eqb (end % granularity) 0)
      by false is =
          ap (λ b. cond (b && eqb (end % granularity) 0 && not (is_suspect terms h w (end - granularity) granularity)) said []) is
          ∙ none_of (eqb (end % granularity) 0) (is_suspect terms h w (end - granularity) granularity)

  module _ (armed tick : ℕ) (later : tick_of armed ≤ tick)
      (none : (object : ℕ) (m : Metric) → value_at terms h w granularity object m (tick + 1) ≡ []) where
    objects-pass : (slots : List SlotKey) (watched : Watched) (objects : List WatchedObject)
        → ObjectsStand terms slots h w granularity watched armed tick objects
        → ObjectsStand terms slots h w granularity watched armed (tick + 1) objects
    objects-pass slots watched objects old k d lt =
        let was = old k d lt in
        record {
          slot = was.slot;
          watch = watch-none terms h w granularity _ watched armed tick _ later (none _ watched.metric) was.watch;
        }

    pub watches-pass : (slots : List SlotKey) (watched : List Watched) (metrics : List MetricWatches)
        → WatchesStand terms slots h w granularity watched armed tick metrics
        → WatchesStand terms slots h w granularity watched armed (tick + 1) metrics
    watches-pass slots watched metrics old = record {
      are = old.are;
      each = λ k d lt. objects-pass slots _ _ (old.each k d lt);
    }

  pub crossings-none : (armed end : ℕ) (watched : List Watched)
      → ((object : ℕ) (m : Metric) → value_at terms h w granularity object m end ≡ [])
      → flat_map (crossings_by terms h w granularity armed end) watched ≡ []
  crossings-none armed end watched none =
      flat_map-none (crossings_by terms h w granularity armed end) watched (λ one.
      flat_map-none (crossing_at terms h w granularity armed end one) one.objects (λ object.
      crossing-none terms h w granularity object one armed end (none object one.metric)))

  -- ticks in a row with which no value is said
  pub watches-pass_all : (slots : List SlotKey) (watched : List Watched) (metrics : List MetricWatches) (armed from n : ℕ)
      → tick_of armed ≤ from
      → ((end : ℕ) → from < end → end ≤ from + n → (object : ℕ) (m : Metric) → value_at terms h w granularity object m end ≡ [])
      → WatchesStand terms slots h w granularity watched armed from metrics
      → WatchesStand terms slots h w granularity watched armed (from + n) metrics
  watches-pass_all slots watched metrics armed from zero later none old =
      subst (λ t. WatchesStand terms slots h w granularity watched armed t metrics) (omega arith) old
  watches-pass_all slots watched metrics armed from (suc n) later none old =
      let before = watches-pass_all slots watched metrics armed from n later (λ end after le. none end after (omega arith)) old in
      let at : from + n + 1 ≡ from + suc n = omega arith in
      subst (λ t. WatchesStand terms slots h w granularity watched armed t metrics) at
      (watches-pass armed (from + n) (omega arith) (none (from + n + 1) (omega arith) (omega arith)) slots watched metrics before)
