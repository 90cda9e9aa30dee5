-- The value sequences and crossings of one monitor in each of two histories that have the same of it.
use Rattle.std.proofs.Common.{◌≡◌, ℕ, ◌-◌, ◌%◌, ◌≤◌, Bool, true, false, ◌&&◌, not, cond, leb, eqb, List, [], refl, sym, ◌∙◌, arith}
use Rattle.std.proofs.lemmas.Bool.{cond-false, and_left, leb-true}
use Rattle.std.specs.List.{flat_map}
use Rattle.std.specs.Option.{option_to_list}
use Rattle.pm_base.specs.Moment.{tick_of}
use Rattle.pm_history.specs.declared.entry.Side.{Side}
use Rattle.pm_history.specs.History.{History}
use Rattle.pm_history.specs.declared.metric.Metric.{Metric}
use Rattle.pm_history.specs.Terms.{Terms, Watched}
use Rattle.pm_history.specs.Standing.{Making}
use Rattle.pm_history.specs.Value.{measured_value, is_suspect}
use Rattle.pm_history.specs.Notices.{crossed_last, value_at, value_sequence, crossing_at, crossings_by}
use Rattle.pm_history.proofs.TickLemmas.{behind-same}
use Rattle.pm_history.proofs.StayLemmas.{flat_map-same}
use Rattle.pm_items.proofs.MeasuredLemmas.{HaveSame, suspect-same, measured-same}

module _ (terms : Side → List ℕ → Terms) (g h : History) (v w : Making) (last : ℕ) (same : HaveSame terms g h v w last) where
  value-same : (gp o : ℕ) (m : Metric) (end : ℕ) → end ≤ last → value_at terms g v gp o m end ≡ value_at terms h w gp o m end
  value-same gp o m end within =
      by (leb gp end) refl
      (λ room. suspect-same terms g h v w last same (end - gp) gp (omega arith))
      (λ room. measured-same terms g h v w last same o m (end - gp) gp (omega arith))
    where
      by : (b : Bool) → leb gp end ≡ b
          → (gp ≤ end → is_suspect terms g v (end - gp) gp ≡ is_suspect terms h w (end - gp) gp)
          → (gp ≤ end → measured_value terms g v o m (end - gp) gp ≡ measured_value terms h w o m (end - gp) gp)
          → value_at terms g v gp o m end ≡ value_at terms h w gp o m end
      by true is suspects values =
          let room = leb-true gp end is in
          let suspect = suspects room in
          let value = values room in
          λ i. cond (leb gp end && eqb (end % gp) 0 && not (suspect i)) (option_to_list (value i)) []
      by false is suspects values =
          let none : (s : Bool) → (leb gp end && eqb (end % gp) 0 && s) ≡ false = λ s. and_left _ s (and_left (leb gp end) _ is) in
          cond-false _ _ [] (none _) ∙ sym (cond-false _ _ [] (none _))

  pub sequence-same : (gp o : ℕ) (m : Metric) (armed end : ℕ) → end ≤ last
      → value_sequence terms g v gp o m armed end ≡ value_sequence terms h w gp o m armed end
  sequence-same gp o m armed end within =
      behind-same _ _ (tick_of armed) (end - tick_of armed) (λ k lt le. value-same gp o m k (omega arith))

  crossing-same : (gp armed end : ℕ) (watched : Watched) (o : ℕ) → end ≤ last
      → crossing_at terms g v gp armed end watched o ≡ crossing_at terms h w gp armed end watched o
  crossing-same gp armed end watched o within =
      let values = sequence-same gp o watched.metric armed end within in
      let value = value-same gp o watched.metric end within in
      let id = same.ids in
      λ i. crossed_last (id i) watched o end (values i) (value i)

  pub crossings-same : (gp armed end : ℕ) (all : List Watched) → end ≤ last
      → flat_map (crossings_by terms g v gp armed end) all ≡ flat_map (crossings_by terms h w gp armed end) all
  crossings-same gp armed end all within =
      flat_map-same _ _ all (λ watched. flat_map-same _ _ watched.objects (λ o. crossing-same gp armed end watched o within))
