-- What is said of ticks that are over stays as it is, whatever comes next.
use Rattle.std.proofs.Common.{◌≡◌, ℕ, zero, suc, ◌+◌, ◌-◌, ◌*◌, ◌%◌, ◌<◌, ◌≤◌, Bool, true, false, ◌&&◌, not, cond, leb, eqb, List, [], ◌∷◌, ◌++◌, map, Option, Some, None, refl, sym, ap, ◌∙◌, arith, suc-mul}
use Rattle.std.proofs.lemmas.Bool.{cond-false, ne_eqb, and_left, and_right, leb-true, and_parts}
use Rattle.std.proofs.lemmas.List.{append-nil}
use Rattle.std.specs.List.{flat_map}
use Rattle.std.specs.Option.{option_to_list}
use Rattle.pm_base.specs.Moment.{tick_of}
use Rattle.pm_meas.specs.Cell.{reduced}
use Rattle.pm_history.specs.declared.entry.Side.{Side}
use Rattle.pm_history.specs.declared.entry.Side.TheVariants.{Job, Monitor}
use Rattle.pm_history.specs.declared.entry.Entry.{Entry}
use Rattle.pm_history.specs.declared.entry.Entry.TheVariants.{Event}
use Rattle.pm_history.specs.Entry.{moment_of}
use Rattle.pm_history.specs.History.{History, Start, ◌▷◌, last_moment, before}
use Rattle.pm_history.specs.declared.metric.Metric.{Metric}
use Rattle.pm_history.specs.Terms.{Terms, Measured, Watched, reporting}
use Rattle.pm_history.specs.Ticks.{is_within, behind}
use Rattle.pm_history.specs.Standing.{Making, Standing, making_of, runs, standing_after, ids_after}
use Rattle.pm_history.specs.Counted.{is_on, is_touched, is_counted, some_counted, all_counted}
use Rattle.pm_history.specs.Value.{value_where, values_where, counted_values, measured_value, is_suspect}
use Rattle.pm_history.specs.Files.{part_of, parts_of, report_of, is_due, file_of, files_at, files_of}
use Rattle.pm_history.specs.Notices.{crossed_last, value_at, value_sequence, crossing_at, crossings_of, crossings_at, notices_at, notices_of, FileReady, Crossing}
use Rattle.pm_history.proofs.TickLemmas.{or_false, and_same, at_some-same, at_each-same, is_within-true, is_within-past, behind-same, behind-add}
use Rattle.pm_history.proofs.HistoryLemmas.{before-stays, is_over-stays, is_cut-stays}

-- an entry whose tick fails the test adds no value
pub value_where-fails : (o m : ℕ) (p : ℕ → Bool) (e : Entry) → p (tick_of (moment_of e)) ≡ false → value_where o m p e ≡ []
value_where-fails o m p (Event moment object metric value registered) fails =
    cond-false _ _ _ (and_right (eqb object o && eqb metric m && registered) (p (tick_of moment)) fails)
value_where-fails o m p _ fails = refl

-- tests that agree at its tick give an entry the same value
pub value_where-same : (o m : ℕ) (p q : ℕ → Bool) (e : Entry) → p (tick_of (moment_of e)) ≡ q (tick_of (moment_of e)) → value_where o m p e ≡ value_where o m q e
value_where-same o m p q (Event moment object metric value registered) same =
    ap (λ b. cond (eqb object o && eqb metric m && registered && b) (value ∷ []) []) same
value_where-same o m p q _ same = refl

pub values_where-same : (o m : ℕ) (p q : ℕ → Bool) (h : History) → ((t : ℕ) → p t ≡ q t) → values_where o m p h ≡ values_where o m q h
values_where-same o m p q Start same = refl
values_where-same o m p q (h ▷ e) same =
    let rest = values_where-same o m p q h same in
    let this = value_where-same o m p q e (same (tick_of (moment_of e))) in
    λ i. rest i ++ this i

pub cond_same : {A : Type 0} (b : Bool) (x y z : A) → (b ≡ true → x ≡ y) → cond b x z ≡ cond b y z
cond_same true x y z f = f refl
cond_same false x y z f = refl

pub flat_map-same : {X A : Type 0} (f g : X → List A) (xs : List X) → ((x : X) → f x ≡ g x) → flat_map f xs ≡ flat_map g xs
flat_map-same f g [] same = refl
flat_map-same f g (x ∷ xs) same = let rest = flat_map-same f g xs same in λ i. same x i ++ rest i

module _ (terms : Side → List ℕ → Terms) where
  is_touched-stays : (h : History) (e : Entry) (w : Making) (t : ℕ) → last_moment h ≤ moment_of e → t < tick_of (last_moment h)
      → is_touched terms (h ▷ e) w t ≡ is_touched terms h w t
  is_touched-stays h e w t le lt =
      let other : eqb (tick_of (moment_of e)) t ≡ false = ne_eqb _ _ (λ same. omega arith) in
      or_false (is_touched terms h w t) _ (and_left (eqb (tick_of (moment_of e)) t) (is_on terms w h e) other)

  pub is_counted-stays : (h : History) (e : Entry) (w : Making) (t : ℕ) → last_moment h ≤ moment_of e → t < tick_of (last_moment h)
      → is_counted terms (h ▷ e) w t ≡ is_counted terms h w t
  is_counted-stays h e w t le lt =
      let over = is_over-stays h e t le lt in
      let cut = is_cut-stays h e t le lt in
      let begun = before-stays h e (60 * t) (omega arith) in
      let touched = is_touched-stays h e w t le lt in
      λ i. over i && not (cut i) && runs w.place (standing_after terms w.side (begun i) w.id) && not (touched i)

  pub some_counted-stays : (h : History) (e : Entry) (w : Making) (first n : ℕ) → last_moment h ≤ moment_of e → first + n ≤ tick_of (last_moment h)
      → some_counted terms (h ▷ e) w first n ≡ some_counted terms h w first n
  some_counted-stays h e w first n le within =
      at_some-same n _ _ (λ k lt. is_counted-stays h e w (first + k) le (omega arith))

  pub all_counted-stays : (h : History) (e : Entry) (w : Making) (first n : ℕ) → last_moment h ≤ moment_of e → first + n ≤ tick_of (last_moment h)
      → all_counted terms (h ▷ e) w first n ≡ all_counted terms h w first n
  all_counted-stays h e w first n le within =
      at_each-same n _ _ (λ k lt. is_counted-stays h e w (first + k) le (omega arith))

  pub is_suspect-stays : (h : History) (e : Entry) (w : Making) (first n : ℕ) → last_moment h ≤ moment_of e → first + n ≤ tick_of (last_moment h)
      → is_suspect terms (h ▷ e) w first n ≡ is_suspect terms h w first n
  is_suspect-stays h e w first n le within = ap not (all_counted-stays h e w first n le within)

  pub counted_values-stays : (h : History) (e : Entry) (w : Making) (o m first n : ℕ) → last_moment h ≤ moment_of e → first + n ≤ tick_of (last_moment h)
      → counted_values terms (h ▷ e) w o m first n ≡ counted_values terms h w o m first n
  counted_values-stays h e w o m first n le within =
      let p : ℕ → Bool = λ t. is_within first n t && is_counted terms (h ▷ e) w t in
      let q : ℕ → Bool = λ t. is_within first n t && is_counted terms h w t in
      let out : is_within first n (tick_of (moment_of e)) ≡ false = is_within-past first n (tick_of (moment_of e)) (omega arith) in
      let none = value_where-fails o m p e (and_left (is_within first n (tick_of (moment_of e))) (is_counted terms (h ▷ e) w (tick_of (moment_of e))) out) in
      let same : (t : ℕ) → p t ≡ q t = λ t. and_same (is_within first n t) _ _ (λ inside. let at = is_within-true first n t inside in is_counted-stays h e w t le (omega arith)) in
      ap (λ vs. values_where o m p h ++ vs) none ∙ (append-nil (values_where o m p h) ∙ values_where-same o m p q h same)

  pub measured_value-stays : (h : History) (e : Entry) (w : Making) (o : ℕ) (m : Metric) (first n : ℕ) → last_moment h ≤ moment_of e → first + n ≤ tick_of (last_moment h)
      → measured_value terms (h ▷ e) w o m first n ≡ measured_value terms h w o m first n
  measured_value-stays h e w o m first n le within =
      let some = some_counted-stays h e w first n le within in
      let values = counted_values-stays h e w o m.number first n le within in
      λ i. cond (some i) (reduced m.reduce (values i)) None

  -- ---- files

  pub part_of-stays : (h : History) (e : Entry) (w : Making) (t : Terms) (first : ℕ) → last_moment h ≤ moment_of e → first + t.granularity ≤ tick_of (last_moment h)
      → part_of terms (h ▷ e) w t first ≡ part_of terms h w t first
  part_of-stays h e w t first le within =
      let value : (o : ℕ) (m : Metric) → measured_value terms (h ▷ e) w o m first t.granularity ≡ measured_value terms h w o m first t.granularity = λ o m. measured_value-stays h e w o m first t.granularity le within in
      let suspect = is_suspect-stays h e w first t.granularity le within in
      λ i. record {
        begin = first;
        end = first + t.granularity;
        groups = map
            (λ (g : Measured). record {
              class = g.class;
              metrics = map (λ (m : Metric). m.number) g.metrics;
              rows = map (λ o. record { object = o; results = map (λ (m : Metric). value o m i) g.metrics; suspect = suspect i }) g.objects;
            })
            t.measured;
      }

  pub parts_of-stays : (h : History) (e : Entry) (w : Making) (t : Terms) (first n : ℕ) → last_moment h ≤ moment_of e → first + n * t.granularity ≤ tick_of (last_moment h)
      → parts_of terms (h ▷ e) w t first n ≡ parts_of terms h w t first n
  parts_of-stays h e w t first zero le within = refl
  parts_of-stays h e w t first (suc n) le within =
      let product = suc-mul n t.granularity in
      let rest = parts_of-stays h e w t first n le (omega arith) in
      let this = part_of-stays h e w t (first + n * t.granularity) le (omega arith) in
      λ i. rest i ++ this i ∷ []

  pub report_of-stays : (h : History) (e : Entry) (w : Making) (t : Terms) (end : ℕ) → last_moment h ≤ moment_of e → reporting t ≤ end → end ≤ tick_of (last_moment h)
      → report_of terms (h ▷ e) w t end ≡ report_of terms h w t end
  report_of-stays h e w t end le room within =
      let parts = parts_of-stays h e w t (end - reporting t) t.parts le (omega arith) in
      λ i. record { job = w.id; begin = end - reporting t; end = end; parts = parts i }

  pub is_due-stays : (h : History) (e : Entry) (w : Making) (t : Terms) (end : ℕ) → last_moment h ≤ moment_of e → end ≤ tick_of (last_moment h)
      → is_due terms (h ▷ e) w t end ≡ is_due terms h w t end
  is_due-stays h e w t end le within =
      and_same (leb (reporting t) end && eqb (end % reporting t) 0) _ _ (λ due.
      let room = leb-true (reporting t) end (and_parts _ _ due).0 in
      some_counted-stays h e w (end - reporting t) (reporting t) le (omega arith))

  pub file_of-stays : (h : History) (e : Entry) (id : List ℕ) (end : ℕ) (s : Option Standing) → last_moment h ≤ moment_of e → end ≤ tick_of (last_moment h)
      → file_of terms (h ▷ e) id end s ≡ file_of terms h id end s
  file_of-stays h e id end None le within = refl
  file_of-stays h e id end (Some s) le within =
      let w = making_of Job id s in
      let t = terms Job s.body in
      ap (λ b. cond b (report_of terms (h ▷ e) w t end ∷ []) []) (is_due-stays h e w t end le within)
      ∙ cond_same (is_due terms h w t end) _ _ [] (λ due.
      let room = leb-true (reporting t) end (and_parts _ _ (and_parts _ _ due).0).0 in
      ap (λ r. r ∷ []) (report_of-stays h e w t end le room within))

  pub files_at-stays : (h : History) (e : Entry) (end : ℕ) → last_moment h ≤ moment_of e → end ≤ tick_of (last_moment h)
      → files_at terms (h ▷ e) end ≡ files_at terms h end
  files_at-stays h e end le within =
      let begun : before (60 * end) (h ▷ e) ≡ before (60 * end) h = before-stays h e (60 * end) (omega arith) in
      ap (λ b. flat_map (λ id. file_of terms (h ▷ e) id end (standing_after terms Job b id)) (ids_after Job b)) begun
      ∙ flat_map-same _ _ (ids_after Job (before (60 * end) h)) (λ id. file_of-stays h e id end (standing_after terms Job (before (60 * end) h) id) le within)

  -- an entry after a history leaves its files, and more may come after them
  pub files_of-next : (h : History) (e : Entry) → last_moment h ≤ moment_of e
      → files_of terms (h ▷ e) ≡ files_of terms h ++ behind (files_at terms (h ▷ e)) (tick_of (last_moment h)) (tick_of (moment_of e) - tick_of (last_moment h))
  files_of-next h e le =
      let old = tick_of (last_moment h) in
      let more = tick_of (moment_of e) - tick_of (last_moment h) in
      let n : tick_of (moment_of e) ≡ old + more = omega arith in
      let from : 0 + old ≡ old = omega arith in
      let stay = behind-same (files_at terms (h ▷ e)) (files_at terms h) 0 old (λ k lt lie. files_at-stays h e k le (omega arith)) in
      ap (behind (files_at terms (h ▷ e)) 0) n
      ∙ (behind-add (files_at terms (h ▷ e)) 0 old more ∙ (λ i. stay i ++ behind (files_at terms (h ▷ e)) (from i) more))

  -- ---- crossings

  pub value_at-stays : (h : History) (e : Entry) (w : Making) (g o : ℕ) (m : Metric) (end : ℕ) → last_moment h ≤ moment_of e → end ≤ tick_of (last_moment h)
      → value_at terms (h ▷ e) w g o m end ≡ value_at terms h w g o m end
  value_at-stays h e w g o m end le within = by (leb g end) refl
    where
      by : (b : Bool) → leb g end ≡ b → value_at terms (h ▷ e) w g o m end ≡ value_at terms h w g o m end
      by true is =
          let room = leb-true g end is in
          let suspect = is_suspect-stays h e w (end - g) g le (omega arith) in
          let value = measured_value-stays h e w o m (end - g) g le (omega arith) in
          λ i. cond (leb g end && eqb (end % g) 0 && not (suspect i)) (option_to_list (value i)) []
      by false is =
          let none : (s : Bool) → (leb g end && eqb (end % g) 0 && s) ≡ false = λ s. and_left _ s (and_left (leb g end) _ is) in
          cond-false _ _ [] (none _) ∙ sym (cond-false _ _ [] (none _))

  pub value_sequence-stays : (h : History) (e : Entry) (w : Making) (g o : ℕ) (m : Metric) (armed end : ℕ) → last_moment h ≤ moment_of e → end ≤ tick_of (last_moment h)
      → value_sequence terms (h ▷ e) w g o m armed end ≡ value_sequence terms h w g o m armed end
  value_sequence-stays h e w g o m armed end le within =
      behind-same _ _ (tick_of armed) (end - tick_of armed) (λ k lt lie. value_at-stays h e w g o m k le (omega arith))

  pub crossing_at-stays : (h : History) (e : Entry) (w : Making) (g armed end : ℕ) (watched : Watched) (o : ℕ) → last_moment h ≤ moment_of e → end ≤ tick_of (last_moment h)
      → crossing_at terms (h ▷ e) w g armed end watched o ≡ crossing_at terms h w g armed end watched o
  crossing_at-stays h e w g armed end watched o le within =
      let values = value_sequence-stays h e w g o watched.metric armed end le within in
      let value = value_at-stays h e w g o watched.metric end le within in
      λ i. crossed_last w.id watched o end (values i) (value i)

  pub crossings_of-stays : (h : History) (e : Entry) (id : List ℕ) (end : ℕ) (s : Option Standing) → last_moment h ≤ moment_of e → end ≤ tick_of (last_moment h)
      → crossings_of terms (h ▷ e) id end s ≡ crossings_of terms h id end s
  crossings_of-stays h e id end None le within = refl
  crossings_of-stays h e id end (Some s) le within =
      let w = making_of Monitor id s in
      let g = (terms Monitor s.body).granularity in
      flat_map-same _ _ (terms Monitor s.body).watched (λ watched.
      flat_map-same _ _ watched.objects (λ o. crossing_at-stays h e w g s.armed end watched o le within))

  pub crossings_at-stays : (h : History) (e : Entry) (end : ℕ) → last_moment h ≤ moment_of e → end ≤ tick_of (last_moment h)
      → crossings_at terms (h ▷ e) end ≡ crossings_at terms h end
  crossings_at-stays h e end le within =
      let begun : before (60 * end) (h ▷ e) ≡ before (60 * end) h = before-stays h e (60 * end) (omega arith) in
      ap (λ b. flat_map (λ id. crossings_of terms (h ▷ e) id end (standing_after terms Monitor b id)) (ids_after Monitor b)) begun
      ∙ flat_map-same _ _ (ids_after Monitor (before (60 * end) h)) (λ id. crossings_of-stays h e id end (standing_after terms Monitor (before (60 * end) h) id) le within)

  -- ---- notices

  pub notices_at-stays : (h : History) (e : Entry) (end : ℕ) → last_moment h ≤ moment_of e → end ≤ tick_of (last_moment h)
      → notices_at terms (h ▷ e) end ≡ notices_at terms h end
  notices_at-stays h e end le within =
      let files = files_at-stays h e end le within in
      let crossings = crossings_at-stays h e end le within in
      λ i. map FileReady (files i) ++ map Crossing (crossings i)

  -- an entry after a history leaves its notices, and more may come after them
  pub notices_of-next : (h : History) (e : Entry) → last_moment h ≤ moment_of e
      → notices_of terms (h ▷ e) ≡ notices_of terms h ++ behind (notices_at terms (h ▷ e)) (tick_of (last_moment h)) (tick_of (moment_of e) - tick_of (last_moment h))
  notices_of-next h e le =
      let old = tick_of (last_moment h) in
      let more = tick_of (moment_of e) - tick_of (last_moment h) in
      let n : tick_of (moment_of e) ≡ old + more = omega arith in
      let from : 0 + old ≡ old = omega arith in
      let stay = behind-same (notices_at terms (h ▷ e)) (notices_at terms h) 0 old (λ k lt lie. notices_at-stays h e k le (omega arith)) in
      ap (behind (notices_at terms (h ▷ e)) 0) n
      ∙ (behind-add (notices_at terms (h ▷ e)) 0 old more ∙ (λ i. stay i ++ behind (notices_at terms (h ▷ e)) (from i) more))
