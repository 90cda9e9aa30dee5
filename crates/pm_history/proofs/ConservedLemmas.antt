-- The files of a job add up to what is counted for it.
use Rattle.std.proofs.Common.{◌≡◌, ℕ, zero, suc, ◌+◌, ◌-◌, ◌*◌, ◌/◌, ◌%◌, ◌<◌, ◌≤◌, ◌⊎◌, inl, inr, Bool, true, false, ◌&&◌, ◌||◌, cond, ltb, leb, eqb, List, [], ◌∷◌, ◌++◌, map, sum, Option, Some, None, refl, sym, ap, ◌∙◌, arith, suc-mul, zero-mul, mul-le-mul_right, div-add-mod'}
use Rattle.std.proofs.lemmas.Bool.{cond-true, cond-false, lt-leb, ne_eqb, eq-eqb, and_left, leb-true, eqb-true, and_parts, cases_lt, or_cases, false≢true}
use Rattle.std.proofs.lemmas.List.{append-nil, map-append}
use Rattle.std.proofs.lemmas.List.Folds.{list_any-append}
use Rattle.std.proofs.lemmas.List.Sums.{sum_by_push}
use Rattle.std.specs.List.{flat_map, sum_by, list_any}
use Rattle.std.specs.Option.{unwrap_or}
use Rattle.pm_meas.specs.declared.kind.Reduce.{Reduce}
use Rattle.pm_meas.specs.declared.kind.Reduce.TheVariants.{Sum}
use Rattle.pm_history.specs.declared.entry.Side.{Side}
use Rattle.pm_history.specs.declared.entry.Side.TheVariants.{Job}
use Rattle.pm_history.specs.declared.metric.Metric.{Metric}
use Rattle.pm_history.specs.Entry.{moment_of, change_of}
use Rattle.pm_history.specs.History.{History, Start, ◌▷◌, size, before}
use Rattle.pm_history.specs.Terms.{Terms, reporting}
use Rattle.pm_history.specs.Ticks.{is_within, behind}
use Rattle.pm_history.specs.Standing.{Making, Standing, making_of, standing_after}
use Rattle.pm_history.specs.Counted.{is_counted, some_counted}
use Rattle.pm_history.specs.Value.{values_where, counted_values, measured_value}
use Rattle.pm_history.specs.Files.{row_of, group_of, part_of, parts_of, report_of, is_due, file_of}
use Rattle.pm_history.specs.Conserved.{results_at, row_results, group_results, part_results, value_in, sum_in, lies_in, reductions_at, object_reductions, measured_reductions, reductions, body_in, body_made, file_if, file_by}
use Rattle.pm_history.proofs.TickLemmas.{is_within-true}
use Rattle.pm_history.proofs.StayLemmas.{values_where-same}
use Rattle.pm_history.proofs.StandingLemmas.{Kept, New, Changed, came, place-lt}
use Rattle.pm_history.proofs.SumLemmas.{values_where-split, values_where-none, counted_sum-add, counted_sum-empty, counted_sum-none, or_and}

-- ---- the results of a part

results_at-of : (metric : ℕ) (V : Metric → Option ℕ) (ms : List Metric)
    → results_at metric (map (λ (m : Metric). m.number) ms) (map V ms) ≡ map (λ r. V (record { number = metric; reduce = r })) (reductions_at metric ms)
results_at-of metric V [] = refl
results_at-of metric V (m ∷ ms) = by (eqb m.number metric) refl (results_at-of metric V ms)
  where
    by : (b : Bool) → eqb m.number metric ≡ b
        → results_at metric (map (λ (m : Metric). m.number) ms) (map V ms) ≡ map (λ r. V (record { number = metric; reduce = r })) (reductions_at metric ms)
        → cond b (V m ∷ results_at metric (map (λ (m : Metric). m.number) ms) (map V ms)) (results_at metric (map (λ (m : Metric). m.number) ms) (map V ms))
        ≡ map (λ r. V (record { number = metric; reduce = r })) (cond b (m.reduce ∷ reductions_at metric ms) (reductions_at metric ms))
    by true is rest = let n = eqb-true m.number metric is in λ i. V (record { number = n i; reduce = m.reduce }) ∷ rest i
    by false is rest = rest

row_results-of : (object metric : ℕ) (V : ℕ → Metric → Option ℕ) (suspect : Bool) (ms : List Metric) (o : ℕ)
    → row_results object metric (map (λ (m : Metric). m.number) ms) (record { object = o; results = map (V o) ms; suspect = suspect })
    ≡ map (λ r. V object (record { number = metric; reduce = r })) (object_reductions object metric ms o)
row_results-of object metric V suspect ms o = by (eqb o object) refl
  where
    by : (b : Bool) → eqb o object ≡ b
        → cond b (results_at metric (map (λ (m : Metric). m.number) ms) (map (V o) ms)) [] ≡ map (λ r. V object (record { number = metric; reduce = r })) (cond b (reductions_at metric ms) [])
    by true is =
        let same = eqb-true o object is in
        results_at-of metric (V o) ms ∙ (λ i. map (λ r. V (same i) (record { number = metric; reduce = r })) (reductions_at metric ms))
    by false is = refl

flat_map-of : {X Y R B : Type 0} (f : Y → List B) (g : X → Y) (k : X → List R) (V : R → B) (xs : List X) → ((x : X) → f (g x) ≡ map V (k x))
    → flat_map f (map g xs) ≡ map V (flat_map k xs)
flat_map-of f g k V [] same = refl
flat_map-of f g k V (x ∷ xs) same =
    let rest = flat_map-of f g k V xs same in
    (λ i. same x i ++ rest i) ∙ sym (map-append V (k x) (flat_map k xs))

-- ---- one body for each making

before-size : (m : ℕ) (h : History) → size (before m h) ≤ size h
before-size m Start = omega arith
before-size m (h ▷ e) = by (ltb (moment_of e) m) (before-size m h)
  where
    by : (b : Bool) → size (before m h) ≤ size h → size (cond b (h ▷ e) (before m h)) ≤ size h + 1
    by true le = omega arith
    by false le = omega arith

body_made-before : (w : Making) (m : ℕ) (h : History) → w.place < size (before m h) → body_made w (before m h) ≡ body_made w h
body_made-before w m Start lt = refl
body_made-before w m (h ▷ e) lt = by (ltb (moment_of e) m) lt (body_made-before w m h)
  where
    by : (b : Bool) → w.place < size (cond b (h ▷ e) (before m h)) → (w.place < size (before m h) → body_made w (before m h) ≡ body_made w h)
        → body_made w (cond b (h ▷ e) (before m h)) ≡ body_made w (h ▷ e)
    by true less rest = refl
    by false less rest =
        let room = before-size m h in
        rest less ∙ sym (cond-false (eqb (size h) w.place) (body_in (change_of w.side w.id e)) (body_made w h) (ne_eqb (size h) w.place (λ same. omega arith)))

-- a job by its id and place
abbrev job_made : List ℕ → ℕ → Making
job_made id place = record { side = Job; id = id; place = place }

one_or_none : {A : Type 0} (d : Bool) (r : A) (xs : List A) → xs ≡ cond d (r ∷ []) [] → (xs ≡ []) ⊎ ((d ≡ true) × (xs ≡ r ∷ []))
one_or_none true r xs is = inr (refl, is)
one_or_none false r xs is = inl is

module _ (terms : Side → List ℕ → Terms) where
  standing-body : (side : Side) (h : History) (id : List ℕ) (s : Standing) → standing_after terms side h id ≡ Some s → body_made (making_of side id s) h ≡ s.body
  standing-body side Start id s after = absurd cc
  standing-body side (h ▷ e) id s after =
      let w = making_of side id s in
      elim (came terms side id (size h) (standing_after terms side h id) e s after) [
        | Kept u old ↦
            let lt = place-lt terms side h id s old in
            cond-false (eqb (size h) s.place) (body_in (change_of side id e)) (body_made w h) (ne_eqb (size h) s.place (λ same. omega arith))
            ∙ standing-body side h id s old
        | New u p c a b ↦
            cond-true (eqb (size h) s.place) (body_in (change_of side id e)) (body_made w h) (eq-eqb (size h) s.place (sym p)) ∙ ap body_in b
        | Changed was u old p b c ↦
            let lt = place-lt terms side h id was old in
            cond-false (eqb (size h) s.place) (body_in (change_of side id e)) (body_made w h) (ne_eqb (size h) s.place (λ same. omega arith))
            ∙ (ap (λ k. body_made (record { side = side; id = id; place = k }) h) p ∙ (standing-body side h id was old ∙ sym b))
      ]

  -- whenever a making stands, it has the body that it was made with
  body-before : (h : History) (id : List ℕ) (m : ℕ) (s : Standing) → standing_after terms Job (before m h) id ≡ Some s → s.body ≡ body_made (making_of Job id s) h
  body-before h id m s after =
      sym (standing-body Job (before m h) id s after) ∙ body_made-before (making_of Job id s) m h (place-lt terms Job (before m h) id s after)

  -- ---- one report

  part_results-of : (h : History) (w : Making) (t : Terms) (object metric first : ℕ)
      → part_results object metric (part_of terms h w t first)
      ≡ map (λ r. measured_value terms h w object (record { number = metric; reduce = r }) first t.granularity) (reductions object metric t)
  part_results-of h w t object metric first =
      let V : ℕ → Metric → Option ℕ = λ o m. measured_value terms h w o m first t.granularity in
      flat_map-of (group_results object metric) (group_of terms h w first t.granularity) (measured_reductions object metric)
      (λ r. V object (record { number = metric; reduce = r })) t.measured
      (λ g. flat_map-of (row_results object metric (map (λ (m : Metric). m.number) g.metrics)) (row_of terms h w first t.granularity g.metrics) (object_reductions object metric g.metrics)
      (λ r. V object (record { number = metric; reduce = r })) g.objects
      (λ o. row_results-of object metric V (row_of terms h w first t.granularity g.metrics o).suspect g.metrics o))

  value_in-part_of : (h : History) (w : Making) (t : Terms) (object metric first : ℕ) → reductions object metric t ≡ Sum ∷ []
      → value_in object metric (part_of terms h w t first) ≡ sum (counted_values terms h w object metric first t.granularity)
  value_in-part_of h w t object metric first once =
      let V : Reduce → Option ℕ = λ r. measured_value terms h w object (record { number = metric; reduce = r }) first t.granularity in
      let U : Option ℕ → ℕ = λ r. unwrap_or r 0 in
      let results : part_results object metric (part_of terms h w t first) ≡ V Sum ∷ [] = part_results-of h w t object metric first ∙ ap (map V) once in
      let single : sum_by U (V Sum ∷ []) ≡ sum_by U [] + U (V Sum) = sum_by_push U [] (V Sum) in
      let value : U (V Sum) ≡ sum (counted_values terms h w object metric first t.granularity) = by (some_counted terms h w first t.granularity) refl in
      omega (arith, ap (sum_by U) results, single, value)
    where
      by : (b : Bool) → some_counted terms h w first t.granularity ≡ b
          → unwrap_or (cond (some_counted terms h w first t.granularity) (Some (sum (counted_values terms h w object metric first t.granularity))) None) 0
          ≡ sum (counted_values terms h w object metric first t.granularity)
      by true is = ap (λ c. unwrap_or (cond c (Some (sum (counted_values terms h w object metric first t.granularity))) None) 0) is
      by false is = ap (λ c. unwrap_or (cond c (Some (sum (counted_values terms h w object metric first t.granularity))) None) 0) is
          ∙ sym (counted_sum-none terms h w object metric first t.granularity is)

  sum_by-parts_of : (h : History) (w : Making) (t : Terms) (object metric first n : ℕ) → reductions object metric t ≡ Sum ∷ []
      → sum_by (value_in object metric) (parts_of terms h w t first n) ≡ sum (counted_values terms h w object metric first (n * t.granularity))
  sum_by-parts_of h w t object metric first zero once =
      let none = zero-mul t.granularity in
      sym (ap (λ k. sum (counted_values terms h w object metric first k)) none ∙ counted_sum-empty terms h w object metric first)
  sum_by-parts_of h w t object metric first (suc n) once =
      let g = t.granularity in
      let push = sum_by_push (value_in object metric) (parts_of terms h w t first n) (part_of terms h w t (first + n * g)) in
      let this = value_in-part_of h w t object metric (first + n * g) once in
      let rest = sum_by-parts_of h w t object metric first n once in
      let add = counted_sum-add terms h w object metric first (n * g) g in
      let product = ap (λ k. sum (counted_values terms h w object metric first k)) (suc-mul n g) in
      omega (arith, push, this, rest, add, product)

  -- ---- the files of a making

  file_if-cases : (h : History) (id : List ℕ) (place end : ℕ) (o : Option Standing)
      → ((s : Standing) → o ≡ Some s → s.place ≡ place → s.body ≡ body_made (job_made id place) h)
      → (file_if terms h (job_made id place) end o ≡ [])
      ⊎ ((is_due terms h (job_made id place) (terms Job (body_made (job_made id place) h)) end ≡ true)
      × (file_if terms h (job_made id place) end o ≡ report_of terms h (job_made id place) (terms Job (body_made (job_made id place) h)) end ∷ []))
  file_if-cases h id place end None body = inl refl
  file_if-cases h id place end (Some s) body = by (eqb s.place place) refl
    where
      by : (b : Bool) → eqb s.place place ≡ b
          → (cond b (file_of terms h id end (Some s)) [] ≡ [])
          ⊎ ((is_due terms h (job_made id place) (terms Job (body_made (job_made id place) h)) end ≡ true)
          × (cond b (file_of terms h id end (Some s)) [] ≡ report_of terms h (job_made id place) (terms Job (body_made (job_made id place) h)) end ∷ []))
      by false is = inl refl
      by true is =
          let p = eqb-true s.place place is in
          let b = body s refl p in
          let whole : file_of terms h id end (Some s)
          ≡ cond (is_due terms h (job_made id place) (terms Job (body_made (job_made id place) h)) end) (report_of terms h (job_made id place) (terms Job (body_made (job_made id place) h)) end ∷ []) [] =
          λ i. cond (is_due terms h (job_made id (p i)) (terms Job (b i)) end) (report_of terms h (job_made id (p i)) (terms Job (b i)) end ∷ []) [] in
          one_or_none _ _ _ whole

  -- at an end there is no file of the making, or the one that is due
  file_by-cases : (h : History) (id : List ℕ) (place end : ℕ)
      → (file_by terms h (job_made id place) end ≡ [])
      ⊎ ((is_due terms h (job_made id place) (terms Job (body_made (job_made id place) h)) end ≡ true)
      × (file_by terms h (job_made id place) end ≡ report_of terms h (job_made id place) (terms Job (body_made (job_made id place) h)) end ∷ []))
  file_by-cases h id place end =
      file_if-cases h id place end (standing_after terms Job (before (60 * end) h) id)
      (λ s is same. body-before h id (60 * end) s is ∙ ap (λ k. body_made (job_made id k) h) same)

  -- what is due says of its end: it is a multiple of the reporting period, and not within the first
  due_end : (h : History) (w : Making) (t : Terms) (end : ℕ) → is_due terms h w t end ≡ true → (reporting t ≤ end) × (end ≡ end / reporting t * reporting t)
  due_end h w t end due =
      let r = reporting t in
      let two = and_parts (leb r end && eqb (end % r) 0) _ due in
      let parts = and_parts (leb r end) (eqb (end % r) 0) two.0 in
      let le = leb-true r end parts.0 in
      let rest : end % r ≡ 0 = eqb-true _ _ parts.1 in
      let whole = div-add-mod' end r in
      (omega arith, omega arith)

  within_end : (h : History) (w : Making) (t : Terms) (n tick : ℕ) → list_any (lies_in tick) (report_of terms h w t n ∷ []) ≡ true → tick < n
  within_end h w t n tick holds =
      let begin = n - reporting t in
      elim (or_cases (is_within begin (n - begin) tick) false holds) [
        | inl in_it ↦ let at = is_within-true begin (n - begin) tick in_it in omega (arith, at.1, at.0)
        | inr fails ↦ absurd (false≢true fails)
      ]

  -- a tick that the files up to n cover ends at least one reporting period before each later end
  covered_before : (h : History) (id : List ℕ) (place n tick q : ℕ)
      → list_any (lies_in tick) (behind (file_by terms h (job_made id place)) 0 n) ≡ true
      → n < q * reporting (terms Job (body_made (job_made id place) h))
      → tick + reporting (terms Job (body_made (job_made id place) h)) < q * reporting (terms Job (body_made (job_made id place) h))
  covered_before h id place zero tick q holds lt = absurd (false≢true holds)
  covered_before h id place (suc n) tick q holds lt =
      let w = job_made id place in
      let t = terms Job (body_made w h) in
      let r = reporting t in
      let old = behind (file_by terms h w) 0 n in
      let end = suc (0 + n) in
      let new = file_by terms h w end in
      let split : (list_any (lies_in tick) old || list_any (lies_in tick) new) ≡ true = sym (list_any-append (lies_in tick) old new) ∙ holds in
      elim (or_cases (list_any (lies_in tick) old) (list_any (lies_in tick) new) split) [
        | inl before_it ↦ covered_before h id place n tick q before_it (omega arith)
        | inr now ↦
            elim (file_by-cases h id place end) [
              | inl none ↦ absurd (false≢true (sym (ap (list_any (lies_in tick)) none) ∙ now))
              | inr due ↦
                  let c = end / r in
                  let last = due_end h w t end due.0 in
                  let at = last.1 in
                  let inside = within_end h w t end tick (sym (ap (list_any (lies_in tick)) due.1) ∙ now) in
                  elim (cases_lt c q) [
                    | inl less ↦
                        let step : suc c ≤ q = omega arith in
                        let next = mul-le-mul_right r step in
                        let product = suc-mul c r in
                        omega (arith, at, inside, next, product)
                    | inr more ↦ let back = mul-le-mul_right r more in absurd (omega (arith, at, back, lt))
                  ]
            ]
      ]

  -- ---- the law

  false-or : (x : Bool) → (x || false) ≡ x
  false-or true = refl
  false-or false = refl

  pub conserved : (h : History) (id : List ℕ) (place object metric : ℕ) → reductions object metric (terms Job (body_made (job_made id place) h)) ≡ Sum ∷ [] → (n : ℕ)
      → sum_by (sum_in object metric) (behind (file_by terms h (job_made id place)) 0 n)
      ≡ sum (values_where object metric (λ tick. list_any (lies_in tick) (behind (file_by terms h (job_made id place)) 0 n) && is_counted terms h (job_made id place) tick) h)
  conserved h id place object metric once zero =
      sym (ap sum (values_where-none object metric (λ tick. false && is_counted terms h (job_made id place) tick) h (λ tick. refl)))
  conserved h id place object metric once (suc n) =
      let w = job_made id place in
      let t = terms Job (body_made w h) in
      let r = reporting t in
      let old = behind (file_by terms h w) 0 n in
      let end = suc (0 + n) in
      let new = file_by terms h w end in
      let counted : ℕ → Bool = λ tick. is_counted terms h w tick in
      let p : ℕ → Bool = λ tick. list_any (lies_in tick) old && counted tick in
      let all : ℕ → Bool = λ tick. list_any (lies_in tick) (old ++ new) && counted tick in
      let rest : sum_by (sum_in object metric) old ≡ sum (values_where object metric p h) = conserved h id place object metric once n in
      elim (file_by-cases h id place end) [
        | inl none ↦
            let same : old ++ new ≡ old = ap (λ fs. old ++ fs) none ∙ append-nil old in
            ap (sum_by (sum_in object metric)) same
            ∙ (rest ∙ ap sum (values_where-same object metric p all h (λ tick. ap (λ fs. list_any (lies_in tick) fs && counted tick) (sym same))))
        | inr due ↦
            let last = due_end h w t end due.0 in
            let c = end / r in
            let begin = end - r in
            let report = report_of terms h w t end in
            let q : ℕ → Bool = λ tick. is_within begin r tick && counted tick in
            let push : sum_by (sum_in object metric) (old ++ new) ≡ sum_by (sum_in object metric) old + sum_in object metric report =
            ap (λ fs. sum_by (sum_in object metric) (old ++ fs)) due.1 ∙ sum_by_push (sum_in object metric) old report in
            let value : sum_in object metric report ≡ sum (values_where object metric q h) = sum_by-parts_of h w t object metric begin t.parts once in
            let length_is : end - begin ≡ r = omega (arith, last.0) in
            let lies : (tick : ℕ) → list_any (lies_in tick) new ≡ is_within begin r tick =
            λ tick. ap (list_any (lies_in tick)) due.1 ∙ (false-or (lies_in tick report) ∙ (λ i. is_within begin (length_is i) tick)) in
            let either : (tick : ℕ) → all tick ≡ (p tick || q tick) =
            λ tick. ap (λ b. b && counted tick) (list_any-append (lies_in tick) old new ∙ ap (λ b. list_any (lies_in tick) old || b) (lies tick))
            ∙ or_and (list_any (lies_in tick) old) (is_within begin r tick) (counted tick) in
            let apart : (tick : ℕ) → p tick ≡ true → q tick ≡ false =
            λ tick holds.
            let at = last.1 in
            let lt : n < c * r = omega (arith, at) in
            let earlier = covered_before h id place n tick c (and_parts (list_any (lies_in tick) old) (counted tick) holds).0 lt in
            and_left (is_within begin r tick) (counted tick) (and_left (leb begin tick) (ltb tick (begin + r)) (lt-leb begin tick (omega (arith, at, earlier)))) in
            let total = values_where-split object metric p q all h either apart in
            omega (arith, push, value, total, rest)
      ]
