-- The report of a definition from the values of its parts.
use Rattle.std.proofs.Common.{◌≡◌, ℕ, zero, suc, ◌+◌, ◌-◌, ◌*◌, Bool, cond, List, [], ◌∷◌, ◌++◌, length, map, take, drop, slice_index_or, Option, Some, refl, sym, ap, subst, ◌∙◌, arith, suc-mul, append_assoc}
use Rattle.std.specs.List.{flat_map}
use Rattle.std.proofs.lemmas.List.{length-map, map-append}
use Rattle.std.proofs.Math.Seq.{take-append_seam, drop-append_seam}
use Rattle.pm_history.specs.declared.entry.Side.{Side}
use Rattle.pm_history.specs.declared.entry.Side.TheVariants.{Job}
use Rattle.pm_history.specs.declared.metric.Metric.{Metric}
use Rattle.pm_history.specs.History.{History}
use Rattle.pm_history.specs.Terms.{Terms, Measured, reporting}
use Rattle.pm_history.specs.Standing.{Making, Standing, making_of}
use Rattle.pm_history.specs.Value.{measured_value, is_suspect}
use Rattle.pm_history.specs.Files.{Row, group_of, part_of, parts_of, report_of, file_of}
use Rattle.pm_close.specs.declared.part.PartValues.{PartValues}
use Rattle.pm_close.specs.declared.report.Due.{Due}
use Rattle.pm_close.specs.Parts.{Quantity, quantities_on, quantities_in, quantities_of, IsPart, values_over}
use Rattle.pm_close.specs.Reports.{AreParts, DueStands}
use Rattle.pm_close.specs.Files.{rows_with, groups_with, part_with, parts_with, report_with}

map-map : {A B C : Type 0} (g : B → C) (f : A → B) (xs : List A) → map g (map f xs) ≡ map (λ x. g (f x)) xs
map-map g f [] = refl
map-map g f (x ∷ xs) = ap (λ ys. g (f x) ∷ ys) (map-map g f xs)

take-first : {A B : Type 0} (f : A → B) (xs : List A) (rest : List B) → take (length xs) (map f xs ++ rest) ≡ map f xs
take-first f xs rest = ap (λ n. take n (map f xs ++ rest)) (sym (length-map xs f)) ∙ take-append_seam (map f xs) rest

drop-first : {A B : Type 0} (f : A → B) (xs : List A) (rest : List B) → drop (length xs) (map f xs ++ rest) ≡ rest
drop-first f xs rest = ap (λ n. drop n (map f xs ++ rest)) (sym (length-map xs f)) ∙ drop-append_seam (map f xs) rest

-- the rows of objects from the values of their quantities
rows-are : (value : Quantity → Option ℕ) (metrics : List Metric) (suspect : Bool) (objects : List ℕ) (rest : List (Option ℕ))
    → rows_with metrics suspect objects (map value (flat_map (quantities_on metrics) objects) ++ rest)
    ≡ map (λ o. let row : Row = record
    { object = o; results = map (λ (m : Metric). value (record { object = o; metric = m })) metrics; suspect = suspect } in
    row) objects
rows-are value metrics suspect [] rest = refl
rows-are value metrics suspect (o ∷ os) rest =
    let of : Metric → Option ℕ = λ (m : Metric). value (record { object = o; metric = m }) in
    let more : List (Option ℕ) = map value (flat_map (quantities_on metrics) os) in
    let parted : map value (quantities_on metrics o ++ flat_map (quantities_on metrics) os) ++ rest ≡ map of metrics ++
    (more ++ rest) =
    ap (λ vs. vs ++ rest) (map-append value (quantities_on metrics o) (flat_map (quantities_on metrics) os)
    ∙ ap (λ vs. vs ++ more) (map-map value (λ (m : Metric). let q : Quantity = record { object = o; metric = m } in q) metrics))
    ∙ append_assoc (map of metrics) more rest in
    let taken = ap (take (length metrics)) parted ∙ take-first of metrics (more ++ rest) in
    let left = ap (drop (length metrics)) parted ∙ drop-first of metrics (more ++ rest) in
    let others = ap (rows_with metrics suspect os) left ∙ rows-are value metrics suspect os rest in
    λ i. record { object = o; results = taken i; suspect = suspect } ∷ others i

module _ (terms : Side → List ℕ → Terms) (h : History) (w : Making) where
  groups-are : (first n : ℕ) (suspect : Bool) (measured : List Measured) → suspect ≡ is_suspect terms h w first n
      → groups_with measured suspect (values_over terms h w (quantities_of measured) first n) ≡ map (group_of terms h w first n)
      measured
  groups-are first n suspect [] same = refl
  groups-are first n suspect (m ∷ ms) same =
      let value : Quantity → Option ℕ = λ (q : Quantity). measured_value terms h w q.object q.metric first n in
      let rest : List (Option ℕ) = map value (quantities_of ms) in
      let parted = map-append value (quantities_in m) (quantities_of ms) in
      let rows = ap (rows_with m.metrics suspect m.objects) parted
      ∙ (rows-are value m.metrics suspect m.objects rest
      ∙ (λ i. map (λ o. let row : Row = record
      { object = o; results = map (λ (k : Metric). value (record { object = o; metric = k })) m.metrics; suspect = same i }
      in row) m.objects)) in
      let left = ap (drop (length (quantities_in m))) parted ∙ drop-first value (quantities_in m) rest in
      let others = ap (groups_with ms suspect) left ∙ groups-are first n suspect ms same in
      λ i. record { class = m.class; metrics = map (λ (k : Metric). k.number) m.metrics; rows = rows i } ∷ others i

  part-is : (t : Terms) (first : ℕ) (part : PartValues) → IsPart terms h w (quantities_of t.measured) first t.granularity part
      → part_with t first part ≡ part_of terms h w t first
  part-is t first part is =
      let groups = ap (groups_with t.measured part.suspect) is.values
      ∙ groups-are first t.granularity part.suspect t.measured is.suspect in
      λ i. record { begin = first; end = first + t.granularity; groups = groups i }

  -- the first of more parts
  parts-first : (t : Terms) (first n : ℕ)
      → parts_of terms h w t first (suc n) ≡ part_of terms h w t first ∷ parts_of terms h w t (first + t.granularity) n
  parts-first t first zero =
      let at : first + zero * t.granularity ≡ first = omega arith in
      ap (λ f. part_of terms h w t f ∷ []) at
  parts-first t first (suc n) =
      let product = suc-mul n t.granularity in
      let at : first + suc n * t.granularity ≡ first + t.granularity + n * t.granularity = omega (arith, product) in
      let rest = parts-first t first n in
      λ i. rest i ++ part_of terms h w t (at i) ∷ []

  parts-are : (t : Terms) (first : ℕ) (parts : List PartValues) → AreParts terms h w t first parts
      → parts_with t first parts ≡ parts_of terms h w t first (length parts)
  parts-are t first [] each = refl
  parts-are t first (p ∷ ps) each =
      let at : first + zero * t.granularity ≡ first = omega arith in
      let this = part-is t first p (subst (λ f. IsPart terms h w (quantities_of t.measured) f t.granularity p) at
      (each zero p (omega arith))) in
      let rest = parts-are t (first + t.granularity) ps (λ k d lt.
      let product = suc-mul k t.granularity in
      let next : first + suc k * t.granularity ≡ first + t.granularity + k * t.granularity = omega (arith, product) in
      subst (λ f. IsPart terms h w (quantities_of t.measured) f t.granularity (slice_index_or ps k d)) next
      (each (suc k) d (omega arith))) in
      (λ i. this i ∷ rest i) ∙ sym (parts-first t first (length ps))

-- what is due is the file of the definition
pub due-is-file : (terms : Side → List ℕ → Terms) (h : History) (id : List ℕ) (s : Standing) (end : ℕ)
    (earlier : List PartValues) (due : Due)
    → DueStands terms h (making_of Job id s) (terms Job s.body) end earlier due
    → file_of terms h id end (Some s) ≡ cond due.counted
    (report_with id (terms Job s.body) due.begin (earlier ++ due.parts.items) ∷ []) []
due-is-file terms h id s end earlier due stand =
    let w = making_of Job id s in
    let t = terms Job s.body in
    let ends = stand.ends in
    let begin : due.begin ≡ end - reporting t = omega (arith, ends) in
    let parts : parts_with t due.begin (earlier ++ due.parts.items) ≡ parts_of terms h w t (end - reporting t) t.parts =
    parts-are terms h w t due.begin (earlier ++ due.parts.items) stand.parts
    ∙ (λ i. parts_of terms h w t (begin i) (stand.whole i)) in
    let report : report_with id t due.begin (earlier ++ due.parts.items) ≡ report_of terms h w t end =
    λ i. record { job = id; begin = begin i; end = ends i; parts = parts i } in
    λ i. cond (sym stand.counted i) (sym report i ∷ []) []
