-- A report that a history has, and that is made of the values of parts, is whole.
use Rattle.std.proofs.Common.{◌≡◌, ℕ, zero, suc, ◌+◌, ◌-◌, ◌*◌, ◌/◌, ◌%◌, ◌<◌, ◌≤◌, ◌&&◌, Bool, true, false, List, [], ◌∷◌, length, map, take, drop, Option, Some, None, Contains, refl, sym, ap, subst, ◌∙◌, arith, eqb, leb, cond, length-append, le_of_eq, le_of_mul-le-mul_right}
use Rattle.std.specs.List.{flat_map, AllByRecursion}
use Rattle.std.proofs.lemmas.Bool.{eqb-true, leb-true}
use Rattle.std.proofs.lemmas.List.{length-map, length-drop}
use Rattle.pm_base.specs.Moment.{IsMoment, tick_of}
use Rattle.pm_history.specs.declared.entry.Side.{Side}
use Rattle.pm_history.specs.declared.entry.Side.TheVariants.{Job}
use Rattle.pm_history.specs.declared.metric.Metric.{Metric}
use Rattle.pm_history.specs.History.{History, IsHistory, last_moment, before}
use Rattle.pm_history.specs.Terms.{Terms, Measured, reporting}
use Rattle.pm_history.specs.Ticks.{behind}
use Rattle.pm_history.specs.Standing.{Making, Standing, making_of, standing_after, ids_after}
use Rattle.pm_history.specs.Counted.{some_counted}
use Rattle.pm_history.specs.Files.{Row, Group, Part, Report, group_of, part_of, parts_of, report_of, is_due, file_of, file_at, files_at, files_of}
use Rattle.pm_history.proofs.DistinctLemmas.{each-append}
use Rattle.pm_history.proofs.RangeLemmas.{ends-in_range}
use Rattle.pm_inventory.specs.Inventory.{InventoryState}
use Rattle.pm_asked.specs.Asked.{terms_of, measured_asked}
use Rattle.pm_jobs.specs.declared.standing.Standing as jobs
use Rattle.pm_jobs.specs.Numbered.{numbered}
use Rattle.pm_jobs.specs.Stands.{Keeps}
use Rattle.pm_close.specs.declared.part.PartValues.{PartValues}
use Rattle.pm_close.specs.Parts.{Quantity, quantities_on, quantities_in, quantities_of}
use Rattle.pm_close.specs.Files.{rows_with, group_with, groups_with, parts_with, report_with}
use Rattle.pm_ready.specs.Due.{job_report}
use Rattle.pm_ready.specs.Whole.{HaveValues, IsWhole}
use Rattle.pm_ready.proofs.BoolLemmas.{both}
use Rattle.pm_ready.proofs.DueLemmas.{begins}
use Rattle.pm_ready.proofs.PermittedLemmas.{reports, some-parts}
use Rattle.pm_ready.proofs.ShapeLemmas.{asks-same, kept-period, kept-reporting, some-ticks, whole-parts, multiple}
use Rattle.pm_ready.proofs.StepLemmas.{each_at}

-- ---- the values of rows and groups

-- what is taken of a list is as long as wanted where the list is
long : (n : ℕ) (values : List (Option ℕ)) → length (take n values) ≡ n → n ≤ length values
long zero values e = omega arith
long (suc n) [] e = absurd (omega (arith, e))
long (suc n) (v ∷ vs) e = let more = long n vs (omega (arith, e)) in omega (arith, more)

parted_at : {A : Type 0} (x y : A) (xs ys : List A) → x ∷ xs ≡ y ∷ ys → (x ≡ y) × (xs ≡ ys)
parted_at x y xs ys e = (cc, cc)

rows-long : (ms ns : List Metric) (suspect : Bool) (os : List ℕ) (values : List (Option ℕ)) (f : ℕ → Metric → Option ℕ) (g : ℕ → Bool) (ps : List ℕ)
    → length ms ≡ length ns
    → rows_with ms suspect os values ≡ map (λ o. let row : Row = record { object = o; results = map (f o) ns; suspect = g o } in row) ps
    → length (flat_map (quantities_on ms) os) ≤ length values
rows-long ms ns suspect [] values f g ps same is = omega arith
rows-long ms ns suspect (o ∷ os) values f g [] same is = absurd cc
rows-long ms ns suspect (o ∷ os) values f g (p ∷ ps) same is =
    let parted = parted_at _ _ _ _ is in
    let row : take (length ms) values ≡ map (f p) ns = ap (λ (r : Row). r.results) parted.0 in
    let rest = parted.1 in
    let own = long (length ms) values (ap length row ∙ length-map ns (f p) ∙ sym same) in
    let more = rows-long ms ns suspect os (drop (length ms) values) f g ps same rest in
    let left = length-drop (length ms) values in
    let count = length-append (quantities_on ms o) (flat_map (quantities_on ms) os) in
    let one = length-map ms (λ (m : Metric). let q : Quantity = record { object = o; metric = m } in q) in
    omega (arith, own, more, left, count, one)

module _ (terms : Side → List ℕ → Terms) (h : History) (w : Making) where
  groups-long : (ms ns : List Measured) (suspect : Bool) (values : List (Option ℕ)) (first n : ℕ)
      → groups_with ms suspect values ≡ map (group_of terms h w first n) ns → length (quantities_of ms) ≤ length values
  groups-long [] ns suspect values first n is = omega arith
  groups-long (m ∷ ms) [] suspect values first n is = absurd cc
  groups-long (m ∷ ms) (k ∷ ks) suspect values first n is =
      let parted = parted_at (group_with m suspect values) (group_of terms h w first n k) _ _ is in
      let head = parted.0 in
      let rest = parted.1 in
      let numbers : map (λ (x : Metric). x.number) m.metrics ≡ map (λ (x : Metric). x.number) k.metrics = ap (λ (g : Group). g.metrics) head in
      let same : length m.metrics ≡ length k.metrics = sym (length-map m.metrics (λ (x : Metric). x.number)) ∙ ap length numbers ∙ length-map k.metrics (λ (x : Metric). x.number) in
      let rows = rows-long m.metrics k.metrics suspect m.objects values _ _ k.objects same (ap (λ (g : Group). g.rows) head) in
      let more = groups-long ms ks suspect (drop (length (quantities_in m)) values) first n rest in
      let left = length-drop (length (quantities_in m)) values in
      let count = length-append (quantities_in m) (quantities_of ms) in
      omega (arith, rows, more, left, count)

  -- ---- parts

  -- what a part of a history's report says of its length and its groups
  record IsPartOf (t : Terms) (p : Part) : Type 0 where
    first : ℕ
    length : p.end ≡ p.begin + t.granularity
    groups : p.groups ≡ map (group_of terms h w first t.granularity) t.measured

  parts-of : (t : Terms) (first n : ℕ) → AllByRecursion (IsPartOf t) (parts_of terms h w t first n)
  parts-of t first zero = tt
  parts-of t first (suc n) =
      each-append (IsPartOf t) (parts_of terms h w t first n) (part_of terms h w t (first + n * t.granularity) ∷ []) (parts-of t first n)
      (record { first = first + n * t.granularity; length = refl; groups = refl }, tt)

  parts-many : (t : Terms) (first n : ℕ) → length (parts_of terms h w t first n) ≡ n
  parts-many t first zero = refl
  parts-many t first (suc n) =
      let more = parts-many t first n in
      let both_are = length-append (parts_of terms h w t first n) (part_of terms h w t (first + n * t.granularity) ∷ []) in
      omega (arith, more, both_are)

  with-many : (t : Terms) (first : ℕ) (parts : List PartValues) → length (parts_with t first parts) ≡ length parts
  with-many t first [] = refl
  with-many t first (p ∷ ps) = ap suc (with-many t (first + t.granularity) ps)

  parts-long : (t u : Terms) (first : ℕ) (parts : List PartValues) → AllByRecursion (IsPartOf u) (parts_with t first parts) → HaveValues t parts
  parts-long t u first [] all = tt
  parts-long t u first (p ∷ ps) all =
      (groups-long t.measured u.measured p.suspect p.values.items all.0.first u.granularity all.0.groups, parts-long t u (first + t.granularity) ps all.1)

  same-granularity : (t u : Terms) (first : ℕ) (parts : List PartValues) → 0 < length parts → AllByRecursion (IsPartOf u) (parts_with t first parts)
      → t.granularity ≡ u.granularity
  same-granularity t u first [] lt all = absurd (omega arith)
  same-granularity t u first (p ∷ ps) lt all = let is = all.0.length in omega (arith, is)

  -- ---- a report that is one of a job at an end

  whole-of : (t u : Terms) (job : List ℕ) (begin end : ℕ) (parts : List PartValues) → 0 < t.granularity → 0 < reporting t
      → report_with job t begin parts ≡ report_of terms h w u end → is_due terms h w u end ≡ true → IsMoment (60 * (begin + reporting t)) → IsWhole t begin parts
  whole-of t u job begin end parts some_ticks some_time same due moment =
      let front = both (leb (reporting u) end && eqb (end % reporting u) 0) (some_counted terms h w (end - reporting u) (reporting u)) due in
      let within = leb-true (reporting u) end (both (leb (reporting u) end) (eqb (end % reporting u) 0) front.0).0 in
      let at = eqb-true (end % reporting u) 0 (both (leb (reporting u) end) (eqb (end % reporting u) 0) front.0).1 in
      let begins_at : begin ≡ end - reporting u = ap (λ (r : Report). r.begin) same in
      let ends_at : begin + reporting t ≡ end = ap (λ (r : Report). r.end) same in
      let period : reporting t ≡ reporting u = omega (arith, begins_at, ends_at, within) in
      let all : parts_with t begin parts ≡ parts_of terms h w u (end - reporting u) u.parts = ap (λ (r : Report). r.parts) same in
      let many : length parts ≡ u.parts = sym (with-many t begin parts) ∙ ap length all ∙ parts-many u (end - reporting u) u.parts in
      let each = subst (AllByRecursion (IsPartOf u)) (sym all) (parts-of u (end - reporting u) u.parts) in
      let some = some-parts u.parts u.granularity (omega (arith, period, some_time)) in
      let ticks = same-granularity t u begin parts (omega (arith, some, many)) each in
      let product : t.parts * t.granularity ≡ u.parts * t.granularity = period ∙ ap (λ g. u.parts * g) (sym ticks) in
      let few : t.parts ≤ u.parts = le_of_mul-le-mul_right (le_of_eq product) some_ticks in
      let enough : u.parts ≤ t.parts = le_of_mul-le-mul_right (le_of_eq (sym product)) some_ticks in
      record {
        many = omega (arith, many, few, enough);
        values = parts-long t u begin parts each;
        aligned = ap (λ n. begin % n) period ∙ begins begin end (reporting u) (omega (arith, ends_at, period)) at;
        end = omega (arith, moment);
      }

-- ---- the reports of a history

-- a report is that of some job at some end
record IsFile (terms : Side → List ℕ → Terms) (h : History) (r : Report) : Type 0 where
  id : List ℕ
  s : Standing
  end : ℕ
  is : r ≡ report_of terms h (making_of Job id s) (terms Job s.body) end
  due : is_due terms h (making_of Job id s) (terms Job s.body) end ≡ true

module _ (terms : Side → List ℕ → Terms) (h : History) where
  file-is : (id : List ℕ) (end : ℕ) (o : Option Standing) → AllByRecursion (IsFile terms h) (file_of terms h id end o)
  file-is id end None = tt
  file-is id end (Some s) = by (is_due terms h (making_of Job id s) (terms Job s.body) end) refl
    where
      by : (b : Bool) → is_due terms h (making_of Job id s) (terms Job s.body) end ≡ b
          → AllByRecursion (IsFile terms h) (cond b (report_of terms h (making_of Job id s) (terms Job s.body) end ∷ []) [])
      by true due = (record { id = id; s = s; end = end; is = refl; due = due }, tt)
      by false due = tt

  among-is : (end : ℕ) (ids : List (List ℕ)) → AllByRecursion (IsFile terms h) (flat_map (file_at terms h end) ids)
  among-is end [] = tt
  among-is end (id ∷ ids) =
      each-append (IsFile terms h) (file_at terms h end id) (flat_map (file_at terms h end) ids)
      (file-is id end (standing_after terms Job (before (60 * end) h) id)) (among-is end ids)

  behind-is : (n : ℕ) → AllByRecursion (IsFile terms h) (behind (files_at terms h) 0 n)
  behind-is zero = tt
  behind-is (suc n) =
      each-append (IsFile terms h) (behind (files_at terms h) 0 n) (files_at terms h (suc (0 + n))) (behind-is n)
      (among-is (suc (0 + n)) (ids_after Job (before (60 * suc (0 + n)) h)))

  files-are : AllByRecursion (IsFile terms h) (files_of terms h)
  files-are = behind-is (tick_of (last_moment h))

pub file-whole : (inventory : InventoryState) (job : jobs.Standing) (begin : ℕ) (parts : List PartValues) (h : History) → IsHistory h → Keeps inventory Job job
    → Contains (files_of (terms_of inventory) h) (job_report inventory job begin parts) → IsWhole (terms_of inventory Job job.body) begin parts
file-whole inventory job begin parts h is keeps has =
    let terms = terms_of inventory in
    let t = terms Job job.body in
    let r = job_report inventory job begin parts in
    let found = subst (IsFile terms h) has.2 (each_at (IsFile terms h) (files_of terms h) has.0 r (files-are terms h) has.1) in
    let moment = subst (λ (f : Report). IsMoment (60 * f.end)) has.2 (each_at (λ (f : Report). IsMoment (60 * f.end)) (files_of terms h) has.0 r (ends-in_range terms h is) has.1) in
    let period = kept-period inventory job keeps in
    let minutes = kept-reporting inventory job keeps in
    let u : Terms = record {
      granularity = job.granularity / 60;
      parts = job.reporting / (job.granularity / 60);
      unlocked = false;
      measured = measured_asked inventory (numbered inventory job.metrics.items) job.objects.items;
      watched = [];
    } in
    let same = asks-same inventory job keeps u refl refl refl in
    let some = some-ticks job.granularity period in
    let ticks : 0 < t.granularity = subst (λ n. 0 < n) same.granularity some in
    let whole_is = whole-parts job.granularity job.reporting period (multiple job.granularity job.reporting minutes) in
    let time : job.reporting ≡ reporting t = sym whole_is ∙ (λ i. same.parts i * same.granularity i) in
    let some_time : 0 < reporting t = subst (λ n. 0 < n) time (reports job.granularity job.reporting minutes).some in
    whole-of terms h (making_of Job found.id found.s) t (terms Job found.s.body) job.id begin found.end parts ticks some_time found.is found.due moment
