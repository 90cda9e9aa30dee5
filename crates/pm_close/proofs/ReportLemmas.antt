-- The open report of a job as granularity periods end, and the report where its last one does.
use Rattle.std.proofs.Common.{◌≡◌, ◌≢◌, ℕ, zero, suc, ◌+◌, ◌-◌, ◌*◌, ◌%◌, ◌<◌, Bool, true, false, ◌&&◌, ◌||◌, leb, eqb, List, [], ◌∷◌, ◌++◌, length, refl, sym, ap, subst, ◌∙◌, arith, inl, inr, suc-mul, append_assoc, le-leb}
use Rattle.std.proofs.lemmas.Bool.{cases_lt, ne_eqb, eq-eqb, and_left, and_right}
use Rattle.std.proofs.lemmas.Nat.{mul-add-lt}
use Rattle.std.proofs.lemmas.List.{get_or_append_left, get_or_push, length-append, append-nil}
use Rattle.std.proofs.Math.Bool.{or_assoc}
use Rattle.std.proofs.Math.Nat.{mul_comm, mul-mod_left, mul-add-mod_self_right, mod-eq_of_lt}
use Rattle.pm_history.specs.declared.entry.Side.{Side}
use Rattle.pm_history.specs.History.{History}
use Rattle.pm_history.specs.Terms.{Terms, reporting}
use Rattle.pm_history.specs.Standing.{Making}
use Rattle.pm_history.specs.Counted.{is_counted, some_counted}
use Rattle.pm_history.specs.Files.{is_due}
use Rattle.pm_history.proofs.TickLemmas.{or_false}
use Rattle.pm_close.specs.declared.marks.Marks.{Marks}
use Rattle.pm_close.specs.declared.part.PartValues.{PartValues}
use Rattle.pm_close.specs.declared.report.OpenReport.{OpenReport}
use Rattle.pm_close.specs.Marks.{MarksStand}
use Rattle.pm_close.specs.Parts.{quantities_of, IsPart}
use Rattle.pm_close.specs.Reports.{AreParts, ReportStands, ReportReaches}

module _ (terms : Side → List ℕ → Terms) (h : History) (w : Making) where
  -- some tick of two adjoining periods is counted
  pub some_counted-add : (first a b : ℕ)
      → some_counted terms h w first (a + b) ≡ (some_counted terms h w first a || some_counted terms h w (first + a) b)
  some_counted-add first a zero =
      let same : a + zero ≡ a = omega arith in
      ap (some_counted terms h w first) same ∙ sym (or_false (some_counted terms h w first a) false refl)
  some_counted-add first a (suc b) =
      let next : a + suc b ≡ suc (a + b) = omega arith in
      let at : first + (a + b) ≡ first + a + b = omega arith in
      let rest = some_counted-add first a b in
      ap (some_counted terms h w first) next
      ∙ ((λ i. rest i || is_counted terms h w (at i))
      ∙ or_assoc (some_counted terms h w first a) (some_counted terms h w (first + a) b) (is_counted terms h w (first + a + b)))

  AreParts-more : (t : Terms) (begin : ℕ) (parts : List PartValues) (part : PartValues)
      → IsPart terms h w (quantities_of t.measured) (begin + length parts * t.granularity) t.granularity part
      → AreParts terms h w t begin parts → AreParts terms h w t begin (parts ++ part ∷ [])
  AreParts-more t begin parts part is each k d lt =
      let long = length-append parts (part ∷ []) in
      let Is : ℕ → PartValues → Type 0 = λ j p. IsPart terms h w (quantities_of t.measured)
      (begin + j * t.granularity) t.granularity p in
      elim (cases_lt k (length parts)) [
        | inl below ↦ subst (Is k) (sym (get_or_append_left parts (part ∷ []) d k below)) (each k d below)
        | inr past ↦
            let at : length parts ≡ k = omega (arith, long, lt, past) in
            subst (Is k) (sym (get_or_push parts part d k at)) (subst (λ j. Is j part) at is)
      ]

  -- a part that ended is added
  pub reaches-part : (t : Terms) (tick : ℕ) (earlier : List PartValues) (old new : OpenReport) (period : Marks)
      (part : PartValues) (some : Bool)
      → period.begin ≡ old.marks.begin → new.marks.begin ≡ old.marks.begin + t.granularity → new.marks.count ≡ 0
      → new.begin ≡ old.begin → new.earlier ≡ old.earlier
      → new.parts.items ≡ old.parts.items ++ part ∷ [] → new.counted ≡ (old.counted || some)
      → MarksStand terms h w t.granularity (tick + 1) new.marks
      → IsPart terms h w (quantities_of t.measured) period.begin t.granularity part
      → some ≡ some_counted terms h w period.begin t.granularity
      → ReportStands terms h w t tick earlier old → ReportReaches terms h w t (tick + 1) earlier new
  reaches-part t tick earlier old new period part some period_is marks_begin none begin_is earlier_is parts_are counted_is marks
      is some_is stand =
      let before : List PartValues = earlier ++ old.parts.items in
      let all : earlier ++ new.parts.items ≡ before ++ part ∷ [] = ap (λ ps. earlier ++ ps) parts_are
      ∙ sym (append_assoc earlier old.parts.items (part ∷ [])) in
      let long : length (earlier ++ new.parts.items) ≡ suc (length before) = ap length all
      ∙ (length-append before (part ∷ []) ∙ omega arith) in
      let product = suc-mul (length before) t.granularity in
      let at = stand.at in
      let first : period.begin ≡ old.begin + length before * t.granularity = period_is ∙ at in
      let reach = stand.marks.reach in
      let unfinished = stand.unfinished in
      let ends : length (earlier ++ new.parts.items) * t.granularity ≡ length before * t.granularity + t.granularity =
      ap (λ n. n * t.granularity) long ∙ omega (arith, product) in
      record {
        reports = stand.reports;
        begins = begin_is ∙ stand.begins;
        earlier_are = earlier_is ∙ stand.earlier_are;
        begun = omega (arith, begin_is, at, reach);
        marks = marks;
        at = omega (arith, marks_begin, at, begin_is, ends);
        no_more = omega (arith, long, unfinished);
        full = λ whole. none;
        parts =
            subst (λ b. AreParts terms h w t b (earlier ++ new.parts.items)) (sym begin_is)
            (subst (AreParts terms h w t old.begin) (sym all)
            (AreParts-more t old.begin before part
            (subst (λ b. IsPart terms h w (quantities_of t.measured) b t.granularity part) first is) stand.parts));
        counted =
            counted_is
            ∙ ((λ i. stand.counted i || (some_is ∙ ap (λ b. some_counted terms h w b t.granularity) first) i)
            ∙ (sym (some_counted-add old.begin (length before * t.granularity) t.granularity)
            ∙ (λ i. some_counted terms h w (sym begin_is i) (sym ends i))));
      }

  -- no report ends where a part of the period is still missing
  pub not-due : (t : Terms) (tick : ℕ) (earlier : List PartValues) (report : OpenReport)
      → length (earlier ++ report.parts.items) < t.parts → ReportReaches terms h w t tick earlier report
      → is_due terms h w t tick ≡ false
  not-due t tick earlier report missing reaches =
      let n = length (earlier ++ report.parts.items) in
      let r = reporting t in
      let x = n * t.granularity + report.marks.count in
      let begins = reaches.begins in
      let begun = reaches.begun in
      let at = reaches.at in
      let reach = reaches.marks.reach in
      let digits : x < t.granularity * t.parts = mul-add-lt n t.granularity report.marks.count t.parts missing
      reaches.marks.within in
      let turned = mul_comm t.granularity t.parts in
      let less : x < r = omega (arith, digits, turned) in
      let tick_is : tick ≡ reaches.reports * r + x = omega (arith, begins, at, reach) in
      let rest : tick % r ≡ x = ap (λ k. k % r) tick_is ∙ (mul-add-mod_self_right reaches.reports r x ∙ mod-eq_of_lt less) in
      let other : tick % r ≢ 0 = λ none. omega (arith, rest, none, begun, at, reach) in
      and_left (leb r tick && eqb (tick % r) 0) _ (and_right (leb r tick) _ (ne_eqb (tick % r) 0 other))

  -- a report ends with its last part
  pub report-due : (t : Terms) (tick : ℕ) (earlier : List PartValues) (report : OpenReport)
      → length (earlier ++ report.parts.items) ≡ t.parts → ReportReaches terms h w t tick earlier report
      → (report.begin + reporting t ≡ tick) × (report.counted ≡ is_due terms h w t tick)
  report-due t tick earlier report whole reaches =
      let r = reporting t in
      let begins = reaches.begins in
      let at = reaches.at in
      let reach = reaches.marks.reach in
      let none = reaches.full whole in
      let product = ap (λ n. n * t.granularity) whole in
      let ends : report.begin + r ≡ tick = omega (arith, at, reach, none, product) in
      let multiple = suc-mul reaches.reports r in
      let tick_is : tick ≡ suc reaches.reports * r = omega (arith, ends, begins, multiple) in
      let rest : tick % r ≡ 0 = ap (λ k. k % r) tick_is ∙ mul-mod_left (suc reaches.reports) r in
      let room : leb r tick ≡ true = le-leb r tick (omega (arith, ends)) in
      let zero_rest : eqb (tick % r) 0 ≡ true = eq-eqb (tick % r) 0 rest in
      let back : report.begin ≡ tick - r = omega (arith, ends) in (
        ends,
        reaches.counted
            ∙ ((λ i. some_counted terms h w (back i) (product i))
            ∙ (λ i. sym room i && sym zero_rest i && some_counted terms h w (tick - r) r)),
      )

  -- where a report doesn't end, it stands
  pub reaches-stands : (t : Terms) (tick : ℕ) (earlier : List PartValues) (report : OpenReport)
      → length (earlier ++ report.parts.items) < t.parts → ReportReaches terms h w t tick earlier report
      → ReportStands terms h w t tick earlier report
  reaches-stands t tick earlier report missing reaches = record {
    reports = reaches.reports;
    begins = reaches.begins;
    earlier_are = reaches.earlier_are;
    marks = reaches.marks;
    at = reaches.at;
    unfinished = missing;
    parts = reaches.parts;
    counted = reaches.counted;
  }

  -- the next one begins without parts
  pub next-stands : (t : Terms) (tick : ℕ) (earlier : List PartValues) (old new : OpenReport)
      → length (earlier ++ old.parts.items) ≡ t.parts
      → new.begin ≡ old.marks.begin → new.earlier ≡ 0 → new.parts.items ≡ [] → new.counted ≡ false → new.marks ≡ old.marks
      → ReportReaches terms h w t tick earlier old → ReportStands terms h w t tick [] new
  next-stands t tick earlier old new whole begin_is earlier_is parts_are counted_is marks_are reaches =
      let begins = reaches.begins in
      let begun = reaches.begun in
      let at = reaches.at in
      let reach = reaches.marks.reach in
      let none = reaches.full whole in
      let product = ap (λ n. n * t.granularity) whole in
      let multiple = suc-mul reaches.reports (reporting t) in
      let no_parts : length new.parts.items ≡ 0 = ap length parts_are in
      let no_ticks : length new.parts.items * t.granularity ≡ 0 = ap (λ n. n * t.granularity) no_parts ∙ omega arith in
      let marks_begin : new.marks.begin ≡ old.marks.begin = ap (λ (m : Marks). m.begin) marks_are in
      record {
        reports = suc reaches.reports;
        begins = omega (arith, begin_is, begins, at, product, multiple);
        earlier_are = earlier_is;
        marks = subst (MarksStand terms h w t.granularity tick) (sym marks_are) reaches.marks;
        at = omega (arith, marks_begin, at, product, begin_is, no_ticks);
        unfinished =
            elim (cases_lt 0 t.parts) [
              | inl some ↦ omega (arith, no_parts, some)
              | inr little ↦
                  let empty : t.parts ≡ 0 = omega arith in
                  let nothing : t.parts * t.granularity ≡ 0 = ap (λ n. n * t.granularity) empty ∙ omega arith in
                  absurd (omega (arith, begun, at, reach, none, product, nothing))
            ];
        parts = λ k d lt. absurd (omega (arith, lt, no_parts));
        counted = counted_is ∙ ap (some_counted terms h w new.begin) (sym no_ticks);
      }

  -- a plan goes on where what is kept stands
  pub planned-stands : (t : Terms) (tick : ℕ) (old new : OpenReport)
      → new.begin ≡ old.begin → new.earlier ≡ length old.parts.items → new.parts.items ≡ [] → new.counted ≡ old.counted
      → new.marks ≡ old.marks
      → ReportStands terms h w t tick [] old → ReportStands terms h w t tick old.parts.items new
  planned-stands t tick old new begin_is earlier_is parts_are counted_is marks_are stand =
      let kept : List PartValues = old.parts.items in
      let all : kept ++ new.parts.items ≡ kept = ap (λ ps. kept ++ ps) parts_are ∙ append-nil kept in
      let long = ap length all in
      let ticks : length (kept ++ new.parts.items) * t.granularity ≡ length kept * t.granularity = ap (λ n. n * t.granularity)
      long in
      let at = stand.at in
      let unfinished = stand.unfinished in
      let marks_begin : new.marks.begin ≡ old.marks.begin = ap (λ (m : Marks). m.begin) marks_are in
      record {
        reports = stand.reports;
        begins = begin_is ∙ stand.begins;
        earlier_are = earlier_is;
        marks = subst (MarksStand terms h w t.granularity tick) (sym marks_are) stand.marks;
        at = omega (arith, marks_begin, at, begin_is, ticks);
        unfinished = omega (arith, unfinished, long);
        parts =
            subst (λ b. AreParts terms h w t b (kept ++ new.parts.items)) (sym begin_is)
            (subst (AreParts terms h w t old.begin) (sym all) stand.parts);
        counted = counted_is ∙ (stand.counted ∙ (λ i. some_counted terms h w (sym begin_is i) (sym ticks i)));
      }
