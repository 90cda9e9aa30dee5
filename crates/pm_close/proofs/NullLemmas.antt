-- Parts of nulls: of periods in which no tick is counted.
use Rattle.std.proofs.Common.{◌≡◌, ℕ, zero, suc, ◌+◌, ◌-◌, ◌*◌, ◌/◌, ◌%◌, ◌<◌, ◌≤◌, true, false, not, List, [], ◌∷◌, ◌++◌, length, slice_index_or, None, sym, ap, subst, ◌∙◌, arith, inl, inr, suc-mul}
use Rattle.std.proofs.lemmas.Bool.{cases_lt, and_right}
use Rattle.std.proofs.lemmas.Nat.{mul-le, div-add-mod'}
use Rattle.std.proofs.lemmas.List.{get_or_append_left, get_or_push, length-append}
use Rattle.std.proofs.Math.Nat.{mul_assoc, mul-add-mod_self_right, mod-lt}
use Rattle.pm_history.specs.declared.entry.Side.{Side}
use Rattle.pm_history.specs.History.{History}
use Rattle.pm_history.specs.Terms.{Terms, reporting}
use Rattle.pm_history.specs.Standing.{Making}
use Rattle.pm_history.specs.Counted.{is_counted, all_counted}
use Rattle.pm_history.specs.Value.{measured_value}
use Rattle.pm_close.specs.declared.part.PartValues.{PartValues}
use Rattle.pm_close.specs.declared.report.OpenReport.{OpenReport}
use Rattle.pm_close.specs.Marks.{MarksStand}
use Rattle.pm_close.specs.Parts.{Quantity, quantities_of, IsNull, AreNull, IsPart}
use Rattle.pm_close.specs.Reports.{ReportStands}
use Rattle.pm_close.proofs.EndLemmas.{map-const}
use Rattle.pm_close.proofs.MergeLemmas.{measured_none}
use Rattle.pm_close.proofs.GapLemmas.{some_counted-none}

pub AreNull-more : (values : ℕ) (parts : List PartValues) (part : PartValues) → IsNull values part → AreNull values parts
    → AreNull values (parts ++ part ∷ [])
AreNull-more values parts part is each k d lt =
    let long = length-append parts (part ∷ []) in
    elim (cases_lt k (length parts)) [
      | inl below ↦ subst (IsNull values) (sym (get_or_append_left parts (part ∷ []) d k below)) (each k d below)
      | inr past ↦
          let at : length parts ≡ k = omega (arith, long, lt, past) in
          subst (IsNull values) (sym (get_or_push parts part d k at)) is
    ]

-- the rest within a period of a longer one that it divides
pub rest-of-rest : (x p g : ℕ) → (x % (p * g)) % g ≡ x % g
rest-of-rest x p g =
    let whole = div-add-mod' x (p * g) in
    let grouped : x / (p * g) * (p * g) ≡ x / (p * g) * p * g = sym (mul_assoc (x / (p * g)) p g) in
    let parted : x / (p * g) * p * g + x % (p * g) ≡ x = omega (arith, whole, grouped) in
    sym (mul-add-mod_self_right (x / (p * g) * p) g (x % (p * g))) ∙ ap (λ y. y % g) parted

module _ (terms : Side → List ℕ → Terms) (h : History) (w : Making) where
  none-suspect : (first n : ℕ) → 0 < n → ((t : ℕ) → first ≤ t → t < first + n → is_counted terms h w t ≡ false)
      → not (all_counted terms h w first n) ≡ true
  none-suspect first zero some none = absurd (omega arith)
  none-suspect first (suc n) some none =
      ap not (and_right (all_counted terms h w first n) (is_counted terms h w (first + n))
      (none (first + n) (omega arith) (omega arith)))

  pub null-part : (quantities : List Quantity) (first n : ℕ) (part : PartValues) → 0 < n
      → ((t : ℕ) → first ≤ t → t < first + n → is_counted terms h w t ≡ false)
      → IsNull (length quantities) part → IsPart terms h w quantities first n part
  null-part quantities first n part some none is = record {
    values =
        is.nulls
        ∙ sym (map-const (λ (q : Quantity). measured_value terms h w q.object q.metric first n) None quantities
        (λ q. measured_none terms h w q.object q.metric first n (some_counted-none terms h w first n none)));
    suspect = is.suspect ∙ sym (none-suspect first n some none);
  }

  -- a report of which no tick is counted yet
  pub unmarked-report : (t : Terms) (tick finished : ℕ) (report : OpenReport) → 0 < t.granularity → 0 < t.parts
      → report.begin ≡ tick - tick % reporting t → report.earlier ≡ 0 → report.counted ≡ false
      → finished ≡ tick % reporting t / t.granularity → length report.parts.items ≡ finished
      → AreNull (length (quantities_of t.measured)) report.parts.items
      → report.marks.begin ≡ tick - tick % t.granularity
      → (((u : ℕ) → report.marks.begin ≤ u → u < tick → is_counted terms h w u ≡ false)
      → MarksStand terms h w t.granularity tick report.marks)
      → ((u : ℕ) → report.begin ≤ u → u < tick → is_counted terms h w u ≡ false)
      → ReportStands terms h w t tick [] report
  unmarked-report t tick finished report some_ticks some_parts begin_is earlier_is counted_is finished_is long nulls marks_begin
      marks none =
      let g = t.granularity in
      let r = reporting t in
      let wide : 0 < r = let whole = suc-mul (t.parts - 1) g in let parts : suc (t.parts - 1) ≡ t.parts = omega arith in let
      product = ap (λ n. n * g) parts in omega (arith, whole, product, some_ticks) in
      let turns = div-add-mod' tick r in
      let within = mod-lt tick wide in
      let pieces = div-add-mod' (tick % r) g in
      let rest = rest-of-rest tick t.parts g in
      let finished_ticks : finished * g ≡ tick % r / g * g = ap (λ n. n * g) finished_is in
      let at : report.marks.begin ≡ report.begin + finished * g = omega
      (arith, begin_is, marks_begin, turns, pieces, rest, finished_ticks) in
      let length_ticks : length report.parts.items * g ≡ finished * g = ap (λ n. n * g) long in
      let later : report.begin ≤ report.marks.begin = omega (arith, at) in
      let reach : report.marks.begin ≤ tick = omega (arith, marks_begin) in
      record {
        reports = tick / r;
        begins = omega (arith, begin_is, turns);
        earlier_are = earlier_is;
        marks = marks (λ u from to. none u (omega (arith, from, later)) to);
        at = omega (arith, at, length_ticks);
        unfinished =
            elim (cases_lt finished t.parts) [
              | inl less ↦ omega (arith, less, long)
              | inr more ↦
                  let all = mul-le t.parts g finished g more (omega arith) in
                  absurd (omega (arith, all, finished_ticks, pieces, within))
            ];
        parts = λ k d lt.
            let one_more = suc-mul k g in
            let inside = mul-le (suc k) g finished g (omega (arith, lt, long)) (omega arith) in
            null-part (quantities_of t.measured) (report.begin + k * g) g (slice_index_or report.parts.items k d) some_ticks
            (λ u from to. none u (omega (arith, from)) (omega (arith, to, one_more, inside, at, reach)))
            (nulls k d lt);
        counted =
            counted_is
            ∙ sym (some_counted-none terms h w report.begin (length report.parts.items * g)
            (λ u from to. none u from (omega (arith, to, length_ticks, at, reach))));
      }
