-- The report that is due, by what it is made of.
use Rattle.std.proofs.Common.{◌≡◌, ℕ, ◌+◌, ◌-◌, ◌*◌, ◌%◌, ◌≤◌, ◌&&◌, true, List, ◌++◌, length, sym, ap, ◌∙◌, arith, eqb, leb, mul-one, subst, get_or}
use Rattle.std.proofs.Math.Nat.{mul-add-mod_self_left}
use Rattle.std.proofs.lemmas.Bool.{eqb-true}
use Rattle.std.proofs.lemmas.List.{length-map}
use Rattle.pm_base.specs.Moment.{IsMoment}
use Rattle.pm_history.specs.declared.entry.Side.{Side}
use Rattle.pm_history.specs.History.{History}
use Rattle.std.specs.List.{AllByRecursion}
use Rattle.pm_history.specs.Terms.{Terms, Measured, reporting}
use Rattle.pm_history.specs.Standing.{Making}
use Rattle.pm_history.specs.Counted.{some_counted}
use Rattle.pm_history.specs.Value.{measured_value}
use Rattle.pm_history.specs.Files.{is_due}
use Rattle.pm_close.specs.declared.part.PartValues.{PartValues}
use Rattle.pm_close.specs.declared.report.Due.{Due}
use Rattle.pm_close.specs.Parts.{Quantity, quantities_of}
use Rattle.pm_close.specs.Reports.{DueStands}
use Rattle.pm_close.specs.Files.{report_with}
use Rattle.pm_ready.specs.Shape.{AskSame}
use Rattle.pm_ready.specs.Whole.{HasValues, IsWhole}
use Rattle.pm_ready.proofs.BoolLemmas.{both}
use Rattle.pm_ready.proofs.StepLemmas.{each-from, parts-same}

-- a period begins at a multiple of its length where it ends at one
pub begins : (begin end r : ℕ) → begin + r ≡ end → end % r ≡ 0 → begin % r ≡ 0
begins begin end r is multiple =
    let one = mul-one r in
    let same : r * 1 + begin ≡ end = omega (arith, one, is) in
    sym (mul-add-mod_self_left r 1 begin) ∙ ap (λ n. n % r) same ∙ multiple

pub report-same : (id : List ℕ) (t u : Terms) (begin : ℕ) (parts : List PartValues) → AskSame t u → report_with id t begin parts ≡ report_with id u begin parts
report-same id t u begin parts same =
    let all = parts-same t u begin parts same.granularity same.measured in
    λ i. record { job = id; begin = begin; end = begin + same.parts i * same.granularity i; parts = all i }

-- what two that ask for the same reports have whole, both have
pub whole-same : (t u : Terms) (begin : ℕ) (parts : List PartValues) → AskSame u t → IsWhole t begin parts → IsWhole u begin parts
whole-same t u begin parts same whole =
    let period : reporting t ≡ reporting u = λ i. sym same.parts i * sym same.granularity i in
    record {
      many = whole.many ∙ sym same.parts;
      values = subst (λ (ms : List Measured). AllByRecursion (λ (part : PartValues). length (quantities_of ms) ≤ length part.values.items) parts) (sym same.measured) whole.values;
      aligned = subst (λ n. begin % n ≡ 0) period whole.aligned;
      end = subst (λ n. begin + n ≤ 4223371679) period whole.end;
    }

module _ (terms : Side → List ℕ → Terms) (h : History) (w : Making) (t : Terms) (end : ℕ) (earlier : List PartValues) (due : Due) where
  -- what is due is whole
  pub whole : DueStands terms h w t end earlier due → due.counted ≡ true → IsMoment (60 * end) → IsWhole t due.begin (earlier ++ due.parts.items)
  whole stand counted moment =
      let parts = earlier ++ due.parts.items in
      let is : is_due terms h w t end ≡ true = sym stand.counted ∙ counted in
      let front = both (leb (reporting t) end && eqb (end % reporting t) 0) (some_counted terms h w (end - reporting t) (reporting t)) is in
      let multiple = eqb-true (end % reporting t) 0 (both (leb (reporting t) end) (eqb (end % reporting t) 0) front.0).1 in
      let ends = stand.ends in
      record {
        many = stand.whole;
        values = each-from (HasValues t) parts (λ k d lt.
            let count : length (get_or parts k d).values.items ≡ length (quantities_of t.measured) =
            ap length (stand.parts k d lt).values
            ∙ length-map (quantities_of t.measured) (λ (q : Quantity). measured_value terms h w q.object q.metric (due.begin + k * t.granularity) t.granularity) in
            omega (arith, count));
        aligned = begins due.begin end (reporting t) ends multiple;
        end = omega (arith, ends, moment);
      }
