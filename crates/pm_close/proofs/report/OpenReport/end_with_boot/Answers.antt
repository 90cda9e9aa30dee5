use Rattle.std.proofs.Common.{◌≡◌, ◌≤◌, ◌<◌, ◌+◌, ◌-◌, ◌*◌, ◌/◌, ◌%◌, ℕ, false, Option, Some, None, refl, sym, ap, subst, ◌∙◌, arith, inl, inr}
use Rattle.std.proofs.lemmas.Bool.{cases_lt}
use Rattle.std.proofs.lemmas.Nat.{mul-le}
use Rattle.std.proofs.Math.Nat.{le-div_iff_mul-le, mod-eq-sub-div-mul}
use Rattle.pm_history.specs.Terms.{reporting}
use Rattle.pm_history.specs.Files.{is_due}
use Rattle.pm_close.specs.declared.report.Due.{Due}
use Rattle.pm_close.specs.Reports.{ReportStands, NoneDue, EndsTick}
use Rattle.pm_close.proofs.report.OpenReport.end_with_boot.Goals as goal

-- a multiple up to a number is at most the last multiple up to it
multiple-before : (k length tick : ℕ) → 0 < length → k * length ≤ tick → k * length ≤ tick - tick % length
multiple-before k length tick some le =
    let few : k ≤ tick / length = (le-div_iff_mul-le some).1 le in
    let product = mul-le k length (tick / length) length few (omega arith) in
    let rest = mod-eq-sub-div-mul tick length in
    omega (arith, product, rest, le)

none_of : (P : Option Due → Type 0) (due : Option Due) → ((d : Due) → due ≡ Some d → ⊥) → P due → P None
none_of P None apart is = is
none_of P (Some d) apart is = absurd (apart d refl)

pub returns-in-Some-clause-stands : goal.returns-in-Some-clause-stands
returns-in-Some-clause-stands c =
    λ terms slots h w t from earlier knows reads granularity parts stand none.
    let was = c.loop-t.invariant in
    let tick = c.loop-t._t in
    let first = stand.marks.reach in
    let before = was.from in
    let more = c.loop-t-test.true in
    let later : from ≤ tick = omega (arith, first, before) in
    let now = was.stand terms slots h w t from earlier knows reads granularity parts stand none in
    let ended = subst (EndsTick terms h w t (tick + 1) earlier c.end_tick.new.self) c.in-Some.is
    (c.in_ok-due.ensures.stands terms slots h w t tick earlier knows reads granularity parts now.0 (sym (none
    tick later more))) in
    let product : c.args.parts * c.args.granularity ≡ reporting t = λ i. sym parts i * sym granularity i in
    let begins = ended.0.begins in
    let at = ended.2 in
    let unfinished = ended.0.unfinished in
    let within = ended.0.marks.within in
    let some = mul-le 1 1 t.parts t.granularity (omega (arith, unfinished)) (omega (arith, within)) in
    let last = multiple-before ended.0.reports (reporting t) c.args.tick (omega (arith, some)) (omega (
      arith,
      begins,
      at,
      more,
    )) in
    let begin = c.in_ok-self.ensures.begin ∙ ap (λ r. c.args.tick - c.args.tick % r) product in
    record {
      end = tick + 1;
      after = omega (arith, later);
      within = omega (arith, more);
      ended = ended.1;
      next = c.in_ok-self.ensures.stands terms h w t granularity parts (sym reads.as_many)
          (λ u past up. none u (omega (arith, past, begin, last, begins, at, later)) up);
      first = λ e after lt. now.1 e after (omega (arith, lt));
    }

pub loop-t-preserved : goal.loop-t-preserved
loop-t-preserved c =
    let was = c.loop-t.invariant in
    let tick = c.loop-t._t in
    let reach = was.reach in
    let before = was.from in
    let more = c.loop-t-test.true in
    record {
      reach = c.in_ok-due.ensures.on ∙ ap (λ n. n + 1) reach;
      within = c.in_ok-due.ensures.within;
      from = omega (arith, before);
      covered = c.in_ok-due.ensures.covered;
      unfinished = λ few. c.in_ok-due.ensures.unfinished c.requires.some_parts;
      stand = λ terms slots h w t from earlier knows reads granularity parts stand none.
          let first = stand.marks.reach in
          let later : from ≤ tick = omega (arith, first, before) in
          let now = was.stand terms slots h w t from earlier knows reads granularity parts stand none in
          let ended = none_of (EndsTick terms h w t (tick + 1) earlier c.end_tick.new.self) c.in_ok-due.due c.in_default.not-Some
          (c.in_ok-due.ensures.stands terms slots h w t tick earlier knows reads granularity parts now.0
          (sym (none tick later more))) in (
            ended.0,
            λ end after le. elim (cases_lt end (tick + 1)) [
              | inl below ↦ now.1 end after (omega (arith, below))
              | inr past ↦
                  let at : tick + 1 ≡ end = omega (arith, past, le) in
                  subst (λ e. is_due terms h w t e ≡ false) at ended.1
            ],
          );
    }

pub returns-clause-stands : goal.returns-clause-stands
returns-clause-stands c =
    λ terms slots h w t from earlier knows reads granularity parts stand none.
    let start : c.begin.result + c.count.result ≤ c.args.tick = omega (
      arith,
      c.begin.ensures,
      c.count.ensures,
      c.requires.reach,
    ) in
    let up = c.loop-t.auto._t-end start in
    let at : c.loop-t._t ≡ c.args.tick = omega (arith, c.loop-t-test.false, up) in
    subst (λ tick. ReportStands terms h w t tick earlier c.loop-t.self × NoneDue terms h w t from tick) at
    (c.loop-t.invariant.stand terms slots h w t from earlier knows reads granularity parts stand none)
