use Rattle.std.proofs.Common.{◌≡◌, ℕ, suc, false, refl, Option, Some, None, IsSome, MatchOption, inl, inr, sym, ap, ◌∙◌, ◌≤◌, ◌<◌, ◌+◌, ◌*◌, ◌-◌, ◌/◌, ◌%◌, arith, suc-mul}
use Rattle.std.proofs.lemmas.Nat.{mul-le}
use Rattle.std.proofs.Math.Nat.{le-div_iff_mul-le, mod-eq-sub-div-mul}
use Rattle.std.proofs.lemmas.Bool.{cases_lt}
use Rattle.pm_close.specs.declared.marks.Marks.{Marks}
use Rattle.pm_close.specs.Marks.{mark_at, IsMarked, NoneMarkedBefore}
use Rattle.pm_close.proofs.marks.Marks.end_uncounted.Goals as goal

-- a multiple that ends before a number is at most the last multiple before it
last-multiple : (periods granularity tick : ℕ) → 0 < granularity → periods * granularity + granularity ≤ tick
    → periods * granularity + granularity ≤ tick - tick % granularity
last-multiple periods granularity tick some le =
    let multiple = suc-mul periods granularity in
    let few : suc periods ≤ tick / granularity = (le-div_iff_mul-le some).1 (omega (arith, multiple, le)) in
    let product = mul-le (suc periods) granularity (tick / granularity) granularity few (omega arith) in
    let rest = mod-eq-sub-div-mul tick granularity in
    omega (arith, multiple, product, rest, le)

-- one more tick that isn't marked
unmarked-next : (first : ℕ) (old new : Marks) (period : Option Marks) → MatchOption period (IsMarked old false new) (IsMarked old false)
    → (IsSome period → new.count ≡ 0) → NoneMarkedBefore first old → NoneMarkedBefore first new
unmarked-next first old new None marked next before k lt less =
    let count = marked.count in
    let begin = marked.begin in
    elim (cases_lt k old.count) [
      | inl earlier ↦ marked.others k earlier ∙ before k earlier (omega (arith, less, begin))
      | inr later ↦ let at : old.count ≡ k = omega (arith, later, lt, count) in ap (mark_at new) (sym at) ∙ marked.last
    ]
unmarked-next first old new (Some period) marked next before k lt less =
    let none = next refl in
    absurd (omega (arith, none, lt))

pub returns-then-self-granularity-clause-stands : goal.returns-then-self-granularity-clause-stands
returns-then-self-granularity-clause-stands c =
    λ terms h w from stand none.
    let reach = stand.reach in
    let begins = stand.begins in
    let within = stand.within in
    let begin = c.unmarked.ensures.begin in
    let past = last-multiple stand.periods c.args.granularity c.args.tick (omega (arith, within))
    (omega (arith, begins, c.if-self-granularity.true)) in
    c.unmarked.ensures.stands terms h w (λ t later before. none t (omega (
      arith,
      later,
      begin,
      past,
      begins,
      reach,
      within,
    )) before)

pub loop-t-preserved : goal.loop-t-preserved
loop-t-preserved c =
    let was = c.loop-t.invariant in
    let reach = was.reach in
    let within = was.within in
    let before = was.from in
    record {
      reach = c.end_tick.ensures.on ∙ ap (λ n. n + 1) reach;
      within = c.end_tick.ensures.within;
      from = omega (arith, before);
      unmarked = λ first before.
          unmarked-next first (c.loop-t.self) c.end_tick.new.self c.end_tick.result c.end_tick.ensures.marks
          (λ some. (c.end_tick.ensures.next some).1) (was.unmarked first before);
      stand = λ terms h w from stand none.
          let first = stand.reach in
          c.end_tick.ensures.stands terms h w c.loop-t._t (was.stand terms h w from stand none)
          (sym (none c.loop-t._t (omega (arith, first, before)) (omega (arith, c.loop-t-test.true))));
    }
