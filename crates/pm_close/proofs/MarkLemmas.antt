-- Marks as ticks end.
use Rattle.std.proofs.Common.{◌≡◌, ℕ, zero, suc, ◌+◌, ◌-◌, ◌*◌, ◌/◌, ◌%◌, ◌<◌, ◌≤◌, Bool, false, not, ◌&&◌, ltb, List, get_or, replicate, Some, refl, sym, ap, ◌∙◌, arith, inl, inr, suc-mul}
use Rattle.std.proofs.lemmas.Bool.{cases_lt}
use Rattle.std.proofs.Math.Nat.{div-mul-le_self, mod-eq-sub-div-mul, mod-lt}
use Rattle.pm_base.specs.Moment.{tick_of}
use Rattle.pm_history.specs.declared.entry.Side.{Side}
use Rattle.pm_history.specs.declared.entry.Entry.TheVariants.{Now}
use Rattle.pm_history.specs.History.{History, ◌▷◌, last_moment, IsHistory, is_cut}
use Rattle.pm_history.specs.Terms.{Terms}
use Rattle.pm_history.specs.Standing.{Making, Standing, making_of, standing_after}
use Rattle.pm_history.specs.Counted.{is_counted}
use Rattle.pm_history.proofs.StandingLemmas.{is_counted-now}
use Rattle.pm_close.specs.declared.marks.Marks.{Marks}
use Rattle.pm_close.specs.Marks.{mark_at, AreCounted, MarksStand, PeriodStands, IsMarked}

pub none-set : (n k : ℕ) → get_or (replicate n false) k false ≡ false
none-set zero k = refl
none-set (suc n) zero = refl
none-set (suc n) (suc k) = none-set n k

module _ (terms : Side → List ℕ → Terms) (h : History) (w : Making) (granularity tick : ℕ) where
  -- nothing of the open period is counted yet
  pub unmarked-stands : (marks : Marks) → 0 < granularity → marks.begin ≡ tick - tick % granularity
      → marks.count ≡ tick % granularity
      → ((k : ℕ) → mark_at marks k ≡ false)
      → ((t : ℕ) → marks.begin ≤ t → t < tick → is_counted terms h w t ≡ false)
      → MarksStand terms h w granularity tick marks
  unmarked-stands marks some begin_is count_is none uncounted =
      let rest = mod-eq-sub-div-mul tick granularity in
      let le = div-mul-le_self tick granularity in
      record {
        periods = tick / granularity;
        begins = omega (arith, begin_is, rest, le);
        reach = omega (arith, begin_is, count_is, rest, le);
        within = let lt = mod-lt tick some in omega (arith, count_is, lt);
        counted = λ k lt. none k ∙ sym
            (uncounted (marks.begin + k) (omega arith) (omega (arith, begin_is, count_is, rest, le, lt)));
      }

  -- one more mark that says whether its tick is counted
  pub counted-more : (old new : Marks) (mark : Bool) → IsMarked old mark new → old.begin + old.count ≡ tick
      → mark ≡ is_counted terms h w tick
      → AreCounted terms h w old → AreCounted terms h w new
  counted-more old new mark more reach mark_is counted k lt =
      let count = more.count in
      elim (cases_lt k old.count) [
        | inl below ↦ more.others k below ∙ (counted k below ∙ ap (λ b. is_counted terms h w (b + k)) (sym more.begin))
        | inr past ↦
            let last : k ≡ old.count = omega (arith, lt, past, count) in
            let begin = more.begin in
            let at : tick ≡ new.begin + k = omega (arith, reach, last, begin) in
            ap (mark_at new) last ∙ (more.last ∙ (mark_is ∙ ap (is_counted terms h w) at))
      ]

  pub stands-more : (old new : Marks) (mark : Bool) → IsMarked old mark new → new.count < granularity
      → mark ≡ is_counted terms h w tick
      → MarksStand terms h w granularity tick old → MarksStand terms h w granularity (tick + 1) new
  stands-more old new mark more within mark_is stand =
      let reach = stand.reach in
      let count = more.count in
      let begin = more.begin in
      record {
        periods = stand.periods;
        begins = more.begin ∙ stand.begins;
        reach = omega (arith, reach, count, begin);
        within = within;
        counted = counted-more old new mark more reach mark_is stand.counted;
      }

  pub period-more : (old new : Marks) (mark : Bool) → IsMarked old mark new → granularity ≤ new.count
      → mark ≡ is_counted terms h w tick
      → MarksStand terms h w granularity tick old → PeriodStands terms h w granularity (tick + 1) new
  period-more old new mark more full mark_is stand =
      let reach = stand.reach in
      let within = stand.within in
      let count = more.count in
      let begin = more.begin in
      record {
        periods = stand.periods;
        begins = more.begin ∙ stand.begins;
        ends = omega (arith, reach, within, count, begin, full);
        whole = omega (arith, within, count, full);
        counted = counted-more old new mark more reach mark_is stand.counted;
      }

  -- the next period begins where one ends
  pub next-stands : (old period new : Marks) (mark : Bool) → IsMarked old mark period → granularity ≤ period.count
      → new.begin ≡ period.begin + granularity → new.count ≡ 0
      → MarksStand terms h w granularity tick old → MarksStand terms h w granularity (tick + 1) new
  next-stands old period new mark more full begin_is count_is stand =
      let reach = stand.reach in
      let within = stand.within in
      let begins = stand.begins in
      let count = more.count in
      let begin = more.begin in
      let product = suc-mul stand.periods granularity in
      record {
        periods = suc stand.periods;
        begins = omega (arith, begins, begin, begin_is, product);
        reach = omega (arith, reach, within, count, begin, full, begin_is, count_is);
        within = omega (arith, within, count_is);
        counted = λ k lt. absurd (omega (arith, lt, count_is));
      }

-- whether a request counts a tick that it ends
pub counts-now : (terms : Side → List ℕ → Terms) (side : Side) (h : History) (m : ℕ) (id : List ℕ) (s : Standing)
    (cut unlocked answer : Bool) (changed tick : ℕ)
    → IsHistory h → standing_after terms side h id ≡ Some s → s.changed ≡ changed → s.unlocked ≡ unlocked → is_cut h tick ≡ cut
    → tick_of (last_moment h) ≤ tick → tick < tick_of m
    → answer ≡ (not cut && (ltb changed (60 * tick) && unlocked))
    → answer ≡ is_counted terms (h ▷ Now m) (making_of side id s) tick
counts-now terms side h m id s cut unlocked answer changed tick is after changed_is unlocked_is cut_is from to answer_is =
    answer_is
    ∙ ((λ i. not (sym cut_is i) && (ltb (sym changed_is i) (60 * tick) && sym unlocked_is i))
    ∙ sym (is_counted-now terms side h m id s tick is after from to))
