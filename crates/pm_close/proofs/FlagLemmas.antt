-- Value sequences as granularity periods end, and what a watch answers of them.
use Rattle.std.proofs.Common.{◌≡◌, ℕ, suc, ◌+◌, ◌-◌, ◌*◌, ◌%◌, ◌≤◌, Bool, true, false, ◌&&◌, not, cond, leb, eqb}
use Rattle.std.proofs.Common.{List, [], ◌∷◌, ◌++◌, length, Option, Some, None, option_to_list, refl, sym, ap, subst, ◌∙◌, arith, suc-mul, le-leb}
use Rattle.std.proofs.lemmas.Bool.{eq-eqb, and_parts, and_from}
use Rattle.std.proofs.lemmas.List.{append-nil, length-append}
use Rattle.std.proofs.Math.Nat.{mul-mod_left}
use Rattle.std.specs.Option.{option_map}
use Rattle.pm_base.specs.Moment.{tick_of}
use Rattle.pm_history.specs.declared.entry.Side.{Side}
use Rattle.pm_history.specs.declared.metric.Metric.{Metric}
use Rattle.pm_history.specs.History.{History}
use Rattle.pm_history.specs.Terms.{Terms, Watched}
use Rattle.pm_history.specs.Ticks.{behind}
use Rattle.pm_history.specs.Standing.{Making}
use Rattle.pm_history.specs.Value.{measured_value, is_suspect}
use Rattle.pm_history.specs.Crossing.{CrossesUp, CrossesDown}
use Rattle.pm_history.specs.Crossed.{crosses_up, crosses_down, crossing_in}
use Rattle.pm_history.specs.Notices.{crossed, crossed_last, value_at, value_sequence, crossing_at}
use Rattle.pm_history.proofs.CrossedLemmas.{crosses_up-is, crosses_down-is}
use Rattle.pm_thresh.specs.declared.direction.Direction.{Direction}
use Rattle.pm_thresh.specs.declared.watch.Watch.{Watch}
use Rattle.pm_thresh.specs.Watch.{IsCrossing, StandsAfter, with_value}
use Rattle.pm_close.specs.declared.marks.Marks.{Marks}
use Rattle.pm_close.specs.Marks.{PeriodStands}
use Rattle.pm_close.specs.Flags.{WatchStands, taken, is_upward, crossing_told}

-- the answer of a relation is that of the tests
pub crossing-answered : (high low : ℕ) (up down : Bool) (values : List ℕ) (place : ℕ) (answer : Option Direction)
    → IsCrossing high low up down values place answer → option_map is_upward answer ≡ crossing_in high low up down values place
crossing-answered high low up down values place answer is =
    by (up && crosses_up high low values place) refl (down && crosses_down high low values place) refl
  where
    by : (b : Bool) → (up && crosses_up high low values place) ≡ b → (c : Bool) → (down && crosses_down high low values place) ≡ c
        → option_map is_upward answer ≡ cond (up && crosses_up high low values place) (Some true)
        (cond (down && crosses_down high low values place) (Some false) None)
    by true is_up c is_down =
        let parts = and_parts up (crosses_up high low values place) is_up in
        let told = is.upward.1 (parts.0, (crosses_up-is high low values place).0 parts.1) in
        rw is_up (ap (option_map is_upward) told)
    by false is_up true is_down =
        let parts = and_parts down (crosses_down high low values place) is_down in
        let told = is.downward.1 (parts.0, (crosses_down-is high low values place).0 parts.1) in
        rw (is_up, is_down) (ap (option_map is_upward) told)
    by false is_up false is_down =
        let no_up : (up ≡ true) × CrossesUp high low values place → ⊥ = λ crosses.
        let both = and_from up (crosses_up high low values place) crosses.0 ((crosses_up-is high low values place).1 crosses.1) in
        let wrong : true ≡ false = sym both ∙ is_up in absurd cc in
        let no_down : (down ≡ true) × CrossesDown high low values place → ⊥ = λ crosses.
        let both = and_from down (crosses_down high low values place) crosses.0 ((crosses_down-is high low values place).1 crosses.1) in
        let wrong : true ≡ false = sym both ∙ is_down in absurd cc in
        let told = is.none.1 (no_up, no_down) in
        rw (is_up, is_down) (ap (option_map is_upward) told)

module _ (terms : Side → List ℕ → Terms) (h : History) (w : Making) (granularity object : ℕ) where
  -- one more tick of a sequence
  pub sequence-more : (m : Metric) (armed tick : ℕ) → tick_of armed ≤ tick
      → value_sequence terms h w granularity object m armed (tick + 1)
      ≡ value_sequence terms h w granularity object m armed tick ++ value_at terms h w granularity object m (tick + 1)
  sequence-more m armed tick later =
      let more : tick + 1 - tick_of armed ≡ suc (tick - tick_of armed) = omega arith in
      let at : suc (tick_of armed + (tick - tick_of armed)) ≡ tick + 1 = omega arith in
      ap (behind (value_at terms h w granularity object m) (tick_of armed)) more
      ∙ ap (λ t. value_sequence terms h w granularity object m armed tick ++ value_at terms h w granularity object m t) at

  -- what a sequence takes of a period that ends
  pub value_at-period : (m : Metric) (end : ℕ) (period : Marks) → PeriodStands terms h w granularity end period
      → value_at terms h w granularity object m end
      ≡ taken (measured_value terms h w object m period.begin granularity) (is_suspect terms h w period.begin granularity)
  value_at-period m end period stand =
      let ends = stand.ends in
      let begins = stand.begins in
      let multiple = suc-mul stand.periods granularity in
      let begin : period.begin ≡ end - granularity = omega (arith, ends) in
      let end_is : end ≡ suc stand.periods * granularity = omega (arith, ends, begins, multiple) in
      let room : leb granularity end ≡ true = le-leb granularity end (omega (arith, ends)) in
      let rest : eqb (end % granularity) 0 ≡ true =
      eq-eqb (end % granularity) 0 (ap (λ k. k % granularity) end_is ∙ mul-mod_left (suc stand.periods) granularity) in
      (λ i. cond (room i && rest i && not (is_suspect terms h w (sym begin i) granularity))
      (option_to_list (measured_value terms h w object m (sym begin i) granularity)) [])
      ∙ by (is_suspect terms h w period.begin granularity) (option_to_list (measured_value terms h w object m period.begin granularity))
    where
      by : (s : Bool) (vs : List ℕ) → cond (true && true && not s) vs [] ≡ cond s [] vs
      by true vs = refl
      by false vs = refl

  -- a period without a value makes no crossing, and leaves the sequence
  pub crossing-none : (watched : Watched) (armed end : ℕ) → value_at terms h w granularity object watched.metric end ≡ []
      → crossing_at terms h w granularity armed end watched object ≡ []
  crossing-none watched armed end none =
      ap (crossed_last w.id watched object end (value_sequence terms h w granularity object watched.metric armed end)) none

  -- a value makes the crossing at the end of its sequence
  pub crossing-some : (watched : Watched) (armed tick value : ℕ) (answer : Option Direction) → tick_of armed ≤ tick
      → value_at terms h w granularity object watched.metric (tick + 1) ≡ value ∷ []
      → IsCrossing watched.high watched.low watched.up watched.down
      (value_sequence terms h w granularity object watched.metric armed tick ++ value ∷ [])
      (length (value_sequence terms h w granularity object watched.metric armed tick)) answer
      → crossing_at terms h w granularity armed (tick + 1) watched object ≡ crossing_told w.id watched object (tick + 1) (Some value) answer
  crossing-some watched armed tick value answer later some is =
      let before : List ℕ = value_sequence terms h w granularity object watched.metric armed tick in
      let all : value_sequence terms h w granularity object watched.metric armed (tick + 1) ≡ before ++ value ∷ [] =
      sequence-more watched.metric armed tick later ∙ ap (λ vs. before ++ vs) some in
      let long = length-append before (value ∷ []) in
      let last : length (before ++ value ∷ []) - 1 ≡ length before = omega (arith, long) in
      (λ i. crossed_last w.id watched object (tick + 1) (all i) (some i))
      ∙ (ap (λ n. crossed w.id watched object (tick + 1) value
      (crossing_in watched.high watched.low watched.up watched.down (before ++ value ∷ []) n)) last
      ∙ ap (crossed w.id watched object (tick + 1) value)
      (sym (crossing-answered watched.high watched.low watched.up watched.down (before ++ value ∷ []) (length before) answer is)))

  pub watch-none : (watched : Watched) (armed tick : ℕ) (watch : Watch) → tick_of armed ≤ tick
      → value_at terms h w granularity object watched.metric (tick + 1) ≡ []
      → WatchStands terms h w granularity watched object armed tick watch → WatchStands terms h w granularity watched object armed (tick + 1) watch
  watch-none watched armed tick watch later none old =
      let before : List ℕ = value_sequence terms h w granularity object watched.metric armed tick in
      record {
        high = old.high;
        low = old.low;
        up = old.up;
        down = old.down;
        sequence =
            subst (StandsAfter watch)
            (sym (sequence-more watched.metric armed tick later ∙ (ap (λ vs. before ++ vs) none ∙ append-nil before)))
            old.sequence;
      }

  pub watch-some : (watched : Watched) (armed tick value : ℕ) (old new : Watch) → tick_of armed ≤ tick
      → value_at terms h w granularity object watched.metric (tick + 1) ≡ value ∷ []
      → new ≡ with_value old value
      → ((values : List ℕ) → StandsAfter old values → StandsAfter new (values ++ value ∷ []))
      → WatchStands terms h w granularity watched object armed tick old → WatchStands terms h w granularity watched object armed (tick + 1) new
  watch-some watched armed tick value old new later some is steps stand =
      let before : List ℕ = value_sequence terms h w granularity object watched.metric armed tick in
      record {
        high = ap (λ (x : Watch). x.high) is ∙ stand.high;
        low = ap (λ (x : Watch). x.low) is ∙ stand.low;
        up = ap (λ (x : Watch). x.up) is ∙ stand.up;
        down = ap (λ (x : Watch). x.down) is ∙ stand.down;
        sequence =
            subst (StandsAfter new) (sym (sequence-more watched.metric armed tick later ∙ ap (λ vs. before ++ vs) some))
            (steps before stand.sequence);
      }

  pub crossing-watched : (watched : Watched) (armed tick value : ℕ) (old : Watch) (answer : Option Direction) → tick_of armed ≤ tick
      → value_at terms h w granularity object watched.metric (tick + 1) ≡ value ∷ []
      → ((values rest : List ℕ) → StandsAfter old values → IsCrossing old.high old.low old.up old.down (values ++ value ∷ rest) (length values) answer)
      → WatchStands terms h w granularity watched object armed tick old
      → crossing_at terms h w granularity armed (tick + 1) watched object ≡ crossing_told w.id watched object (tick + 1) (Some value) answer
  crossing-watched watched armed tick value old answer later some steps stand =
      let before : List ℕ = value_sequence terms h w granularity object watched.metric armed tick in
      let one = steps before [] stand.sequence in
      let two = subst (λ x. IsCrossing x old.low old.up old.down (before ++ value ∷ []) (length before) answer) stand.high one in
      let three = subst (λ x. IsCrossing watched.high x old.up old.down (before ++ value ∷ []) (length before) answer) stand.low two in
      let four = subst (λ x. IsCrossing watched.high watched.low x old.down (before ++ value ∷ []) (length before) answer) stand.up three in
      crossing-some watched armed tick value answer later some
      (subst (λ x. IsCrossing watched.high watched.low watched.up x (before ++ value ∷ []) (length before) answer) stand.down four)

pub taken-some : (value : Option ℕ) (suspect : Bool) (v : ℕ) → value ≡ Some v → suspect ≡ false → taken value suspect ≡ v ∷ []
taken-some value true v is fine = absurd cc
taken-some value false v is fine = ap option_to_list is

pub taken-suspect : (value : Option ℕ) (suspect : Bool) → suspect ≡ true → taken value suspect ≡ []
taken-suspect value true is = refl
taken-suspect value false is = absurd cc

pub taken-null : (value : Option ℕ) (suspect : Bool) → value ≡ None → taken value suspect ≡ []
taken-null value true is = refl
taken-null value false is = ap option_to_list is
