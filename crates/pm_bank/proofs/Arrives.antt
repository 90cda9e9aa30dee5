-- An arrival keeps the rule.
use Rattle.std.proofs.Common.{◌≡◌, ◌≢◌, ℕ, suc, ◌+◌, ◌*◌, ◌/◌, ◌%◌, ◌<◌, ◌≤◌, List, [], length, set, get_or-set_other, get_or-set_same, true≢false, refl, sym, ap, ◌∙◌, subst, arith}
use Rattle.std.specs.Prelude.{slice_index}
use mathlib.Core.Option.{some}
use lib.ListN.{get_elem?}
use Rattle.pm_bank.specs.declared.view.View.{View}
use Rattle.pm_bank.specs.declared.view.Entry.{Entry}
use Rattle.pm_bank.specs.declared.view.Numbers.{Numbers}
use Rattle.pm_bank.specs.Entries.{AreUpTo, when}
use Rattle.pm_bank.specs.Words.{op, fold_of}
use Rattle.pm_bank.specs.Rule.{total, gone, here, part, Phase, Fits, Gates, Kept}
use Rattle.pm_bank.specs.Steps.{passing}
use Rattle.pm_bank.proofs.FoldLemmas.{when-same, when-other, when-zero, count-at_most, up_to-none}
use Rattle.pm_bank.proofs.CountLemmas.{complete-set}
use Rattle.pm_bank.proofs.TellLemmas.{IsStill, tells_after_pass}
use Rattle.pm_bank.proofs.TotalLemmas.{length_set}
use Rattle.pm_bank.proofs.StayLemmas.{cells_stay, merged_stays}
use Rattle.pm_bank.proofs.PassLemmas.{IsPassStep, moves, seats_after}

pub gate_epoch : (n e t : ℕ) → n ≡ e * 4294967296 + t → t ≤ 1073741824 → n / 4294967296 ≡ e
gate_epoch n e t is small = omega (arith, is, small)

module _ (slots : ℕ) (words : List ℕ) (views : List View) (k : Kept slots words views) (id : ℕ) (nums next : Numbers) (b q a m : ℕ) (es : List Entry) (room : length es + m ≤ q) (here_is : get_elem? views id ≡ some (passing nums b q 0 0 [] es)) (own : when k.phase.epoch a m ≡ m) (others : (e : ℕ) → (k.phase.epoch ≡ e → ⊥) → when e a m ≡ 0) where
  abbrev p : Phase
  p = k.phase

  abbrev E : ℕ
  E = k.phase.epoch

  abbrev was : View
  was = passing nums b q 0 0 [] es

  abbrev now : View
  now = passing next b q a m [] es

  abbrev n : ℕ
  n = slice_index words 0

  abbrev changed : List ℕ
  changed = set words 0 ((n + m) % 18446744073709551616)

  now_fits : Fits p id now
  now_fits =
      let old = k.seats.fits id was here_is in
      let few = count-at_most E es in
      record {
        within = let one = own in omega (arith, few, room, one);
        past = λ e lt. let none = others e (λ z. omega (arith, lt, z)) in let zero_is = when-zero e 0 in let o = old.past e lt in omega (arith, none, o, zero_is);
        one = λ x. absurd (true≢false (sym x));
        idle = λ _ z. absurd (omega (arith, z));
        backed = λ _. refl;
        single = omega arith;
        since_le = old.since_le;
        born = λ e lt. let none = others e (λ z. let le = old.since_le in omega (arith, lt, z, le)) in let zero_is = when-zero e 0 in let o = old.born e lt in omega (arith, none, o, zero_is);
        shut = λ e closed. others e (λ z. closed.behind (sym z));
        small = old.small;
      }

  step : IsPassStep p id was now
  step =
      record {
        no_keeper = refl;
        lives_same = refl;
        since_same = refl;
        quota_same = refl;
        met_same = refl;
        fits = now_fits;
        older = λ e apart. let none = others e apart in let zero_is = when-zero e 0 in omega (arith, none, zero_is);
        fewer = λ e apart. let none = others e apart in omega (arith, none);
      }

  stays_word : (j : ℕ) → j ≢ 0 → slice_index changed j ≡ slice_index words j
  stays_word j apart = rw get_or-set_other refl

  goes : (e : ℕ) → total (gone e) (set views id now) ≡ total (gone e) views
  goes e = let t = moves p views k.seats id was now here_is step (gone e) in omega (arith, t)

  gates : Gates p changed (set views id now)
  gates =
      record {
        fits = k.gates.fits;
        gate =
            let long : 0 < length words = (let c = k.size in omega (arith, c)) in
            let here_now : slice_index changed 0 ≡ (n + m) % 18446744073709551616 = rw get_or-set_same refl in
            let t = moves p views k.seats id was now here_is step (here E) in let one = own in let zero_is = when-zero E 0 in
            let w = k.gates.gate in let b = (seats_after p views k.seats id was now here_is step).bound E in let s = k.gates.fits in omega (arith, here_now, t, one, zero_is, w, b, s);
        now = stays_word (1 + E % 2) (λ z. omega (arith, z)) ∙ k.gates.now ∙ sym (goes E);
        before = λ un x is. stays_word (1 + x % 2) (λ z. omega (arith, z)) ∙ k.gates.before un x is ∙ sym (goes x);
        empty = λ un. stays_word (1 + suc E % 2) (λ z. omega (arith, z)) ∙ k.gates.empty un;
      }

  part_same : (j e s : ℕ) → part j e s now ≡ part j e s was
  part_same j e s = ap (op j (fold_of j e s es)) (when-zero e a ∙ sym (when-zero e 0))

  still : IsStill slots p views (set views id now)
  still =
      record {
        heres = λ e closed. let t = moves p views k.seats id was now here_is step (here e) in let o = step.older e (λ z. closed.behind (sym z)) in omega (arith, t, o);
        merges = λ j e s _ _ _. merged_stays views id was now here_is j e s (part_same j e s);
      }

  kept_at : Kept slots changed (set views id now)
  kept_at =
      record {
        phase = p;
        counts = record {
          complete = complete-set slots views id was now here_is refl k.counts.complete;
          tells = tells_after_pass slots p views id now refl still k.counts.tells;
        };
        size = length_set words 0 _ ∙ k.size;
        seats = seats_after p views k.seats id was now here_is step;
        gates = gates;
        cells = cells_stay slots p words changed views (set views id now) k.cells (λ i le. stays_word i (λ z. omega (arith, le, z))) (λ j e s _ _. merged_stays views id was now here_is j e s (part_same j e s));
      }

-- the epoch of the gate, where a pass with no open visit reads it
module _ (slots : ℕ) (words : List ℕ) (views : List View) (k : Kept slots words views) (id : ℕ) (nums : Numbers) (b q : ℕ) (es : List Entry) (here_is : get_elem? views id ≡ some (passing nums b q 0 0 [] es)) where
  abbrev gate : ℕ
  gate = slice_index words 0

  gate_is : gate / 4294967296 ≡ k.phase.epoch
  gate_is = gate_epoch gate k.phase.epoch (total (here k.phase.epoch) views) k.gates.gate (k.seats.bound k.phase.epoch)

  pub arrives_late : (b ≤ gate / 4294967296) × AreUpTo (gate / 4294967296) es
  arrives_late =
      let is = gate_is in
      let old = k.seats.fits id (passing nums b q 0 0 [] es) here_is in
      let le = old.since_le in
      ((omega (arith, is, le)), up_to-none (gate / 4294967296) es (λ e lt. let o = old.past e (omega (arith, is, lt)) in omega (arith, o)))

  pub arrives : (m : ℕ) → length es + m ≤ q → Kept slots (set words 0 ((gate + m) % 18446744073709551616)) (set views id (passing nums b q (gate / 4294967296) m [] es))
  arrives m room =
      subst (λ (e : ℕ). Kept slots (set words 0 ((gate + m) % 18446744073709551616)) (set views id (passing nums b q e m [] es))) (sym gate_is)
      (kept_at slots words views k id nums nums b q k.phase.epoch m es room here_is (when-same k.phase.epoch m) (λ e apart. when-other e k.phase.epoch m apart))

  -- a look changes no word
  pub glances : (next : Numbers) → length es ≤ q → Kept slots (set words 0 gate) (set views id (passing next b q 0 0 [] es))
  glances next room =
      let small : (gate + 0) % 18446744073709551616 ≡ gate = (let g = k.gates.gate in let t = k.seats.bound k.phase.epoch in let f = k.gates.fits in omega (arith, g, t, f)) in
      subst (λ (w : ℕ). Kept slots (set words 0 w) (set views id (passing next b q 0 0 [] es))) small
      (kept_at slots words views k id nums next b q 0 0 es (omega (arith, room)) here_is (when-zero k.phase.epoch 0) (λ e _. when-zero e 0))
