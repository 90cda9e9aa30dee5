-- A leave keeps the rule, once each word has its part of the visit's events.
use Rattle.std.proofs.Common.{◌≡◌, ◌≢◌, ◌⊎◌, ℕ, suc, ◌+◌, ◌%◌, ◌<◌, List, [], ◌++◌, length, set, get_or-set_other, get_or-set_same, true≢false, refl, sym, ap, ◌∙◌, subst, ⊎_elim, arith}
use Rattle.std.specs.Prelude.{slice_index}
use mathlib.Core.Option.{some}
use lib.ListN.{get_elem?}
use Rattle.pm_bank.specs.declared.view.View.{View}
use Rattle.pm_bank.specs.declared.view.Numbers.{Numbers}
use Rattle.pm_bank.specs.declared.view.Hit.{Hit}
use Rattle.pm_bank.specs.declared.view.Part.{Part}
use Rattle.pm_bank.specs.declared.view.Entry.{Entry}
use Rattle.pm_bank.specs.Entries.{when, stamped, count_in, AreSound}
use Rattle.pm_bank.specs.Words.{op, run_fold, laid, fold_of, run_spread}
use Rattle.pm_bank.specs.Rule.{in_slots, Counts, total, gone, here, visits, part, Phase, Gates, Kept}
use Rattle.pm_bank.specs.Steps.{passing}
use Rattle.pm_bank.proofs.FoldLemmas.{when-same, when-other, when-zero, op-unit, fold-append, fold-stamped, count-append, count-stamped, small-append, small-stamped}
use Rattle.pm_bank.proofs.CountLemmas.{spread_append, spread_stamped, run_complete}
use Rattle.pm_bank.proofs.TellLemmas.{IsStill, tells_after_pass}
use Rattle.pm_bank.proofs.VisitLemmas.{stands, IsEnded}
use Rattle.pm_bank.proofs.TotalLemmas.{length_set, total_le}
use Rattle.pm_bank.proofs.StayLemmas.{cells_stay, merged_stays}
use Rattle.pm_bank.proofs.PassLemmas.{IsPassStep, moves, seats_after}

module _ (slots : ℕ) (words : List ℕ) (views : List View) (k : Kept slots words views) (id : ℕ) (nums : Numbers) (b q a : ℕ) (hs : List Hit) (ps : List Part) (es : List Entry) (some_hits : length hs ≡ 0 → ⊥) (filled : (j s : ℕ) → j < 4 → s < slots → laid j s ps ≡ run_fold j s hs) (sound : AreSound slots hs) (here_is : get_elem? views id ≡ some (passing nums b q a (length hs) ps es)) where
  abbrev p : Phase
  p = k.phase

  abbrev E : ℕ
  E = k.phase.epoch

  abbrev was : View
  was = passing nums b q a (length hs) ps es

  abbrev now : View
  now = passing nums b q 0 0 [] (es ++ stamped a hs)

  abbrev after : List View
  after = set views id now

  abbrev word : ℕ
  word = 1 + a % 2

  abbrev n : ℕ
  n = slice_index words word

  abbrev changed : List ℕ
  changed = set words word ((n + length hs) % 18446744073709551616)

  becomes : (e : ℕ) → count_in e (es ++ stamped a hs) ≡ count_in e es + when e a (length hs)
  becomes e = count-append e es (stamped a hs) ∙ ap (λ (m : ℕ). count_in e es + m) (count-stamped e a hs)

  same_here : (e : ℕ) → here e now ≡ here e was
  same_here e = let m = becomes e in let z = when-zero e 0 in omega (arith, m, z)

  step : IsPassStep p id was now
  step =
      let old = k.seats.fits id was here_is in
      record {
        no_keeper = refl;
        lives_same = refl;
        since_same = refl;
        quota_same = refl;
        met_same = refl;
        fits = record { within = (let o = old.within in let m = same_here E in omega (arith, o, m)); past = λ e lt. same_here e ∙ old.past e lt; one = λ z. absurd (true≢false (sym z)); idle = λ _ z. absurd (omega (arith, z)); backed = λ _. refl; single = old.single; since_le = old.since_le; born = λ e lt. same_here e ∙ old.born e lt; shut = λ e _. when-zero e 0; small = small-append es (stamped a hs) old.small (small-stamped slots a hs sound) };
        older = λ e _. same_here e;
        fewer = λ e _. let z = when-zero e 0 in omega (arith, z);
      }

  stays : (e : ℕ) → total (here e) after ≡ total (here e) views
  stays e = let t = moves p views k.seats id was now here_is step (here e) in let m = same_here e in omega (arith, t, m)

  goes : (e : ℕ) → total (gone e) after ≡ total (gone e) views + when e a (length hs)
  goes e = let t = moves p views k.seats id was now here_is step (gone e) in let m = becomes e in omega (arith, t, m)

  visited : visits a was ≡ 0 → ⊥
  visited none = let one = when-same a (length hs) in some_hits (omega (arith, one, none))

  -- the epoch of the visit is the gate's, or the ended one, of which no word is cleared yet
  place : (a ≡ E) ⊎ IsEnded p a
  place = stands p a (λ closed. visited ((k.seats.fits id was here_is).shut a closed))

  stays_word : (j : ℕ) → j ≢ word → slice_index changed j ≡ slice_index words j
  stays_word j apart = rw get_or-set_other refl

  -- the word that changes, where it was the count of a
  now_word : n ≡ total (gone a) views → slice_index changed word ≡ total (gone a) after
  now_word is =
      let long : word < length words = (let c = k.size in omega (arith, c)) in
      let now_is : slice_index changed word ≡ (n + length hs) % 18446744073709551616 = rw get_or-set_same refl in
      let g = goes a in let one = when-same a (length hs) in let b = (seats_after p views k.seats id was now here_is step).bound a in
      let fewer = total_le (gone a) (here a) after (λ v. omega arith) in omega (arith, now_is, is, g, one, b, fewer)

  now_leaves : slice_index changed (1 + E % 2) ≡ total (gone E) after
  now_leaves =
      ⊎_elim
      (λ (same : a ≡ E). subst (λ (y : ℕ). slice_index changed (1 + y % 2) ≡ total (gone y) after) same (now_word (subst (λ (y : ℕ). slice_index words (1 + y % 2) ≡ total (gone y) views) (sym same) k.gates.now)))
      (λ (ended : IsEnded p a).
      let is = ended.last in
      let apart : 1 + E % 2 ≢ word = (λ z. omega (arith, z, is)) in
      let g = goes E in let none = when-other E a (length hs) (λ z. omega (arith, z, is)) in let w = stays_word (1 + E % 2) apart in let l = k.gates.now in omega (arith, w, l, g, none))
      place

  before_leaves : (p.untaken ≡ 0 → ⊥) → (x : ℕ) → suc x ≡ E → slice_index changed (1 + x % 2) ≡ total (gone x) after
  before_leaves un x is =
      ⊎_elim
      (λ (same : a ≡ E).
      let apart : 1 + x % 2 ≢ word = (λ z. omega (arith, z, is, same)) in
      let g = goes x in let none = when-other x a (length hs) (λ z. omega (arith, z, is, same)) in let w = stays_word (1 + x % 2) apart in let l = k.gates.before un x is in omega (arith, w, l, g, none))
      (λ (ended : IsEnded p a).
      let e = ended.last in
      let same : a ≡ x = omega (arith, e, is) in
      subst (λ (y : ℕ). slice_index changed (1 + y % 2) ≡ total (gone y) after) same (now_word (k.gates.before un a e)))
      place

  empty_leaves : p.untaken ≡ 0 → slice_index changed (1 + suc E % 2) ≡ 0
  empty_leaves un =
      ⊎_elim
      (λ (same : a ≡ E). let apart : 1 + suc E % 2 ≢ word = (λ z. omega (arith, z, same)) in stays_word (1 + suc E % 2) apart ∙ k.gates.empty un)
      (λ (ended : IsEnded p a). absurd (ended.untaken un))
      place

  gates : Gates p changed after
  gates =
      record {
        fits = k.gates.fits;
        gate = let same = stays_word 0 (λ z. omega (arith, z)) in let g = stays E in let w = k.gates.gate in omega (arith, same, g, w);
        now = now_leaves;
        before = before_leaves;
        empty = empty_leaves;
      }

  part_same : (j e s : ℕ) → j < 4 → s < slots → part j e s now ≡ part j e s was
  part_same j e s lt inside =
      ap (op j (fold_of j e s (es ++ stamped a hs))) (when-zero e 0) ∙ op-unit j _ ∙ fold-append j e s es (stamped a hs)
      ∙ ap (op j (fold_of j e s es)) (fold-stamped j e s a hs ∙ ap (when e a) (sym (filled j s lt inside)))

  spreads : (n e : ℕ) → total (in_slots n e) after ≡ total (in_slots n e) views + when e a (run_spread n hs)
  spreads n e = let t = moves p views k.seats id was now here_is step (in_slots n e) in let s = spread_append n e es (stamped a hs) in let w = spread_stamped n e a hs in omega (arith, t, s, w)

  still : IsStill slots p views after
  still = record { heres = λ e _. stays e; merges = λ j e s lt inside _. merged_stays views id was now here_is j e s (part_same j e s lt inside) }

  counts : Counts slots p after
  counts =
      record {
        complete = λ e. let g = goes e in let s = spreads slots e in let r = ap (when e a) (run_complete slots hs sound) in let o = k.counts.complete e in omega (arith, g, s, r, o);
        tells = tells_after_pass slots p views id now refl still k.counts.tells;
      }

  pub leaves : Kept slots changed after
  leaves =
      record {
        phase = p;
        counts = counts;
        size = length_set words word _ ∙ k.size;
        seats = seats_after p views k.seats id was now here_is step;
        gates = gates;
        cells = cells_stay slots p words changed views after k.cells (λ i le. stays_word i (λ z. omega (arith, le, z))) (λ j e s lt inside. merged_stays views id was now here_is j e s (part_same j e s lt inside));
      }
