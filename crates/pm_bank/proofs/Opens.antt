-- The rule holds of a new bank.
use Rattle.std.proofs.Common.{◌≡◌, ℕ, zero, suc, ◌+◌, ◌*◌, ◌<◌, List, [], ◌∷◌, length, true, true≢false, refl, sym, ap, ◌∙◌, subst, arith}
use mathlib.Core.Option.{some, some-ne-none, some-injective}
use Rattle.std.specs.Prelude.{slice_index}
use lib.ListN.{get_elem?}
use Rattle.pm_bank.specs.declared.view.View.{View}
use Rattle.pm_bank.specs.Words.{close, cell_word}
use Rattle.pm_bank.specs.Rule.{total, here, Phase, Fits, Knows, Seats, Tells, Kept}
use Rattle.pm_bank.specs.Steps.{new_keeper}
use Rattle.pm_bank.proofs.FoldLemmas.{when-zero, none-here, op-unit}
use Rattle.pm_bank.proofs.CountLemmas.{spread_nil}
use Rattle.pm_bank.proofs.KeeperLemmas.{part_none}

abbrev first : Phase
first = record { epoch = 0; keeper = 0; untaken = 0; cleared = 0 }

only_fits : (by : ℕ) (v : View) → get_elem? (new_keeper ∷ []) by ≡ some v → Fits first by v
only_fits zero v e = subst (Fits first 0) (some-injective new_keeper v e) (record { within = (let z = when-zero 0 0 in omega (arith, z)); past = λ x lt. none-here x; one = λ _. refl; idle = λ x _. absurd (true≢false x); backed = λ _. refl; single = omega arith; since_le = omega arith; born = λ x lt. absurd (omega (arith, lt)); shut = λ x _. when-zero x 0; small = tt })
only_fits (suc by) v e = absurd (some-ne-none v (sym e))

only_knows : (by : ℕ) (v : View) → get_elem? (new_keeper ∷ []) by ≡ some v → v.keeps ≡ true → Knows first (new_keeper ∷ []) v
only_knows zero v e _ = subst (Knows first (new_keeper ∷ [])) (some-injective new_keeper v e) (record { epoch_is = refl; untaken_is = refl; cleared_is = refl; sealed_is = λ z. absurd (omega (arith, z)); arrived_is = λ z. absurd (z refl); out_is = refl; quotas_is = refl; older_is = omega arith; met_is = refl; no_visit = refl })
only_knows (suc by) v e _ = absurd (some-ne-none v (sym e))

only_tells : (slots by : ℕ) (v : View) → get_elem? (new_keeper ∷ []) by ≡ some v → v.keeps ≡ true → Tells slots first (new_keeper ∷ []) v
only_tells slots zero v e _ = subst (Tells slots first (new_keeper ∷ [])) (some-injective new_keeper v e) (record { found_is = λ _ _ _ _ _ none. absurd (omega (arith, none)); taken_is = λ j t h. absurd (some-ne-none t (sym h)) })
only_tells slots (suc by) v e _ = absurd (some-ne-none v (sym e))

all_none : (e : ℕ) → total (here e) (new_keeper ∷ []) ≡ 0
all_none e = let z = none-here e in omega (arith, z)

seats : Seats first (new_keeper ∷ [])
seats = record { bound = λ e. let z = all_none e in omega (arith, z); room = omega arith; fits = only_fits; knows = only_knows }

pub opens : (slots : ℕ) (words : List ℕ) → length words ≡ 8 + 8 * slots → ((i : ℕ) → i < 8 → slice_index words i ≡ 0) → ((k s e : ℕ) → k < 4 → s < slots → slice_index words (cell_word e k s) ≡ close k 0) → Kept slots words (new_keeper ∷ [])
opens slots words size zeros blanks =
    record {
      phase = first;
      counts = record { complete = λ e. let s = spread_nil slots e in omega (arith, s); tells = only_tells slots };
      size = size;
      seats = seats;
      gates = record { fits = omega arith; gate = (let z = all_none 0 in let w = zeros 0 (omega arith) in omega (arith, z, w)); now = zeros 1 (omega arith); before = λ z. absurd (z refl); empty = λ _. zeros 2 (omega arith) };
      cells = record {
        now = λ k s lt inside. blanks k s 0 lt inside ∙ ap (close k) (sym (op-unit k _ ∙ part_none k 0 s new_keeper (none-here 0) (λ _. refl)));
        before = λ z. absurd (z refl);
        empty = λ k s lt inside _. blanks k s 1 lt inside;
      };
    }
