-- Lines of ratios that have too much.
use Rattle.std.proofs.Common.{◌≡◌, ◌+◌, ◌<◌, ◌≤◌, ℕ, Bool, true, false, List, [], ◌∷◌, ◌++◌, None, length, refl, sym, ◌∙◌, ap, arith, length-append, nat_le}
use Rattle.std.specs.Prelude.{◌&&◌}
use Rattle.std.specs.List.{list_all}
use Rattle.std.proofs.lemmas.Grind.{common_steps}
use Rattle.pm_base.specs.Pieces.{words_of, pieces_of}
use Rattle.pm_base.proofs.PiecesLemmas.{some_piece, length-pieces_of}
use Rattle.pm_form.specs.Names.{measure_name}
use Rattle.pm_kpi.specs.Ratio.{words_in, are_measures}

-- A line of five words or more is no line of a ratio.
pub five_words : (line word rest name behind above below further more : List ℕ) → words_of line ≡ word ∷ words_of rest → words_of rest ≡ name ∷ words_of behind
    → words_of behind ≡ above ∷ words_of below → words_of below ≡ further ∷ words_of more → words_in (words_of line) ≡ None
five_words line word rest name behind above below further more first second third fourth =
    let some = some_piece 32 more in
    let words : words_of line ≡ word ∷ name ∷ above ∷ further ∷ some.0 ∷ some.1 =
    first ∙ ap (λ (l : List (List ℕ)). word ∷ l) (second ∙ ap (λ (l : List (List ℕ)). name ∷ l)
    (third ∙ ap (λ (l : List (List ℕ)). above ∷ l) (fourth ∙ ap (λ (l : List (List ℕ)). further ∷ l) some.2))) in
    ap words_in words

over : (names : List (List ℕ)) → 8 < length names → nat_le (length names) 8 ≡ false
over names many = grind arith

none_of_both : (a b c : Bool) → b ≡ false → a && b && c ≡ false
none_of_both true b c is = grind (arith, is)
none_of_both false b c is = refl

-- Over eight names.
pub too_many : (text : List ℕ) (names : List (List ℕ)) (rest : List ℕ) → names ++ pieces_of 43 rest ≡ pieces_of 43 text → 8 ≤ length names
    → are_measures (pieces_of 43 text) ≡ false
too_many text names rest is many =
    let all = pieces_of 43 text in
    let longer : 8 < length all = omega (arith, sym (ap length is), length-append names (pieces_of 43 rest), (length-pieces_of 43 rest).0, many) in
    none_of_both (nat_le 1 (length all)) (nat_le (length all) 8) (list_all measure_name all) (over all longer)
