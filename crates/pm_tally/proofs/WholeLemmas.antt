-- Lines that their line feeds end.
use Rattle.std.proofs.Common.{◌≡◌, ◌≢◌, ℕ, zero, suc, false, List, [], ◌∷◌, ◌++◌, get_or, inl, inr, refl, sym, ◌∙◌, ap, arith, append_assoc}
use Rattle.std.proofs.lemmas.List.{append-nil}
use Rattle.std.proofs.lemmas.List.Splits.{slice_split_none, slice_split_at}
use Rattle.std.proofs.lemmas.Bool.Decides.{eqb_tells}
use Rattle.std.proofs.lemmas.Grind.{flat_map-append}
use Rattle.std.proofs.Math.Dec.{eqb}
use Rattle.std.specs.List.{All}
use Rattle.pm_base.specs.Lines.{HasNoLineFeed, lines_of}
use Rattle.pm_base.proofs.PiecesLemmas.{some_piece}
use Rattle.pm_outside.proofs.LinesLemmas.{lines_of-first}
use Rattle.pm_base.specs.WholeLines.{text_of_lines}
use Rattle.pm_base.specs.WholeLines.{whole_lines, whole_parts}

fails : (b : ℕ) → b ≢ 10 → eqb b 10 ≡ false
fails b other = elim (eqb_tells b 10) [ inl same ↦ absurd (other same.1) | inr differs ↦ differs.0 ]

all_fail : (bytes : List ℕ) → HasNoLineFeed bytes → All (λ b. eqb b 10 ≡ false) bytes
all_fail bytes none k d lt = fails (get_or bytes k d) (none k d lt)

-- A line before a line feed is the first that is whole.
pub whole_lines-first : (line after : List ℕ) → HasNoLineFeed line → whole_lines (line ++ 10 ∷ after) ≡ line ∷ whole_lines after
whole_lines-first line after none =
    let some = some_piece 10 after in
    ap whole_parts (slice_split_at (λ b. eqb b 10) line 10 after (all_fail line none) refl ∙ ap (λ (l : List (List ℕ)). line ∷ l) some.2)
    ∙ ap (λ (l : List (List ℕ)). line ∷ whole_parts l) (sym some.2)

-- Without a line feed none is whole.
pub whole_lines-none : (bytes : List ℕ) → HasNoLineFeed bytes → whole_lines bytes ≡ []
whole_lines-none bytes none = ap whole_parts (slice_split_none (λ b. eqb b 10) bytes (all_fail bytes none))

-- the bytes of a first line and of others
text-first : (line : List ℕ) (lines : List (List ℕ)) (rest : List ℕ) → text_of_lines (line ∷ lines) ++ rest ≡ line ++ 10 ∷ (text_of_lines lines ++ rest)
text-first line lines rest = append_assoc (line ++ 10 ∷ []) (text_of_lines lines) rest ∙ append_assoc line (10 ∷ []) (text_of_lines lines ++ rest)

others_one : (line : List ℕ) (lines : List (List ℕ)) → All HasNoLineFeed (line ∷ lines) → All HasNoLineFeed lines
others_one line lines ones k d lt = ones (suc k) d (omega (arith, lt))

first_one : (line : List ℕ) (lines : List (List ℕ)) → All HasNoLineFeed (line ∷ lines) → HasNoLineFeed line
first_one line lines ones = ones 0 [] (omega arith)

-- Whole lines come first.
pub whole_lines-text : (lines : List (List ℕ)) (rest : List ℕ) → All HasNoLineFeed lines → whole_lines (text_of_lines lines ++ rest) ≡ lines ++ whole_lines rest
whole_lines-text [] rest ones = refl
whole_lines-text (line ∷ lines) rest ones =
    ap whole_lines (text-first line lines rest)
    ∙ whole_lines-first line (text_of_lines lines ++ rest) (first_one line lines ones)
    ∙ ap (λ (l : List (List ℕ)). line ∷ l) (whole_lines-text lines rest (others_one line lines ones))

pub lines_of-text : (lines : List (List ℕ)) (rest : List ℕ) → All HasNoLineFeed lines → lines_of (text_of_lines lines ++ rest) ≡ lines ++ lines_of rest
lines_of-text [] rest ones = refl
lines_of-text (line ∷ lines) rest ones =
    ap lines_of (text-first line lines rest)
    ∙ lines_of-first line (text_of_lines lines ++ rest) (first_one line lines ones)
    ∙ ap (λ (l : List (List ℕ)). line ∷ l) (lines_of-text lines rest (others_one line lines ones))

-- One more whole line.
pub text-more : (lines : List (List ℕ)) (line rest : List ℕ) → text_of_lines lines ++ (line ++ 10 ∷ rest) ≡ text_of_lines (lines ++ line ∷ []) ++ rest
text-more lines line rest =
    sym (ap (λ (t : List ℕ). t ++ rest) (flat_map-append (λ l. l ++ 10 ∷ []) lines (line ∷ []) ∙ ap (λ (t : List ℕ). text_of_lines lines ++ t) (append-nil (line ++ 10 ∷ [])))
    ∙ append_assoc (text_of_lines lines) (line ++ 10 ∷ []) rest
    ∙ ap (λ (t : List ℕ). text_of_lines lines ++ t) (append_assoc line (10 ∷ []) rest))

-- One more element of which a fact holds.
pub All-more : {A : Type 0} (P : A → Type 0) (xs : List A) (x : A) → All P xs → P x → All P (xs ++ x ∷ [])
All-more P [] x all last zero d lt = last
All-more P [] x all last (suc k) d lt = absurd (omega (arith, lt))
All-more P (y ∷ xs) x all last zero d lt = all 0 d (omega arith)
All-more P (y ∷ xs) x all last (suc k) d lt = All-more P xs x (λ j e less. all (suc j) e (omega (arith, less))) last k d (omega (arith, lt))
