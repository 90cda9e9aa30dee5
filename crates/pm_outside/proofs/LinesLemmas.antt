-- The lines of all bytes that are left, by what a feed answers.
use Rattle.std.proofs.Common.{◌≡◌, ◌≢◌, ◌<◌, ◌≤◌, ℕ, zero, suc, Bool, false, cond, List, [], ◌∷◌, ◌++◌, length, take, get_or, inl, inr, refl, sym, ◌∙◌, ap, arith}
use Rattle.std.proofs.lemmas.List.Splits.{slice_split_none, slice_split_at, slice_split-cons_no}
use Rattle.std.proofs.lemmas.Bool.Decides.{eqb_tells}
use Rattle.std.proofs.Math.Dec.{eqb}
use Rattle.std.specs.List.{slice_split, onto_first, All}
use Rattle.pm_base.specs.Lines.{HasNoLineFeed, lines_of, lines_of_parts}
use Rattle.pm_outside.specs.Feed.{IsFirstLine}
use Rattle.pm_base.proofs.PiecesLemmas.{some_piece}

-- a byte that is no line feed doesn't pass the test
fails : (b : ℕ) → b ≢ 10 → eqb b 10 ≡ false
fails b other = elim (eqb_tells b 10) [ inl same ↦ absurd (other same.1) | inr differs ↦ differs.0 ]

all_fail : (bytes : List ℕ) → HasNoLineFeed bytes → All (λ b. eqb b 10 ≡ false) bytes
all_fail bytes none k d lt = fails (get_or bytes k d) (none k d lt)

-- A line before a line feed comes first.
pub lines_of-first : (line after : List ℕ) → HasNoLineFeed line → lines_of (line ++ 10 ∷ after) ≡ line ∷ lines_of after
lines_of-first line after none =
    let some = some_piece 10 after in
    ap lines_of_parts (slice_split_at (λ b. eqb b 10) line 10 after (all_fail line none) refl ∙ ap (λ (l : List (List ℕ)). line ∷ l) some.2)
    ∙ ap (λ (l : List (List ℕ)). line ∷ lines_of_parts l) (sym some.2)

-- a part that is not empty is a line
last_part : (line : List ℕ) → 0 < length line → cond (eqb (length line) 0) [] (line ∷ []) ≡ line ∷ []
last_part line some = elim (eqb_tells (length line) 0) [
  | inl empty ↦ absurd (omega (arith, empty.1, some))
  | inr differs ↦ ap (λ (v : Bool). cond v [] (line ∷ [])) differs.0
]

-- A last line without a line feed.
pub lines_of-last : (line : List ℕ) → HasNoLineFeed line → 0 < length line → lines_of line ≡ line ∷ []
lines_of-last line none some =
    ap lines_of_parts (slice_split_none (λ b. eqb b 10) line (all_fail line none)) ∙ last_part line some

-- The first line of what is left, and then the lines of the rest.
pub lines_of-next : (before line after : List ℕ) → IsFirstLine before line after → lines_of before ≡ line ∷ lines_of after
lines_of-next before line after next = elim next.split [
  | inl at ↦ ap lines_of at ∙ lines_of-first line after next.one
  | inr at ↦ ap lines_of at.0 ∙ lines_of-last line next.one at.2 ∙ ap (λ (l : List ℕ). line ∷ lines_of l) (sym at.1)
]

-- where none of the first n bytes is a line feed, the first part has all of them
long_part : (n : ℕ) (bytes : List ℕ) → HasNoLineFeed (take n bytes) → n ≤ length bytes → (first : List ℕ) × (more : List (List ℕ)) × (slice_split (λ b. eqb b 10) bytes ≡ first ∷ more) × (n ≤ length first)
long_part zero bytes none within = let some = some_piece 10 bytes in (some.0, some.1, some.2, omega arith)
long_part (suc n) [] none within = absurd (omega (arith, within))
long_part (suc n) (b ∷ bytes) none within =
    let later : HasNoLineFeed (take n bytes) = λ k d lt. none (suc k) d (omega (arith, lt)) in
    let parts = long_part n bytes later (omega (arith, within)) in (
      b ∷ parts.0,
      parts.1,
      slice_split-cons_no (λ b. eqb b 10) b bytes (fails b (none 0 0 (omega arith))) ∙ ap (λ (l : List (List ℕ)). onto_first b l) parts.2,
      omega (arith, parts.3),
    )

-- the first part is the first line where it has a byte
first_of_parts : (n : ℕ) (before first : List ℕ) (more : List (List ℕ)) → 0 < n → slice_split (λ b. eqb b 10) before ≡ first ∷ more → n ≤ length first → (line : List ℕ) × (lines : List (List ℕ)) × (lines_of before ≡ line ∷ lines) × (n ≤ length line)
first_of_parts n before first [] some parts long = (first, [], ap lines_of_parts parts ∙ last_part first (omega (arith, some, long)), long)
first_of_parts n before first (next ∷ more) some parts long = (first, lines_of_parts (next ∷ more), ap lines_of_parts parts, long)

-- A line that is too long comes first.
pub lines_of-long : (n : ℕ) (before : List ℕ) → 0 < n → n ≤ length before → HasNoLineFeed (take n before) → (line : List ℕ) × (lines : List (List ℕ)) × (lines_of before ≡ line ∷ lines) × (n ≤ length line)
lines_of-long n before some within none =
    let parts = long_part n before none within in
    first_of_parts n before parts.0 parts.1 some parts.2 parts.3
