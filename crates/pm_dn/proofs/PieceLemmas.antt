-- Lists cut at a byte.
use Rattle.std.proofs.Common.{one-add, ◌≡◌, ◌∙◌, ℕ, ◌+◌, ◌<◌, Bool, true, false, List, [], ◌∷◌, ◌||◌, suc, cond, not, length, take, drop, get_or, refl, sym, ap, eqb, arith}
use Rattle.std.specs.List.{list_any, position_or_len, before_first, after_first, join_with_byte, All}
use Rattle.std.proofs.Math.ListN.{drop_of_length-le}
use Rattle.std.proofs.lemmas.List.Elements.{All-nil, All-cons}
use Rattle.std.proofs.lemmas.Bool.{false_from_ne_true}
use Rattle.std.proofs.lemmas.List.Splits.{slice_split_none, slice_split_first, join_with_byte-slice_split}
use Rattle.pm_base.specs.Pieces.{pieces_of}
use Rattle.pm_base.proofs.PiecesLemmas.{length-pieces_of}

-- the byte between two parts
abbrev pub is_comma : ℕ → Bool
is_comma b = eqb b 44

-- a list with an element that passes has a first one
position-step : (here any : Bool) (n m : ℕ) → (any ≡ true → n < m) → (here || any) ≡ true → cond (not here) (1 + n) 0 < suc m
position-step true any n m later some = omega arith
position-step false any n m later some = let lt : n < m = later some in omega arith

pub position_or_len-lt-length : {X : Type 0} (p : X → Bool) (xs : List X) → list_any p xs ≡ true → position_or_len p xs < length xs
position_or_len-lt-length p [] some = cc
position_or_len-lt-length p (x ∷ xs) some = position-step (p x) (list_any p xs) _ _ (position_or_len-lt-length p xs) some

lacks-head : (here any : Bool) → (here || any) ≡ false → here ≡ false
lacks-head true any none = cc
lacks-head false any none = refl

lacks-tail : (here any : Bool) → (here || any) ≡ false → any ≡ false
lacks-tail true any none = cc
lacks-tail false any none = none

-- no element passes
pub All-from_list_any : {X : Type 0} (p : X → Bool) (xs : List X) → list_any p xs ≡ false → All (λ x. p x ≡ false) xs
All-from_list_any p [] none = All-nil (λ x. p x ≡ false)
All-from_list_any p (x ∷ xs) none =
    All-cons (λ x. p x ≡ false) x xs (lacks-head (p x) (list_any p xs) none) (All-from_list_any p xs (lacks-tail (p x) (list_any p xs) none))

-- the first piece is what stands before the first such byte
pub pieces_of-first : (byte : ℕ) (bytes : List ℕ) → list_any (λ b. eqb b byte) bytes ≡ true → pieces_of byte bytes ≡ before_first (λ b. eqb b byte) bytes ∷ pieces_of byte (after_first (λ b. eqb b byte) bytes)
pieces_of-first byte bytes some = slice_split_first (λ b. eqb b byte) bytes 0 (position_or_len-lt-length (λ b. eqb b byte) bytes some)

-- where the byte stands nowhere, all is one piece
pub pieces_of-one : (byte : ℕ) (bytes : List ℕ) → list_any (λ b. eqb b byte) bytes ≡ false → pieces_of byte bytes ≡ bytes ∷ []
pieces_of-one byte bytes none = slice_split_none (λ b. eqb b byte) bytes (All-from_list_any (λ b. eqb b byte) bytes none)

no_pieces : (byte : ℕ) (bytes : List ℕ) → pieces_of byte bytes ≡ [] → ⊥
no_pieces byte bytes none = omega (arith, (length-pieces_of byte bytes).0, ap length none)

-- where all is one piece, the byte stands nowhere
pub lacks-from_one : (byte : ℕ) (bytes : List ℕ) → pieces_of byte bytes ≡ bytes ∷ [] → list_any (λ b. eqb b byte) bytes ≡ false
lacks-from_one byte bytes one = false_from_ne_true (list_any (λ b. eqb b byte) bytes) (λ some.
    no_pieces byte (after_first (λ b. eqb b byte) bytes) (ap (drop 1) (sym (pieces_of-first byte bytes some) ∙ one)))

-- where a first piece is cut off, the byte stands behind it
has-from_cut : (byte : ℕ) (bytes first rest : List ℕ) (some : Bool) → list_any (λ b. eqb b byte) bytes ≡ some → pieces_of byte bytes ≡ first ∷ pieces_of byte rest → some ≡ true
has-from_cut byte bytes first rest true is cut = refl
has-from_cut byte bytes first rest false is cut = absurd (no_pieces byte rest (ap (drop 1) (sym cut ∙ pieces_of-one byte bytes is)))

-- what is cut off stands before the first such byte, and the rest behind it
pub parts-from_cut : (byte : ℕ) (bytes first rest : List ℕ) → pieces_of byte bytes ≡ first ∷ pieces_of byte rest
    → (list_any (λ b. eqb b byte) bytes ≡ true) × (first ≡ before_first (λ b. eqb b byte) bytes) × (rest ≡ after_first (λ b. eqb b byte) bytes)
parts-from_cut byte bytes first rest cut =
    let p = λ (b : ℕ). eqb b byte in
    let some : list_any p bytes ≡ true = has-from_cut byte bytes first rest (list_any p bytes) refl cut in
    let same : first ∷ pieces_of byte rest ≡ before_first p bytes ∷ pieces_of byte (after_first p bytes) = sym cut ∙ pieces_of-first byte bytes some in
    let behind : pieces_of byte rest ≡ pieces_of byte (after_first p bytes) = ap (drop 1) same in (
      some,
      ap (λ (l : List (List ℕ)). get_or l 0 []) same,
      sym (join_with_byte-slice_split byte rest) ∙ ap (join_with_byte byte) behind ∙ join_with_byte-slice_split byte (after_first p bytes),
    )

-- where no element passes, all stand before the first that does
pub before_first-all : {X : Type 0} (p : X → Bool) (xs : List X) → list_any p xs ≡ false → before_first p xs ≡ xs
before_first-all p [] none = refl
before_first-all p (x ∷ xs) none =
    let here : p x ≡ false = lacks-head (p x) (list_any p xs) none in
    let step : take (1 + position_or_len p xs) (x ∷ xs) ≡ x ∷ take (position_or_len p xs) xs = ap (λ n. take n (x ∷ xs)) (one-add (position_or_len p xs)) in
    rw here (step ∙ ap (λ l. x ∷ l) (before_first-all p xs (lacks-tail (p x) (list_any p xs) none)))

position-all : (here any : Bool) (n m : ℕ) → (any ≡ false → n ≡ m) → (here || any) ≡ false → cond (not here) (1 + n) 0 ≡ suc m
position-all true any n m later none = cc
position-all false any n m later none = let same : n ≡ m = later none in omega arith

position_or_len-all : {X : Type 0} (p : X → Bool) (xs : List X) → list_any p xs ≡ false → position_or_len p xs ≡ length xs
position_or_len-all p [] none = refl
position_or_len-all p (x ∷ xs) none = position-all (p x) (list_any p xs) _ _ (position_or_len-all p xs) none

-- where no element passes, nothing stands behind the first that does
pub after_first-none : {X : Type 0} (p : X → Bool) (xs : List X) → list_any p xs ≡ false → after_first p xs ≡ []
after_first-none p xs none = drop_of_length-le xs (omega (arith, position_or_len-all p xs none))
