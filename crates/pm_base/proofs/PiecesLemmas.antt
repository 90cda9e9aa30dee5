-- Pieces by the first place of the byte that parts them.
use Rattle.std.proofs.Common.{◌≡◌, ◌+◌, ◌<◌, ◌≤◌, ℕ, suc, Bool, true, false, cond, List, [], ◌∷◌, ◌++◌, length, take, drop, get_or, inl, inr, refl, sym, ◌∙◌, ap, arith, add-one, drop-cons, take-append-drop}
use Rattle.std.proofs.lemmas.List.Splits.{slice_split_none, slice_split_at, slice_split-cons_no, length-slice_split}
use Rattle.std.proofs.lemmas.List.Sums.{count_by-le-length}
use Rattle.std.proofs.lemmas.List.{length-take, get_or-take, get_or_default, take_rest}
use Rattle.std.proofs.lemmas.Bool.Decides.{eqb_tells}
use Rattle.std.proofs.Math.Dec.{eqb}
use Rattle.std.specs.List.{onto_first, All, slice_range}
use Rattle.pm_base.specs.Pieces.{pieces_of}

-- a test that doesn't give true gives false
not_true : (b : Bool) → (b ≡ true → ⊥) → b ≡ false
not_true true no_ = absurd (no_ refl)
not_true false no_ = refl

-- no byte before the first place passes the test
fails_before : (byte n : ℕ) (bytes : List ℕ) → n ≤ length bytes → ((k : ℕ) → 0 ≤ k → k < n → eqb (get_or bytes k 0) byte ≡ true → ⊥) → All (λ b. eqb b byte ≡ false) (take n bytes)
fails_before byte n bytes within none k d lt =
    let below : k < n = omega (arith, length-take n bytes, lt) in
    let same : get_or (take n bytes) k d ≡ get_or bytes k 0 = get_or-take n bytes k d below ∙ get_or_default bytes k d 0 (omega (arith, below, within)) in
    ap (λ (b : ℕ). eqb b byte) same ∙ not_true (eqb (get_or bytes k 0) byte) (none k (omega arith) below)

-- where the byte stands nowhere, all is one piece
pub pieces_of-none : (byte : ℕ) (bytes : List ℕ) → ((k : ℕ) → 0 ≤ k → k < length bytes → eqb (get_or bytes k 0) byte ≡ true → ⊥) → pieces_of byte bytes ≡ bytes ∷ []
pieces_of-none byte bytes none =
    slice_split_none (λ b. eqb b byte) bytes
    (λ k d lt. ap (λ (b : ℕ). eqb b byte) (get_or_default bytes k d 0 lt) ∙ not_true (eqb (get_or bytes k 0) byte) (none k (omega arith) lt))

-- the first piece ends at the first place of the byte
pub pieces_of-cut : (byte at : ℕ) (bytes : List ℕ) → at < length bytes → eqb (get_or bytes at 0) byte ≡ true → ((k : ℕ) → 0 ≤ k → k < at → eqb (get_or bytes k 0) byte ≡ true → ⊥) → pieces_of byte bytes ≡ take at bytes ∷ pieces_of byte (slice_range bytes (at + 1) (length bytes))
pieces_of-cut byte at bytes within is none =
    let b = get_or bytes at 0 in
    let split : bytes ≡ take at bytes ++ b ∷ drop (suc at) bytes = sym (take-append-drop at bytes) ∙ ap (λ (l : List ℕ). take at bytes ++ l) (drop-cons bytes at 0 within) in
    let rest : drop (suc at) bytes ≡ slice_range bytes (at + 1) (length bytes) = ap (λ (n : ℕ). drop n bytes) (sym (add-one at)) ∙ sym (take_rest bytes (at + 1)) in
    ap (pieces_of byte) split
    ∙ slice_split_at (λ x. eqb x byte) (take at bytes) b (drop (suc at) bytes) (fails_before byte at bytes (omega (arith, within)) none) is
    ∙ ap (λ (l : List ℕ). take at bytes ∷ pieces_of byte l) rest

-- there is always a piece
pub some_piece : (byte : ℕ) (bytes : List ℕ) → (first : List ℕ) × (more : List (List ℕ)) × (pieces_of byte bytes ≡ first ∷ more)
some_piece byte [] = ([], [], refl)
some_piece byte (b ∷ bytes) =
    let parts = some_piece byte bytes in
    elim (eqb_tells b byte) [
      | inl same ↦ ([], pieces_of byte bytes, ap (λ (v : Bool). cond v ([] ∷ pieces_of byte bytes) (onto_first b (pieces_of byte bytes))) same.0)
      | inr differs ↦ (b ∷ parts.0, parts.1, slice_split-cons_no (λ x. eqb x byte) b bytes differs.0 ∙ ap (λ (l : List (List ℕ)). onto_first b l) parts.2)
    ]

-- how many pieces there are
pub length-pieces_of : (byte : ℕ) (bytes : List ℕ) → (1 ≤ length (pieces_of byte bytes)) × (length (pieces_of byte bytes) ≤ length bytes + 1)
length-pieces_of byte bytes =
    let p = λ (b : ℕ). eqb b byte in
    (omega (arith, length-slice_split p bytes), omega (arith, length-slice_split p bytes, count_by-le-length p bytes))
