-- How bytes become a piece of a head: a line, or a part of it.
use Rattle.std.proofs.Common.{◌≡◌, ℕ, ◌+◌, ◌-◌, ◌<◌, ◌≤◌, inl, inr, suc, true, get_or, List, [], ◌∷◌, ◌++◌, length, take, drop, sym, ap, ◌∙◌, subst, arith, append_assoc, length-append, length-drop, drop-cons, take-append-drop}
use Rattle.std.specs.List.{slice_range}
use Rattle.std.proofs.lemmas.Bool.{cases_lt}
use Rattle.std.proofs.lemmas.List.{take_all, drop_all, length-take, get_or-take, take-take, take-append-le}
use Rattle.std.proofs.Math.Dec.{eqb}
use Rattle.std.proofs.Math.Seq.{take-add, take-append-add, take-append_seam}
use Rattle.pm_base.specs.Lines.{HasNoLineFeed}
use Rattle.pm_outside.proofs.LineLemmas.{none_before, none_at_all, none_at_all_take}
use Rattle.pm_http.specs.declared.piece.Piece.{Piece}
use Rattle.pm_http.specs.declared.piece.Piece.TheVariants.{Line, Part, End, Limit}
use Rattle.pm_http.specs.Piece.{IsPiece, EndsAs, Moves}
use Rattle.pm_http.proofs.GatherLemmas.{parts}

-- Bytes after which room was made are still the first.
pub still_front : (old new rest : List ℕ) (at k : ℕ) → at ≡ length old → new ≡ take (at + k) old ++ rest → take at new ≡ old
still_front old new rest at k size is =
    let wide : length old ≤ at + k = omega (arith, size) in
    let same : new ≡ old ++ rest = is ∙ ap (λ (t : List ℕ). t ++ rest) (take_all (at + k) old wide) in
    ap (take at) same ∙ ap (λ (n : ℕ). take n (old ++ rest)) size ∙ take-append_seam old rest

-- A prefix of bytes without a line feed has none.
plain_front : (n : ℕ) (front rest : List ℕ) → length front ≤ n → HasNoLineFeed (take n (front ++ rest)) → HasNoLineFeed front
plain_front n front rest few plain =
    let sizes : length front + (n - length front) ≡ n = omega (arith, few) in
    let whole : take n (front ++ rest) ≡ front ++ take (n - length front) rest =
    ap (λ (k : ℕ). take k (front ++ rest)) (sym sizes) ∙ take-append-add front rest (n - length front) in
    subst HasNoLineFeed (take-append_seam front (take (n - length front) rest))
    (none_at_all_take (length front) (front ++ take (n - length front) rest) (subst HasNoLineFeed whole plain))

-- Bytes of which only the last may be a line feed, and which end with none, have none.
plain_part : (new old bytes : List ℕ) → new ≡ old ++ bytes → EndsAs new Part → HasNoLineFeed (take (length bytes - 1) bytes) → HasNoLineFeed bytes
plain_part new old bytes grown other before k d lt is = elim (cases_lt k (length bytes - 1)) [
  | inl less ↦ (
      let below : k < length (take (length bytes - 1) bytes) = omega (arith, less, length-take (length bytes - 1) bytes) in
      before k d below (get_or-take (length bytes - 1) bytes k d less ∙ is)
      )
  | inr last ↦ (
      let none : length bytes ≤ suc k = omega (arith, last, lt) in
      let ends : bytes ≡ take k bytes ++ 10 ∷ [] =
      sym (take-append-drop k bytes) ∙ ap (λ (t : List ℕ). take k bytes ++ t) (drop-cons bytes k d lt ∙ ap (λ (b : ℕ). b ∷ drop (suc k) bytes) is ∙ ap (λ (t : List ℕ). 10 ∷ t) (drop_all (suc k) bytes none)) in
      other (old ++ take k bytes) (grown ∙ ap (λ (t : List ℕ). old ++ t) ends ∙ sym (append_assoc old (take k bytes) (10 ∷ [])))
      )
]

-- The first of bytes of which only the last may be a line feed.
plain_before : (most : ℕ) (bytes rest : List ℕ) → length bytes ≤ most → HasNoLineFeed (take (most - 1) (bytes ++ rest))
    → HasNoLineFeed (take (length bytes - 1) bytes)
plain_before most bytes rest few plain =
    let front = take (length bytes - 1) bytes in
    let back = drop (length bytes - 1) bytes in
    let less : length front ≤ most - 1 = omega (arith, few, length-take (length bytes - 1) bytes) in
    let whole : bytes ++ rest ≡ front ++ (back ++ rest) =
    ap (λ (t : List ℕ). t ++ rest) (sym (take-append-drop (length bytes - 1) bytes)) ∙ append_assoc front back rest in
    plain_front (most - 1) front (back ++ rest) less (subst (λ (t : List ℕ). HasNoLineFeed (take (most - 1) t)) whole plain)

-- What was moved is a line or a part of one, as it ends.
piece_is : (most : ℕ) (new old bytes rest : List ℕ) (piece : Piece) → new ≡ old ++ bytes → 0 < length bytes → length bytes ≤ most
    → HasNoLineFeed (take (most - 1) (bytes ++ rest)) → EndsAs new piece → IsPiece piece bytes
piece_is most new old bytes rest Line grown some few plain ends =
    let sizes = ap length (sym grown ∙ ends.1) in
    let le : length old ≤ length ends.0 = omega (arith, some, sizes, length-append old bytes, length-append ends.0 (10 ∷ [])) in
    let p = parts old bytes ends.0 (10 ∷ []) (sym grown ∙ ends.1) le in
    let less : length p.0 ≤ most - 1 = omega (arith, few, ap length p.2, length-append p.0 (10 ∷ [])) in
    let whole : bytes ++ rest ≡ p.0 ++ (10 ∷ rest) = ap (λ (t : List ℕ). t ++ rest) p.2 ∙ append_assoc p.0 (10 ∷ []) rest in
    (p.0, p.2, plain_front (most - 1) p.0 (10 ∷ rest) less (subst (λ (t : List ℕ). HasNoLineFeed (take (most - 1) t)) whole plain))
piece_is most new old bytes rest Part grown some few plain ends =
    plain_part new old bytes grown ends (plain_before most bytes rest few plain)
piece_is most new old bytes rest End grown some few plain ends = absurd ends
piece_is most new old bytes rest Limit grown some few plain ends = absurd ends

no_end : (bytes : List ℕ) (piece : Piece) → EndsAs bytes piece → piece ≡ End → ⊥
no_end bytes Line ends e = cc
no_end bytes Part ends e = cc
no_end bytes End ends e = ends
no_end bytes Limit ends e = ends

pub moved-piece : (old before buffer after new : List ℕ) (at n most : ℕ) (piece : Piece) → take at buffer ≡ old → 0 < n → n ≤ most
    → at + n ≤ length buffer → before ≡ slice_range buffer at (at + n) ++ after → new ≡ take (at + n) buffer
    → HasNoLineFeed (take (most - 1) before) → EndsAs new piece → Moves old before new after piece
moved-piece old before buffer after new at n most piece front some few fits split is plain ends =
    let count : n ≡ at + n - at = omega arith in
    let bytes = slice_range buffer at (at + n) in
    let size : length bytes ≡ n = omega (arith, fits, length-take (at + n - at) (drop at buffer), length-drop at buffer) in
    let grown : new ≡ old ++ bytes =
    is ∙ take-add at n buffer ∙ ap (λ (t : List ℕ). t ++ take n (drop at buffer)) front ∙ ap (λ (k : ℕ). old ++ take k (drop at buffer)) count in record {
      bytes = bytes;
      is =
          piece_is most new old bytes after piece grown (omega (arith, some, size)) (omega (arith, few, size))
          (subst (λ (t : List ℕ). HasNoLineFeed (take (most - 1) t)) split plain) ends;
      grown = grown;
      split = split;
      ended = λ e. absurd (no_end new piece ends e);
    }

-- Of what is left, the first bytes are those that are held.
pub plain_held : (most : ℕ) (held left : List ℕ) → most ≤ length held + 1 → HasNoLineFeed (take (most - 1) held) → HasNoLineFeed (take (most - 1) (held ++ left))
plain_held most held left within plain =
    let le : most - 1 ≤ length held = omega (arith, within) in
    subst HasNoLineFeed (sym (take-append-le (most - 1) held left le)) plain

-- A line feed was found among the first bytes that are held, or none.
pub plain_to_found : (held first : List ℕ) (at : ℕ) → first ≡ take 2049 held → at < length first
    → ((k : ℕ) → 0 ≤ k → k < at → eqb (get_or first k 0) 10 ≡ true → ⊥) → HasNoLineFeed (take (at + 1 - 1) held)
plain_to_found held first at is within none =
    let le : at ≤ 2049 = omega (arith, within, ap length is, length-take 2049 held) in
    let count : at ≡ at + 1 - 1 = omega arith in
    let plain = none_before first at at (omega arith) within none in
    subst (λ (k : ℕ). HasNoLineFeed (take k held)) count (subst HasNoLineFeed (ap (take at) is ∙ take-take at 2049 held le) plain)

pub plain_first : (held first : List ℕ) → first ≡ take 2049 held → ((k : ℕ) → 0 ≤ k → k < length first → eqb (get_or first k 0) 10 ≡ true → ⊥)
    → HasNoLineFeed (take (length first - 1) held)
plain_first held first is none =
    let le : length first - 1 ≤ 2049 = omega (arith, ap length is, length-take 2049 held) in
    let plain = none_at_all_take (length first - 1) first (none_at_all first none) in
    subst HasNoLineFeed (ap (take (length first - 1)) is ∙ take-take (length first - 1) 2049 held le) plain

-- Some more bytes of a buffer are filled.
pub filled-more : (all left left2 body now : List ℕ) (at n : ℕ) → all ≡ take at body ++ left → left ≡ slice_range now at (at + n) ++ left2
    → take at now ≡ take at body → all ≡ take (at + n) now ++ left2
filled-more all left left2 body now at n was split front =
    let count : n ≡ at + n - at = omega arith in
    let grown : take (at + n) now ≡ take at body ++ slice_range now at (at + n) =
    take-add at n now ∙ ap (λ (t : List ℕ). t ++ take n (drop at now)) front ∙ ap (λ (k : ℕ). take at body ++ take k (drop at now)) count in
    was ∙ ap (λ (t : List ℕ). take at body ++ t) split ∙ sym (append_assoc (take at body) (slice_range now at (at + n)) left2)
    ∙ ap (λ (t : List ℕ). t ++ left2) (sym grown)
