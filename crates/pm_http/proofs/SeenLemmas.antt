-- What was looked at of the bytes that are gathered.
use Rattle.std.proofs.Common.{◌≡◌, ℕ, ◌*◌, ◌<◌, ◌≤◌, ◌⊎◌, inl, inr, List, [], length, take, sym, ap, ◌∙◌, subst, arith, length-append}
use Rattle.std.proofs.lemmas.List.{take_all, take-append-le}
use Rattle.httparse.specs.Grammar.{MayBecomeRequest}
use Rattle.pm_http.specs.declared.piece.Piece.{Piece}
use Rattle.pm_http.specs.Stream.{EndsInHead, MayBegin}
use Rattle.pm_http.specs.Piece.{IsSeen, Moves}
use Rattle.pm_http.proofs.StreamLawLemmas.{nothing_in_head}

pub seen_nothing : IsSeen 0 []
seen_nothing = record { within = omega arith; may = nothing_in_head.unended.may }

-- What was looked at stays so where more is gathered.
pub seen_on : (seen : ℕ) (old left gathered left2 : List ℕ) (piece : Piece) → IsSeen seen old → Moves old left gathered left2 piece → IsSeen seen gathered
seen_on seen old left gathered left2 piece is moves = record {
  within = omega (arith, is.within, ap length moves.grown, length-append old moves.bytes);
  may = subst MayBecomeRequest (sym (ap (take seen) moves.grown ∙ take-append-le seen old moves.bytes is.within)) is.may;
}

-- All is looked at.
pub seen_all : (seen : ℕ) (bytes : List ℕ) → seen ≡ length bytes → EndsInHead bytes → IsSeen seen bytes
seen_all seen bytes all ends =
    let most : length bytes ≤ seen = omega (arith, all) in record {
      within = omega (arith, all);
      may = subst MayBecomeRequest (sym (take_all seen bytes most)) ends.unended.may;
    }

pub begins_all : (seen : ℕ) (bytes : List ℕ) → seen ≡ length bytes → IsSeen seen bytes → MayBegin bytes
begins_all seen bytes all is = record {
  seen = seen;
  within = is.within;
  half = omega (arith, all);
  soon = λ few. all;
  may = is.may;
}

-- Enough is looked at.
pub begins_not_due : (seen : ℕ) (bytes : List ℕ) → (length bytes ≤ seen) ⊎ ((1024 < length bytes) × (length bytes ≤ 2 * seen)) → IsSeen seen bytes
    → MayBegin bytes
begins_not_due seen bytes enough is = elim enough [
  | inl whole ↦ begins_all seen bytes (omega (arith, whole, is.within)) is
  | inr half ↦ record {
    seen = seen;
    within = is.within;
    half = half.1;
    soon = λ few. absurd (omega (arith, few, half.0));
    may = is.may;
  }
]
