-- What one piece more tells of the head.
use Rattle.std.proofs.Common.{◌≡◌, ◌≢◌, ℕ, ◌+◌, ◌-◌, ◌<◌, ◌≤◌, ◌⊎◌, inl, inr, Bool, true, false, List, [], ◌∷◌, ◌++◌, length, take, drop, refl, sym, ap, ◌∙◌, subst, arith, append_assoc, append-nil, length-append, length-drop, take-append-drop, take_all}
use Rattle.std.specs.List.{slice_range}
use Rattle.std.proofs.lemmas.Bool.{cases_lt}
use Rattle.std.proofs.lemmas.List.{take-append-le, length-take}
use Rattle.std.proofs.lemmas.List.Elements.{All-append}
use Rattle.std.proofs.Math.Seq.{take-append-add, drop-append_seam}
use Rattle.httparse.specs.Grammar.{RequestHead, print_request, ReadsRequest, HasNoRequest, NeverHasRequest}
use Rattle.httparse.specs.declared.spans.HeaderSpan.{HeaderSpan}
use Rattle.httparse.specs.declared.spans.RequestSpans.{RequestSpans}
use Rattle.httparse.proofs.GrammarLemmas.{ReadsRequest-append}
use Rattle.pm_base.specs.Lines.{HasNoLineFeed}
use Rattle.pm_http.specs.declared.piece.Piece.{Piece}
use Rattle.pm_http.specs.declared.piece.Piece.TheVariants.{Line, Part, End, Limit}
use Rattle.pm_http.specs.declared.sight.Sight.TheVariants as sight
use Rattle.pm_http.specs.declared.head_end.HeadEnd.TheVariants as ends
use Rattle.pm_http.specs.Stream.{looked_at, IsUnfinished, EndsInHead}
use Rattle.pm_http.specs.Piece.{HasNoSpace, IsBegun, EndsBlank, IsSight, IsParsed, IsLast, MayGrow, Moves, Gathers, Grows, EndsHead}
use Rattle.pm_http.proofs.HeadLemmas.{whole_from_front, never_grows}
use Rattle.pm_http.proofs.GatherLemmas.{no_head-nothing, no_head-part, no_head-line, no_head-spaceless, head_ends-line}

-- The first bytes of a front are a front of the first bytes.
pub take_front : (n : ℕ) (front rest : List ℕ) → (more : List ℕ) × (take n (front ++ rest) ≡ take n front ++ more)
take_front n front rest =
    elim (cases_lt n (length front)) [
      | inl less ↦ (
          let le : n ≤ length front = omega (arith, less) in
          ([], take-append-le n front rest le ∙ sym (append-nil (take n front)))
          )
      | inr more ↦ (
          let whole : length front + (n - length front) ≡ n = omega (arith, more) in
          (take (n - length front) rest, ap (λ (k : ℕ). take k (front ++ rest)) (sym whole) ∙ take-append-add front rest (n - length front) ∙ ap (λ (t : List ℕ). t ++ take (n - length front) rest) (sym (take_all n front more)))
          )
    ]

-- What the first bytes that are gathered tell, the first of all bytes tell.
pub never_front : (n : ℕ) (all front rest : List ℕ) → all ≡ front ++ rest → NeverHasRequest (take n front) → NeverHasRequest (take n all)
never_front n all front rest split never =
    let f = take_front n front rest in
    subst NeverHasRequest (sym (ap (take n) split ∙ f.1)) (never_grows (take n front) f.0 never)

pub head_front : (n : ℕ) (all front rest : List ℕ) → all ≡ front ++ rest → (h : RequestHead) (after : List ℕ)
    → ReadsRequest (take n front) h after → (more : List ℕ) × ReadsRequest (take n all) h more
head_front n all front rest split h after reads =
    let f = take_front n front rest in
    (after ++ f.0, subst (λ (t : List ℕ). ReadsRequest t h (after ++ f.0)) (sym (ap (take n) split ∙ f.1)) (ReadsRequest-append (take n front) h after f.0 reads))

pub first_piece : (all : List ℕ) → Gathers all [] all
first_piece all = record { split = refl; none = no_head-nothing }

-- A piece that was moved.
pub moved : (all old left gathered left2 : List ℕ) (piece : Piece) → Gathers all old left → length old < 16384 → Moves old left gathered left2 piece
    → Grows all gathered left2 piece
moved all old left gathered left2 piece gathers few moves = record {
  old = old;
  bytes = moves.bytes;
  none = gathers.none;
  few = few;
  is = moves.is;
  grown = moves.grown;
  split = gathers.split ∙ ap (λ (t : List ℕ). old ++ t) moves.split ∙ sym (append_assoc old moves.bytes left2) ∙ ap (λ (t : List ℕ). t ++ left2) (sym moves.grown);
  ended = λ end. nothing moves.bytes left2 (sym moves.split ∙ moves.ended end);
}
  where
    nothing : (a b : List ℕ) → a ++ b ≡ [] → b ≡ []
    nothing [] b e = e
    nothing (x ∷ a) b e = cc

-- Whether the head is begun after a piece that was moved.
pub begun_on : (was now : Bool) (old left gathered left2 : List ℕ) (piece : Piece)
    → (now ≡ false → (was ≡ false) × HasNoSpace (slice_range gathered (length old) (length gathered))) → IsBegun was old
    → Moves old left gathered left2 piece → IsBegun now gathered
begun_on was now old left gathered left2 piece still begun moves = λ is.
    let same = still is in
    let le : length (drop (length old) gathered) ≤ length gathered - length old = omega (arith, length-drop (length old) gathered) in
    let added = take_all (length gathered - length old) (drop (length old) gathered) le ∙ ap (drop (length old)) moves.grown ∙ drop-append_seam old moves.bytes in
    subst HasNoSpace (sym moves.grown) (All-append (λ b. b ≢ 32) old moves.bytes (begun same.0) (subst HasNoSpace added same.1))

-- A line that ends no empty line, or comes before the head is begun, completes no head. Nor does a part of a line.
pub no_head-Line : (all gathered left : List ℕ) (begun : Bool) → Grows all gathered left Line → IsBegun begun gathered
    → (begun ≡ false) ⊎ (EndsBlank gathered → ⊥) → HasNoRequest gathered
no_head-Line all gathered left begun g is open_head =
    let whole : gathered ≡ g.old ++ (g.is.0 ++ 10 ∷ []) = g.grown ∙ ap (λ (t : List ℕ). g.old ++ t) g.is.1 in
    elim open_head [
      | inl early ↦ no_head-spaceless gathered (is early)
      | inr other ↦ subst HasNoRequest (sym whole) (no_head-line g.old g.is.0 g.none g.is.2 (λ e. other (subst EndsBlank (sym whole) e)))
    ]

pub no_head-Part : (all gathered left : List ℕ) → Grows all gathered left Part → Gathers all gathered left
no_head-Part all gathered left g = record {
  split = g.split;
  none = subst HasNoRequest (sym g.grown) (no_head-part g.old g.bytes g.none g.is);
}

-- A head that a piece completes is all that is gathered.
whole_line : (gathered old bytes line : List ℕ) → HasNoRequest old → gathered ≡ old ++ bytes → bytes ≡ line ++ 10 ∷ [] → HasNoLineFeed line
    → (h : RequestHead) (rest : List ℕ) → ReadsRequest gathered h rest → gathered ≡ print_request h
whole_line gathered old bytes line none grown is plain h rest reads =
    let same : gathered ≡ old ++ (line ++ 10 ∷ []) = grown ∙ ap (λ (t : List ℕ). old ++ t) is in
    let e = head_ends-line old line h rest none plain (subst (λ (t : List ℕ). ReadsRequest t h rest) same reads) in
    same ∙ sym (append_assoc old line (10 ∷ [])) ∙ sym e.1

pub all_gathered : (all gathered left : List ℕ) (piece : Piece) → (IsLast piece → ⊥) → Grows all gathered left piece
    → (h : RequestHead) (rest : List ℕ) → ReadsRequest gathered h rest → gathered ≡ print_request h
all_gathered all gathered left Line on g h rest reads =
    whole_line gathered g.old g.bytes g.is.0 g.none g.grown g.is.1 g.is.2 h rest reads
all_gathered all gathered left Part on g h rest reads = absurd ((no_head-Part all gathered left g).none h rest reads)
all_gathered all gathered left End on g h rest reads = absurd (on tt)
all_gathered all gathered left Limit on g h rest reads = absurd (on tt)

short_front : (bytes : List ℕ) → length (take 16384 bytes) ≤ 16384
short_front bytes = omega (arith, length-take 16384 bytes)

-- What the first bytes show of the head, the gathered ones show.
pub parsed : (bytes : List ℕ) (fields : List HeaderSpan) (spans : RequestSpans) → IsSight (looked_at bytes) fields (sight.Whole spans)
    → IsParsed bytes fields spans
parsed bytes fields spans is =
    let grown = whole_from_front 16384 bytes fields spans (is.0, is.2) in record {
      within = grown.0;
      few = is.1;
      short = omega (arith, is.0.section.len_fits, short_front bytes);
    }

pub ends-Whole : (all gathered left : List ℕ) (fields : List HeaderSpan) (spans : RequestSpans) (piece : Piece) → (IsLast piece → ⊥)
    → Grows all gathered left piece → IsSight (looked_at gathered) fields (sight.Whole spans) → EndsHead all gathered left fields (ends.Whole spans)
ends-Whole all gathered left fields spans piece on g is =
    let grown = whole_from_front 16384 gathered fields spans (is.0, is.2) in
    let h = grown.1.0 in
    let at = grown.1.1 in
    let whole = all_gathered all gathered left piece on g h (drop spans.len gathered) at.reads in
    let sizes = ap length whole in record {
      head = h;
      split = g.split;
      at = at;
      whole = whole;
      short = omega (arith, at.len, sizes, is.0.section.len_fits, short_front gathered);
    }

pub ends-Crowded : (all gathered left : List ℕ) (fields : List HeaderSpan) (piece : Piece) → Grows all gathered left piece
    → IsSight (looked_at gathered) fields sight.Crowded → EndsHead all gathered left fields ends.Crowded
ends-Crowded all gathered left fields piece g is =
    (is.0, head_front 16384 all gathered left g.split is.0 is.1 is.2, is.3)

pub ends-Never : (all gathered left : List ℕ) (fields : List HeaderSpan) (piece : Piece) → Grows all gathered left piece
    → IsSight (looked_at gathered) fields sight.Never → EndsHead all gathered left fields ends.Never
ends-Never all gathered left fields piece g is = never_front 16384 all gathered left g.split is

pub ends-Long : (all gathered left : List ℕ) (fields : List HeaderSpan) (piece : Piece) → Grows all gathered left piece → 16384 ≤ length gathered
    → IsSight (looked_at gathered) fields sight.More → EndsHead all gathered left fields ends.Long
ends-Long all gathered left fields piece g many is = (
  omega (arith, many, ap length g.split, length-append gathered left),
  subst IsUnfinished (sym (ap (take 16384) g.split ∙ take-append-le 16384 gathered left many)) is,
)

pub goes_on : (all gathered left : List ℕ) (fields : List HeaderSpan) (piece : Piece) → Grows all gathered left piece → length gathered < 16384
    → IsSight (looked_at gathered) fields sight.More → Gathers all gathered left
goes_on all gathered left fields piece g few is =
    let le : length gathered ≤ 16384 = omega (arith, few) in record {
      split = g.split;
      none = subst HasNoRequest (take_all 16384 gathered le) is.none;
    }

-- At the end of the input all bytes are gathered, and hold no head.
at_the_end : (all gathered left : List ℕ) → Grows all gathered left End → all ≡ gathered
at_the_end all gathered left g = g.split ∙ ap (λ (t : List ℕ). gathered ++ t) (g.ended refl) ∙ append-nil gathered

-- Nothing was moved, and the gathered bytes may become a head.
still_in_head : (gathered old bytes : List ℕ) → gathered ≡ old ++ bytes → bytes ≡ [] → HasNoRequest old → length old < 16384 → MayGrow gathered true
    → EndsInHead gathered
still_in_head gathered old bytes grown is none few may =
    let same : gathered ≡ old = grown ∙ ap (λ (t : List ℕ). old ++ t) is ∙ append-nil old in
    may (subst HasNoRequest (sym same) none) (omega (arith, ap length same, few))

pub ends-Short : (all gathered left : List ℕ) (fields : List HeaderSpan) → Grows all gathered left End → 0 < length gathered
    → MayGrow gathered true → EndsHead all gathered left fields ends.Short
ends-Short all gathered left fields g some may =
    let same = at_the_end all gathered left g in (
      omega (arith, ap length same, some),
      subst EndsInHead (sym same) (still_in_head gathered g.old g.bytes g.grown g.is g.none g.few may),
      g.ended refl,
    )

pub ends-Limit : (all gathered left : List ℕ) (fields : List HeaderSpan) → Grows all gathered left Limit → MayGrow gathered true
    → EndsHead all gathered left fields ends.Limit
ends-Limit all gathered left fields g may = still_in_head gathered g.old g.bytes g.grown g.is g.none g.few may

-- A whole head in the first bytes stands at the front of all.
pub reads_all : (n : ℕ) (bytes : List ℕ) (h : RequestHead) (rest : List ℕ) → ReadsRequest (take n bytes) h rest → ReadsRequest bytes h (rest ++ drop n bytes)
reads_all n bytes h rest reads =
    subst (λ (t : List ℕ). ReadsRequest t h (rest ++ drop n bytes)) (take-append-drop n bytes) (ReadsRequest-append (take n bytes) h rest (drop n bytes) reads)

-- What the first bytes show of the head tells whether more bytes may make one.
pub may-Whole : (bytes : List ℕ) (fields : List HeaderSpan) (spans : RequestSpans) → IsSight (looked_at bytes) fields (sight.Whole spans) → MayGrow bytes true
may-Whole bytes fields spans is = λ none few. absurd (none is.2.0 _ (reads_all 16384 bytes is.2.0 _ is.2.1.reads))

pub may-Crowded : (bytes : List ℕ) (fields : List HeaderSpan) → IsSight (looked_at bytes) fields sight.Crowded → MayGrow bytes true
may-Crowded bytes fields is = λ none few. absurd (none is.0 _ (reads_all 16384 bytes is.0 is.1 is.2))

pub may-More : (bytes : List ℕ) (fields : List HeaderSpan) → IsSight (looked_at bytes) fields sight.More → MayGrow bytes true
may-More bytes fields is = λ none few.
    let le : length bytes ≤ 16384 = omega (arith, few) in record {
      few = few;
      unended = subst IsUnfinished (take_all 16384 bytes le) is;
    }

pub ends-Nothing : (all gathered left : List ℕ) (fields : List HeaderSpan) → Grows all gathered left End → gathered ≡ []
    → EndsHead all gathered left fields ends.Nothing
ends-Nothing all gathered left fields g none = (at_the_end all gathered left g ∙ none, g.ended refl)
