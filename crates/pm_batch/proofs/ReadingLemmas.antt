-- A body whose lines are read one by one.
use Rattle.std.proofs.Common.{◌≡◌, ◌+◌, ◌-◌, ◌<◌, ◌≤◌, ℕ, List, [], ◌∷◌, ◌++◌, length, map, Result, Ok, Err, refl, sym, ◌∙◌, ap, subst, arith, append_assoc, length-append}
use Rattle.std.specs.List.{join_with_byte}
use Rattle.std.proofs.lemmas.List.{append-nil}
use Rattle.std.proofs.lemmas.List.Elements.{All-nil, All-push}
use Rattle.std.proofs.lemmas.List.Splits.{join_with_byte-slice_split}
use Rattle.pm_base.proofs.PiecesLemmas.{some_piece}
use Rattle.pm_base.specs.Lines.{lines_of, lines_of_parts}
use Rattle.pm_base.specs.Pieces.{pieces_of}
use Rattle.pm_base.specs.declared.code.Code.{Code}
use Rattle.pm_inventory.specs.Slot.{Slot}
use Rattle.pm_events.specs.BatchLine.{read_hit}
use Rattle.pm_events.specs.declared.hit.Hit.{Hit}
use Rattle.pm_batch.specs.declared.batch_error.BatchError.{BatchError}
use Rattle.pm_batch.specs.declared.batch_error.BatchError.TheVariants.{Refused, Memory}
use Rattle.pm_batch.specs.Reading.{Refusal, with_hit, with_line, read_lines, read_batch, Tells, AreOfSlots, AddsHit, IsFirstRefused, IsWholeOrRefused}
use Rattle.std.specs.Prelude.{MatchResult}

-- A line that is cut off, and what follows it.
pub lines-cut : (bytes line behind : List ℕ) → pieces_of 10 bytes ≡ line ∷ pieces_of 10 behind → lines_of bytes ≡ line ∷ lines_of behind
lines-cut bytes line behind is =
    let some = some_piece 10 behind in
    ap lines_of_parts (is ∙ ap (λ (l : List (List ℕ)). line ∷ l) some.2) ∙ ap (λ (l : List (List ℕ)). line ∷ lines_of_parts l) (sym some.2)

pub cut-shorter : (bytes line behind : List ℕ) → pieces_of 10 bytes ≡ line ∷ pieces_of 10 behind → length behind < length bytes
cut-shorter bytes line behind is =
    let some = some_piece 10 behind in
    let whole : bytes ≡ line ++ 10 ∷ behind =
    sym (join_with_byte-slice_split 10 bytes) ∙ ap (join_with_byte 10) (is ∙ ap (λ (l : List (List ℕ)). line ∷ l) some.2)
    ∙ ap (λ (l : List (List ℕ)). line ++ 10 ∷ join_with_byte 10 l) (sym some.2)
    ∙ ap (λ (l : List ℕ). line ++ 10 ∷ l) (join_with_byte-slice_split 10 behind) in
    omega (arith, ap length whole, length-append line (10 ∷ behind))

-- hits that were read in front of what the other lines say
pub ahead : List Hit → Result (List Hit) Refusal → Result (List Hit) Refusal
ahead hits (Ok more) = Ok (hits ++ more)
ahead hits (Err refusal) = Err refusal

ahead-none : (r : Result (List Hit) Refusal) → r ≡ ahead [] r
unfolding ahead
ahead-none (Ok more) = refl
ahead-none (Err refusal) = refl

ahead-more : (hits : List Hit) (hit : Hit) (r : Result (List Hit) Refusal) → ahead hits (with_hit hit r) ≡ ahead (hits ++ hit ∷ []) r
unfolding ahead
ahead-more hits hit (Ok more) = ap (λ (l : List Hit). Ok l) (sym (append_assoc hits (hit ∷ []) more))
ahead-more hits hit (Err refusal) = refl

-- The hits of the lines before the rest were read.
pub record HasRead (slots : List Slot) (body : List ℕ) (hits : List Hit) (rest : List ℕ) : Type 0 where
  pub reads : read_batch slots body ≡ ahead hits (read_lines slots (length hits) (lines_of rest))
  pub lines : length hits + length (lines_of rest) ≡ length (lines_of body)
  pub sound : AreOfSlots (length slots) hits
  pub room : length hits + length rest ≤ length body

pub has_read-none : (slots : List Slot) (body : List ℕ) (hits : List Hit) → hits ≡ [] → HasRead slots body hits body
has_read-none slots body hits none =
    subst (λ (l : List Hit). HasRead slots body l body) (sym none)
    (record {
      reads = ahead-none (read_batch slots body);
      lines = omega arith;
      sound = All-nil (λ hit. (hit.slot < length slots) × (hit.value ≤ 1048575));
      room = omega arith;
    })

-- one more line
pub has_read-more : (slots : List Slot) (body : List ℕ) (hits new : List Hit) (rest line behind : List ℕ) → HasRead slots body hits rest → lines_of rest ≡ line ∷ lines_of behind → length behind < length rest → AddsHit slots line hits new → HasRead slots body new behind
has_read-more slots body hits new rest line behind read next shorter adds =
    let hit = adds.hit in
    let more : length new ≡ length hits + 1 = omega (arith, ap length adds.added, length-append hits (hit ∷ [])) in
    let others = read_lines slots (length hits + 1) (lines_of behind) in
    record {
      reads =
          read.reads
          ∙ ap (λ (l : List (List ℕ)). ahead hits (read_lines slots (length hits) l)) next
          ∙ ap (λ (r : Result Hit Code). ahead hits (with_line (length hits + 1) r others)) adds.reads
          ∙ ahead-more hits hit others
          ∙ ap (λ (l : List Hit). ahead l others) (sym adds.added)
          ∙ ap (λ (n : ℕ). ahead new (read_lines slots n (lines_of behind))) (sym more);
      lines = omega (arith, read.lines, ap length next, more);
      sound = subst (AreOfSlots (length slots)) (sym adds.added) (All-push (λ hit. (hit.slot < length slots) × (hit.value ≤ 1048575)) hits hit read.sound (adds.slot, adds.value));
      room = omega (arith, read.room, shorter, more);
    }

-- no line is left
pub has_read-all : (slots : List Slot) (body : List ℕ) (hits : List Hit) (rest : List ℕ) → HasRead slots body hits rest → lines_of rest ≡ [] → (read_batch slots body ≡ Ok hits) × (length hits ≡ length (lines_of body))
unfolding ahead
has_read-all slots body hits rest read none =
    (read.reads ∙ ap (λ (l : List (List ℕ)). ahead hits (read_lines slots (length hits) l)) none ∙ ap (λ (l : List Hit). Ok l) (append-nil hits), omega (arith, read.lines, ap length none))

-- the next line is refused
pub has_read-refused : (slots : List Slot) (body : List ℕ) (hits : List Hit) (rest line behind : List ℕ) (e : BatchError) → HasRead slots body hits rest → lines_of rest ≡ line ∷ lines_of behind → ((others : Result (List Hit) Refusal) → Tells e (with_line (length hits + 1) (read_hit slots line) others)) → Tells e (read_batch slots body)
unfolding ahead
has_read-refused slots body hits rest line behind Memory read next told = tt
has_read-refused slots body hits rest line behind (Refused number code) read next told =
    read.reads
    ∙ ap (λ (l : List (List ℕ)). ahead hits (read_lines slots (length hits) l)) next
    ∙ ap (ahead hits) (told (read_lines slots (length hits + 1) (lines_of behind)))

ok : Hit → Result Hit Code
ok hit = Ok hit

-- lines behind so many others: all of them are read, or the first that is refused is told
AreToldFrom : List Slot → ℕ → List (List ℕ) → Result (List Hit) Refusal → Type 0
AreToldFrom table before lines (Ok hits) = map (read_hit table) lines ≡ map ok hits
AreToldFrom table before lines (Err refusal) = IsFirstRefused table lines (record { line = refusal.line - before; code = refusal.code }) × (before < refusal.line)

told-from : (table : List Slot) (before : ℕ) (lines : List (List ℕ)) → AreToldFrom table before lines (read_lines table before lines)
unfolding AreToldFrom ok
told-from table before [] = refl
told-from table before (line ∷ lines) = by (read_hit table line) refl (read_lines table (before + 1) lines) (told-from table (before + 1) lines) where
  by : (r : Result Hit Code) → read_hit table line ≡ r → (others : Result (List Hit) Refusal) → AreToldFrom table (before + 1) lines others → AreToldFrom table before (line ∷ lines) (with_line (before + 1) r others)
  by (Ok hit) own (Ok hits) rest = ap (λ (x : Result Hit Code). x ∷ map (read_hit table) lines) own ∙ ap (λ (xs : List (Result Hit Code)). Ok hit ∷ xs) rest
  by (Ok hit) own (Err refusal) rest =
      let first = rest.0 in (
        record {
          good = line ∷ first.good;
          line = first.line;
          more = first.more;
          hits = hit ∷ first.hits;
          lines_are = ap (λ (l : List (List ℕ)). line ∷ l) first.lines_are;
          good_are = ap (λ (x : Result Hit Code). x ∷ map (read_hit table) first.good) own ∙ ap (λ (xs : List (Result Hit Code)). Ok hit ∷ xs) first.good_are;
          refused = first.refused;
          number = omega (arith, first.number, rest.1);
        },
        omega (arith, rest.1),
      )
  by (Err code) own others rest =
      (record { good = []; line = line; more = lines; hits = []; lines_are = refl; good_are = refl; refused = own; number = omega arith }, omega arith)

-- Of a batch all lines are read, or the first that is refused is told.
pub whole-or-refused : (table : List Slot) (body : List ℕ) → IsWholeOrRefused table body
unfolding AreToldFrom ok
whole-or-refused table body = by (read_batch table body) (told-from table 0 (lines_of body)) where
  by : (r : Result (List Hit) Refusal) → AreToldFrom table 0 (lines_of body) r → MatchResult r (λ hits. map (read_hit table) (lines_of body) ≡ map Ok hits) (IsFirstRefused table (lines_of body))
  by (Ok hits) told = told
  by (Err refusal) told =
      let same : refusal.line - 0 ≡ refusal.line = omega arith in
      subst (λ (n : ℕ). IsFirstRefused table (lines_of body) (record { line = n; code = refusal.code })) same told.0
