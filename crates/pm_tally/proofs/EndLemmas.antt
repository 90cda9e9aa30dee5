-- The ends of a tally.
use Rattle.std.proofs.Common.{◌≡◌, ◌+◌, ◌-◌, ◌<◌, ◌≤◌, ◌++◌, ◌∷◌, ℕ, Bool, cond, List, [], length, take, drop, Option, Some, None, Err, inl, inr, refl, sym, ◌∙◌, ap, subst, arith, append_assoc, length-append, length-drop, take-append-drop}
use Rattle.std.proofs.lemmas.List.{append-nil}
use Rattle.std.proofs.lemmas.Bool.{lt-leb}
use Rattle.pm_base.specs.Lines.{MOST_LINE, HasNoLineFeed, HasNoLine, lines_of}
use Rattle.pm_base.specs.Pieces.{words_of}
use Rattle.pm_base.specs.declared.code.Code.{Code}
use Rattle.pm_base.specs.declared.code.Code.TheVariants.{E1}
use Rattle.pm_outside.proofs.LinesLemmas.{lines_of-long, lines_of-last, lines_of-first}
use Rattle.pm_inventory.specs.Slot.{Slot}
use Rattle.pm_base.specs.WholeLines.{text_of_lines}
use Rattle.pm_events.specs.EventLine.{LineEvent, event_line, event_of_words}
use Rattle.pm_base.specs.Moment.{tick_of}
use Rattle.pm_tally.proofs.TallyLemmas.{all_lines-ended}
use Rattle.pm_events.specs.Event.{last_moment, events_of, event_of, refusal, refusal_of}
use Rattle.pm_events.specs.declared.event.Event.{Event}
use Rattle.pm_events.proofs.EventLemmas.{events_of-more}
use Rattle.pm_tally.specs.Tally.{good_lines, ended_lines, all_lines, tick_lines, tally_text}
use Rattle.pm_tally.specs.Taking.{TakesLine, WritesLine, WritesSome, stop_end}
use Rattle.pm_tally.specs.Finishing.{IsEnd, HasText, Finishes, TakesLast, WritesLast}
use Rattle.pm_base.specs.WholeLines.{TakesLines}
use Rattle.pm_inventory.proofs.WholeLinesLemmas.{takes-none, takes-next}
use Rattle.pm_outside.specs.Feed.{MOST_AHEAD, IsFirstLine}
use Rattle.pm_outside.specs.declared.feed.TheConstants.{MOST_READ}
use Rattle.pm_outside.specs.NextLine.{IsOneLine, IsLastLine, IsAtLimit}
use Rattle.pm_tally.specs.Outcome.{ran, IsRefused, IsStopped, IsInterrupted, IsTallied}
use Rattle.pm_tally.specs.declared.counting.Counting.{Counting}
use Rattle.pm_tally.specs.declared.taking.Stop.{Stop}
use Rattle.pm_tally.specs.declared.taking.Stop.TheVariants as stop
use Rattle.pm_tally.specs.declared.tally_end.TallyEnd.{TallyEnd}
use Rattle.pm_tally.specs.declared.tally_end.TallyEnd.TheVariants.{Done, Refused, TooLong, ReadFault, WriteFault, BadInventory, Memory}
use Rattle.pm_tally.proofs.TextLemmas.{IsOrdered, text-begins, text-good, text-refused, ordered-line, writes-longer}
use Rattle.pm_tally.proofs.TakingLemmas.{counts-ordered}
use Rattle.pm_tally.proofs.Progress.{Progress, begins-more, begins-refused, begins-all, progress-lines}

-- A last line is the one line that is left.
only_line : (line left : List ℕ) → HasNoLineFeed line → 0 < length line → left ≡ line → lines_of left ≡ line ∷ []
only_line line left none some is = ap lines_of is ∙ lines_of-last line none some

-- A line before a line feed is the first of what is left.
next_line : (left line rest : List ℕ) → HasNoLineFeed line → left ≡ line ++ 10 ∷ rest → lines_of left ≡ line ∷ lines_of rest
next_line left line rest none is = ap lines_of is ∙ lines_of-first line rest none

-- The next line is refused.
refused_line : (slots : List Slot) (first place : ℕ) (lines good behind : List (List ℕ)) (line : List ℕ) (code : Code) → lines ≡ good ++ line ∷ behind → good_lines slots lines ≡ good → refusal slots (events_of slots good) line ≡ Some code → place ≡ length good + first → IsRefused slots first lines place code
refused_line slots first place lines good behind line code split good_is refused numbered = record {
  line = line;
  rest = behind;
  split = split ∙ ap (λ (g : List (List ℕ)). g ++ line ∷ behind) (sym good_is);
  refused = subst (λ (g : List (List ℕ)). refusal slots (events_of slots g) line ≡ Some code) (sym good_is) refused;
  numbered = numbered ∙ ap (λ (g : List (List ℕ)). length g + first) (sym good_is);
}

pub end-refused : (slots : List Slot) (first given : ℕ) (all left : List ℕ) (counting : Counting) (place : ℕ) (IsTold : Type 0) (old new line rest now : List ℕ) (behind : List (List ℕ)) (code : Code) → (progress : Progress slots first all left counting place IsTold old new) → lines_of left ≡ line ∷ behind → refusal slots (events_of slots progress.good) line ≡ Some code → (IsTold → now ≡ new) → IsTallied slots first (ran given all rest IsTold old now) (Refused place code)
end-refused slots first given all left counting place IsTold old new line rest now behind code progress is refused kept =
    let good = progress.good in
    let split : lines_of all ≡ good ++ line ∷ behind = progress-lines slots first all left counting place IsTold old new progress ∙ ap (λ (l : List (List ℕ)). good ++ l) is in
    let good_is : good_lines slots (lines_of all) ≡ good = ap (good_lines slots) split ∙ begins-refused slots good line behind code progress.begins refused in
    let fewer : length good < length (lines_of all) = omega (arith, ap length split, length-append good (line ∷ behind)) in (
      refused_line slots first place (lines_of all) good behind line code split good_is refused progress.numbered,
      λ told. kept told ∙ progress.written told ∙ ap (λ (l : List ℕ). old ++ l) (sym (text-refused slots (lines_of all) good good_is fewer)),
    )

-- A line that is too long hasn't the form of an event.
long_refused : (slots : List Slot) (events : List Event) (line : List ℕ) → MOST_LINE < length line → refusal slots events line ≡ Some E1
long_refused slots events line long =
    let none : event_line line ≡ None = ap (λ (b : Bool). cond b (event_of_words (words_of line)) None) (lt-leb (length line) MOST_LINE long) in
    ap (λ (e : Option LineEvent). refusal_of slots events (event_of slots e)) none

pub end-long : (slots : List Slot) (first given : ℕ) (all left : List ℕ) (counting : Counting) (place : ℕ) (IsTold : Type 0) (old new rest now : List ℕ) → Progress slots first all left counting place IsTold old new → MOST_LINE < length left → HasNoLineFeed (take (MOST_LINE + 1) left) → (IsTold → now ≡ new) → IsTallied slots first (ran given all rest IsTold old now) (Refused place E1)
end-long slots first given all left counting place IsTold old new rest now progress long none kept =
    let parts = lines_of-long (MOST_LINE + 1) left (omega arith) (omega (arith, long)) none in
    end-refused slots first given all left counting place IsTold old new parts.0 rest now parts.1 E1 progress parts.2 (long_refused slots (events_of slots progress.good) parts.0 (omega (arith, parts.3))) kept

-- What was read is good, and what it ended is written.
stopped : (slots : List Slot) (first given : ℕ) (all left : List ℕ) (counting : Counting) (place : ℕ) (IsTold : Type 0) (old new now open_line end rest : List ℕ) → (progress : Progress slots first all left counting place IsTold old new) → left ≡ open_line ++ rest → HasNoLine open_line → (IsTold → now ≡ new) → IsStopped slots (ran given all end IsTold old now) rest
stopped slots first given all left counting place IsTold old new now open_line end rest progress is none kept = record {
  lines = progress.good;
  breaks_off = record {
    ones = progress.ones;
    open_line = open_line;
    may_go_on = none;
    split = progress.split ∙ ap (λ (l : List ℕ). text_of_lines progress.good ++ l) is;
  };
  good = begins-all slots progress.good progress.begins;
  gains = λ told. kept told ∙ progress.written told;
}

-- The limit is met.
pub end-limit : (slots : List Slot) (first given now_given : ℕ) (all left : List ℕ) (counting : Counting) (place : ℕ) (IsTold : Type 0) (old new rest now : List ℕ) → Progress slots first all left counting place IsTold old new → now_given + length left ≡ given + length all → IsAtLimit now_given left → (IsTold → now ≡ new) → IsTallied slots first (ran given all rest IsTold old now) TooLong
end-limit slots first given now_given all left counting place IsTold old new rest now progress total met kept =
    let more = drop (MOST_READ - now_given) left in record {
      rest = more;
      reached = omega (arith, total, met.within, met.reached, length-drop (MOST_READ - now_given) left);
      stopped = stopped slots first given all left counting place IsTold old new now (take (MOST_READ - now_given) left) rest more progress
          (sym (take-append-drop (MOST_READ - now_given) left)) met.open_line kept;
    }

-- The input fails.
pub end-failed : (slots : List Slot) (first given : ℕ) (all left : List ℕ) (counting : Counting) (place : ℕ) (IsTold : Type 0) (old new buffered rest now : List ℕ) → Progress slots first all left counting place IsTold old new → left ≡ buffered ++ rest → HasNoLine buffered → (IsTold → now ≡ new) → IsTallied slots first (ran given all rest IsTold old now) ReadFault
end-failed slots first given all left counting place IsTold old new buffered rest now progress is none kept =
    stopped slots first given all left counting place IsTold old new now buffered rest rest progress is none kept

-- The good lines were taken from the front.
taken-good : (slots : List Slot) (first : ℕ) (all left : List ℕ) (counting : Counting) (place : ℕ) (IsTold : Type 0) (old new : List ℕ) → (progress : Progress slots first all left counting place IsTold old new) → TakesLines all progress.good left
taken-good slots first all left counting place IsTold old new progress = record {
  lines = progress-lines slots first all left counting place IsTold old new progress;
  ones = progress.ones;
  split = inl progress.split;
}

-- Some of the first bytes of what a good line ended were written.
written-prefix : (slots : List Slot) (first : ℕ) (all left : List ℕ) (counting : Counting) (place : ℕ) (IsTold : Type 0) (old new line now : List ℕ) (behind : List (List ℕ)) → (progress : Progress slots first all left counting place IsTold old new) → lines_of left ≡ line ∷ behind → refusal slots (events_of slots progress.good) line ≡ None → WritesSome old (ended_lines slots (events_of slots progress.good ++ events_of slots (line ∷ []))) now → WritesSome old (tally_text slots (lines_of all)) now
written-prefix slots first all left counting place IsTold old new line now behind progress is none some =
    let good = progress.good in
    let split : lines_of all ≡ (good ++ line ∷ []) ++ behind =
    progress-lines slots first all left counting place IsTold old new progress ∙ ap (λ (l : List (List ℕ)). good ++ l) is ∙ sym (append_assoc good (line ∷ []) behind) in
    let begins = begins-more slots good line progress.begins none in
    let more = events_of-more slots good line in
    let ordered : IsOrdered (events_of slots (good ++ line ∷ [])) = subst IsOrdered (sym more) (ordered-line slots (events_of slots good) line (counts-ordered slots counting (events_of slots good) progress.counts) none) in
    let text = text-begins slots (lines_of all) (good ++ line ∷ []) behind (ap (good_lines slots) split ∙ begins behind) ordered in
    writes-longer old (ended_lines slots (events_of slots (good ++ line ∷ []))) (tally_text slots (lines_of all)) text.0 now text.1
    (subst (λ (e : List Event). WritesSome old (ended_lines slots e) now) (sym more) some)

-- A good line stops the tally: it was taken, and a prefix of what it ended was written.
interrupted : (slots : List Slot) (first given : ℕ) (all left : List ℕ) (counting : Counting) (place : ℕ) (IsTold : Type 0) (old new line after ahead rest now : List ℕ) → (progress : Progress slots first all left counting place IsTold old new) → IsOneLine line → left ≡ line ++ 10 ∷ after → after ≡ ahead ++ rest → length ahead ≤ MOST_AHEAD → refusal slots (events_of slots progress.good) line ≡ None → (IsTold → WritesSome old (ended_lines slots (events_of slots progress.good ++ events_of slots (line ∷ []))) now) → IsInterrupted slots (ran given all rest IsTold old now)
interrupted slots first given all left counting place IsTold old new line after ahead rest now progress one is parts few none wrote =
    let good = progress.good in
    let first_line : IsFirstLine left line after = record { short = one.short; one = one.one; split = inl is } in
    let taken = takes-next all left after line good (taken-good slots first all left counting place IsTold old new progress) first_line in
    record {
      read = good ++ line ∷ [];
      ahead = ahead;
      few = few;
      taken = subst (λ (l : List ℕ). TakesLines all (good ++ line ∷ []) l) parts taken;
      good = begins-all slots (good ++ line ∷ []) (begins-more slots good line progress.begins none);
      gains = λ told. written-prefix slots first all left counting place IsTold old new line now (lines_of after) progress (next_line left line after one.one is) none (wrote told);
    }

-- the lines of good lines and of one more have what this one ended
has_text : (slots : List Slot) (good : List (List ℕ)) (line : List ℕ) → good_lines slots (good ++ line ∷ []) ≡ good ++ line ∷ [] → IsOrdered (events_of slots good ++ events_of slots (line ∷ [])) → 0 < length (ended_lines slots (events_of slots good ++ events_of slots (line ∷ []))) → 0 < length (tally_text slots (good ++ line ∷ []))
has_text slots good line is ordered some =
    let events = events_of slots good ++ events_of slots (line ∷ []) in
    let text : tally_text slots (good ++ line ∷ []) ≡ ended_lines slots events ++ tick_lines slots events (tick_of (last_moment events)) =
    text-good slots (good ++ line ∷ []) is ∙ ap (all_lines slots) (events_of-more slots good line) ∙ all_lines-ended slots events ordered in
    omega (arith, ap length text, length-append (ended_lines slots events) (tick_lines slots events (tick_of (last_moment events))), some)

-- A line stops the tally.
pub end-stopped : (slots : List Slot) (first given : ℕ) (all left : List ℕ) (before counted : Counting) (place : ℕ) (IsTold : Type 0) (old new line after ahead rest now : List ℕ) (why : Stop) → (progress : Progress slots first all left before place IsTold old new) → IsOneLine line → left ≡ line ++ 10 ∷ after → after ≡ ahead ++ rest → length ahead ≤ MOST_AHEAD → TakesLine slots (events_of slots progress.good) line (Err why) counted → (IsTold → WritesLine slots (events_of slots progress.good) line (Err why) old now) → IsTallied slots first (ran given all rest IsTold old now) (stop_end place why)
unfolding interrupted
end-stopped slots first given all left before counted place IsTold old new line after ahead rest now (stop.Refused code) progress one is parts few taken wrote =
    end-refused slots first given all left before place IsTold old new line rest now (lines_of after) code progress (next_line left line after one.one is) taken (λ told. wrote told ∙ sym (progress.written told))
end-stopped slots first given all left before counted place IsTold old new line after ahead rest now stop.WriteFault progress one is parts few taken wrote =
    let good = progress.good in record {
      interrupted = interrupted slots first given all left before place IsTold old new line after ahead rest now progress one is parts few taken.0 wrote;
      some = has_text slots good line (begins-all slots (good ++ line ∷ []) (begins-more slots good line progress.begins taken.0))
          (ordered-line slots (events_of slots good) line (counts-ordered slots before (events_of slots good) progress.counts) taken.0) taken.1;
    }
end-stopped slots first given all left before counted place IsTold old new line after ahead rest now stop.Memory progress one is parts few taken wrote =
    interrupted slots first given all left before place IsTold old new line after ahead rest now progress one is parts few taken wrote

-- All lines are good, and what there is to write is there.
all-good : (slots : List Slot) (first given : ℕ) (all rest ahead : List ℕ) (good : List (List ℕ)) (IsTold : Type 0) (old now : List ℕ) (end : TallyEnd) → TakesLines all good (ahead ++ rest) → length ahead ≤ MOST_AHEAD → lines_of all ≡ good → good_lines slots good ≡ good → given + length all < MOST_READ → IsEnd end → HasText slots (events_of slots good) end → (IsTold → Finishes slots (events_of slots good) old now end) → IsTallied slots first (ran given all rest IsTold old now) end
all-good slots first given all rest ahead good IsTold old now Done taken little lines good_is few ends some wrote = (
  few,
  ap (good_lines slots) lines ∙ good_is ∙ sym lines,
  λ told. wrote told ∙ ap (λ (l : List ℕ). old ++ l) (sym (ap (tally_text slots) lines ∙ text-good slots good good_is)),
)
all-good slots first given all rest ahead good IsTold old now WriteFault taken little lines good_is few ends some wrote = record {
  interrupted = record {
    read = good;
    ahead = ahead;
    few = little;
    taken = taken;
    good = good_is;
    gains = λ told. subst (λ (text : List ℕ). WritesSome old text now) (sym (ap (tally_text slots) lines ∙ text-good slots good good_is)) (wrote told);
  };
  some = subst (λ (text : List ℕ). 0 < length text) (sym (text-good slots good good_is)) some;
}
all-good slots first given all rest ahead good IsTold old now Memory taken little lines good_is few ends some wrote = record {
  read = good;
  ahead = ahead;
  few = little;
  taken = taken;
  good = good_is;
  gains = λ told. subst (λ (text : List ℕ). WritesSome old text now) (sym (ap (tally_text slots) lines ∙ text-good slots good good_is)) (wrote told);
}
all-good slots first given all rest ahead good IsTold old now TooLong taken little lines good_is few ends some wrote = absurd ends
all-good slots first given all rest ahead good IsTold old now (Refused place code) taken little lines good_is few ends some wrote = absurd ends
all-good slots first given all rest ahead good IsTold old now ReadFault taken little lines good_is few ends some wrote = absurd ends
all-good slots first given all rest ahead good IsTold old now (BadInventory line code) taken little lines good_is few ends some wrote = absurd ends

-- The input ends after a line feed.
pub end-finished : (slots : List Slot) (first given : ℕ) (all left : List ℕ) (counting : Counting) (place : ℕ) (IsTold : Type 0) (old new ahead rest now : List ℕ) (end : TallyEnd) → (progress : Progress slots first all left counting place IsTold old new) → left ≡ [] → ahead ++ rest ≡ [] → length ahead ≤ MOST_AHEAD → given + length all < MOST_READ → IsEnd end → HasText slots (events_of slots progress.good) end → (IsTold → Finishes slots (events_of slots progress.good) old now end) → IsTallied slots first (ran given all rest IsTold old now) end
end-finished slots first given all left counting place IsTold old new ahead rest now end progress none after little few ends some wrote =
    let good = progress.good in
    let lines : lines_of all ≡ good = progress-lines slots first all left counting place IsTold old new progress ∙ ap (λ (l : List ℕ). good ++ lines_of l) none ∙ append-nil good in
    let taken = subst (λ (l : List ℕ). TakesLines all good l) (none ∙ sym after) (taken-good slots first all left counting place IsTold old new progress) in
    all-good slots first given all rest ahead good IsTold old now end taken little lines (begins-all slots good progress.begins) few ends some wrote

-- a last line that is good
last-good : (slots : List Slot) (first given at : ℕ) (all left : List ℕ) (counting : Counting) (place : ℕ) (IsTold : Type 0) (old new line ahead rest now : List ℕ) (end : TallyEnd) → (progress : Progress slots first all left counting place IsTold old new) → IsLastLine at left line (ahead ++ rest) → refusal slots (events_of slots progress.good) line ≡ None → length ahead ≤ MOST_AHEAD → given + length all < MOST_READ → IsEnd end → HasText slots (events_of slots progress.good ++ events_of slots (line ∷ [])) end → (IsTold → Finishes slots (events_of slots progress.good ++ events_of slots (line ∷ [])) old now end) → IsTallied slots first (ran given all rest IsTold old now) end
last-good slots first given at all left counting place IsTold old new line ahead rest now end progress last none little few ends some wrote =
    let good = progress.good in
    let is = only_line line left last.one.one last.some last.all in
    let more = events_of-more slots good line in
    let lines : lines_of all ≡ good ++ line ∷ [] = progress-lines slots first all left counting place IsTold old new progress ∙ ap (λ (l : List (List ℕ)). good ++ l) is in
    let first_line : IsFirstLine left line (ahead ++ rest) = record { short = last.one.short; one = last.one.one; split = inr (last.all, last.none_left, last.some) } in
    let taken = takes-next all left (ahead ++ rest) line good (taken-good slots first all left counting place IsTold old new progress) first_line in
    all-good slots first given all rest ahead (good ++ line ∷ []) IsTold old now end taken little lines (begins-all slots (good ++ line ∷ []) (begins-more slots good line progress.begins none)) few ends
    (subst (λ (e : List Event). HasText slots e end) (sym more) some)
    (λ told. subst (λ (e : List Event). Finishes slots e old now end) (sym more) (wrote told))

-- The input ends with a line that no line feed ends.
pub end-last : (slots : List Slot) (first given at : ℕ) (all left : List ℕ) (counting : Counting) (place : ℕ) (IsTold : Type 0) (old new line ahead rest now : List ℕ) (end : TallyEnd) → (progress : Progress slots first all left counting place IsTold old new) → IsLastLine at left line (ahead ++ rest) → length ahead ≤ MOST_AHEAD → given + length all < MOST_READ → TakesLast slots (events_of slots progress.good) line place end → (IsTold → WritesLast slots (events_of slots progress.good) line old now end) → IsTallied slots first (ran given all rest IsTold old now) end
end-last slots first given at all left counting place IsTold old new line ahead rest now Done progress last little few taken wrote =
    last-good slots first given at all left counting place IsTold old new line ahead rest now Done progress last taken little few tt tt wrote
end-last slots first given at all left counting place IsTold old new line ahead rest now WriteFault progress last little few taken wrote =
    last-good slots first given at all left counting place IsTold old new line ahead rest now WriteFault progress last taken.0 little few tt taken.1 wrote
end-last slots first given at all left counting place IsTold old new line ahead rest now Memory progress last little few taken wrote =
    last-good slots first given at all left counting place IsTold old new line ahead rest now Memory progress last taken little few tt tt wrote
end-last slots first given at all left counting place IsTold old new line ahead rest now (Refused number code) progress last little few taken wrote =
    subst (λ (p : ℕ). IsTallied slots first (ran given all rest IsTold old now) (Refused p code)) (sym taken.0)
    (end-refused slots first given all left counting place IsTold old new line rest now [] code progress (only_line line left last.one.one last.some last.all) taken.1 (λ told. wrote told ∙ sym (progress.written told)))
end-last slots first given at all left counting place IsTold old new line ahead rest now TooLong progress last little few taken wrote = absurd taken
end-last slots first given at all left counting place IsTold old new line ahead rest now ReadFault progress last little few taken wrote = absurd taken
end-last slots first given at all left counting place IsTold old new line ahead rest now (BadInventory other code) progress last little few taken wrote = absurd taken

-- some of the ended lines are some of all
longer_last : (slots : List Slot) (events : List Event) (before now : List ℕ) → IsOrdered events → WritesSome before (ended_lines slots events) now → WritesSome before (all_lines slots events) now
longer_last slots events before now ordered some =
    writes-longer before (ended_lines slots events) (all_lines slots events) (tick_lines slots events (tick_of (last_moment events))) now (all_lines-ended slots events ordered) some

-- Of a line that stops a tally, whether it is refused.
abbrev pub TakesStop : List Slot → List Event → List ℕ → Stop → Type 0
TakesStop slots events line (stop.Refused code) = refusal slots events line ≡ Some code
TakesStop slots events line stop.WriteFault = (refusal slots events line ≡ None) × (0 < length (ended_lines slots (events ++ events_of slots (line ∷ []))))
TakesStop slots events line stop.Memory = refusal slots events line ≡ None

pub takes_stop : (slots : List Slot) (events : List Event) (line : List ℕ) (why : Stop) (counting : Counting) → TakesLine slots events line (Err why) counting → TakesStop slots events line why
takes_stop slots events line (stop.Refused code) counting taken = taken
takes_stop slots events line stop.WriteFault counting taken = taken
takes_stop slots events line stop.Memory counting taken = taken

-- Whether the last line is.
pub takes-last : (slots : List Slot) (events : List Event) (line : List ℕ) (place : ℕ) (why : Stop) → (refusal slots events line ≡ None → IsOrdered (events ++ events_of slots (line ∷ []))) → TakesStop slots events line why → TakesLast slots events line place (stop_end place why)
takes-last slots events line place (stop.Refused code) ordered taken = (refl, taken)
takes-last slots events line place stop.WriteFault ordered taken =
    let all = events ++ events_of slots (line ∷ []) in
    let more = tick_lines slots all (tick_of (last_moment all)) in
    (taken.0, omega (arith, ap length (all_lines-ended slots all (ordered taken.0)), length-append (ended_lines slots all) more, taken.1))
takes-last slots events line place stop.Memory ordered taken = taken

-- A last line that is refused, or in a fault.
pub stop-last : (slots : List Slot) (events : List Event) (line before now : List ℕ) (place : ℕ) (why : Stop) → (refusal slots events line ≡ None → IsOrdered (events ++ events_of slots (line ∷ []))) → (taken : TakesStop slots events line why) → WritesLine slots events line (Err why) before now → WritesLast slots events line before now (stop_end place why)
stop-last slots events line before now place (stop.Refused code) ordered taken wrote = wrote
stop-last slots events line before now place stop.WriteFault ordered taken wrote = longer_last slots (events ++ events_of slots (line ∷ [])) before now (ordered taken.0) wrote
stop-last slots events line before now place stop.Memory ordered taken wrote = longer_last slots (events ++ events_of slots (line ∷ [])) before now (ordered taken) wrote

-- Before the first line nothing was read of the lines of events.
pub none-read : (slots : List Slot) (given : ℕ) (ahead rest : List ℕ) (IsTold : Type 0) (old : List ℕ) → length ahead ≤ MOST_AHEAD → IsInterrupted slots (ran given (ahead ++ rest) rest IsTold old old)
none-read slots given ahead rest IsTold old few = record {
  read = [];
  ahead = ahead;
  few = few;
  taken = takes-none (ahead ++ rest);
  good = refl;
  gains = λ told. (0, sym (append-nil old));
}
