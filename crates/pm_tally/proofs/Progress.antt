-- How far a tally has come: some lines are good and counted, and the others are left.
use Rattle.std.proofs.Common.{◌≡◌, ◌+◌, ℕ, cond, List, [], ◌∷◌, ◌++◌, length, Option, Some, None, is_none, refl, sym, ◌∙◌, ap, subst, arith, append_assoc, length-append}
use Rattle.std.proofs.lemmas.List.{append-nil}
use Rattle.std.specs.List.{All}
use Rattle.pm_base.specs.Lines.{HasNoLineFeed, lines_of}
use Rattle.pm_base.specs.declared.code.Code.{Code}
use Rattle.pm_inventory.specs.Slot.{Slot}
use Rattle.pm_base.specs.WholeLines.{text_of_lines}
use Rattle.pm_events.specs.Event.{events_of, refusal}
use Rattle.pm_events.specs.declared.event.Event.{Event}
use Rattle.pm_events.proofs.EventLemmas.{events_of-more}
use Rattle.pm_outside.specs.NextLine.{IsOneLine}
use Rattle.pm_tally.specs.Tally.{good_behind, good_lines, ended_lines}
use Rattle.pm_tally.specs.Counting.{Counts}
use Rattle.pm_tally.specs.declared.counting.Counting.{Counting}
use Rattle.pm_tally.proofs.WholeLemmas.{lines_of-text, text-more, All-more}

-- The first lines of a text are good: the good ones among them and others are they and the good ones among the others.
abbrev pub BeginsGood : List Slot → List (List ℕ) → Type 0
BeginsGood slots good = (behind : List (List ℕ)) → good_lines slots (good ++ behind) ≡ good ++ good_behind slots (events_of slots good) behind

-- The output gained exactly these bytes.
abbrev pub Writes : Type 0 → List ℕ → List ℕ → List ℕ → Type 0
Writes IsTold old new out = IsTold → new ≡ old ++ out

pub record Progress (slots : List Slot) (first : ℕ) (all left : List ℕ) (counting : Counting) (place : ℕ) (IsTold : Type 0) (old new : List ℕ) : Type 0 where
  pub good : List (List ℕ)
  pub ones : All HasNoLineFeed good
  pub split : all ≡ text_of_lines good ++ left
  pub begins : BeginsGood slots good
  pub counts : Counts slots counting (events_of slots good)
  pub numbered : place ≡ length good + first
  pub written : Writes IsTold old new (ended_lines slots (events_of slots good))

-- A further good line.
pub begins-more : (slots : List Slot) (good : List (List ℕ)) (line : List ℕ) → BeginsGood slots good → refusal slots (events_of slots good) line ≡ None → BeginsGood slots (good ++ line ∷ [])
begins-more slots good line begins none behind =
    ap (good_lines slots) (append_assoc good (line ∷ []) behind)
    ∙ begins (line ∷ behind)
    ∙ ap (λ (why : Option Code). good ++ cond (is_none why) (line ∷ good_behind slots (events_of slots good ++ events_of slots (line ∷ [])) behind) []) none
    ∙ ap (λ (e : List Event). good ++ line ∷ good_behind slots e behind) (sym (events_of-more slots good line))
    ∙ sym (append_assoc good (line ∷ []) (good_behind slots (events_of slots (good ++ line ∷ [])) behind))

-- The good lines before one that is refused.
pub begins-refused : (slots : List Slot) (good : List (List ℕ)) (line : List ℕ) (behind : List (List ℕ)) (code : Code) → BeginsGood slots good → refusal slots (events_of slots good) line ≡ Some code → good_lines slots (good ++ line ∷ behind) ≡ good
begins-refused slots good line behind code begins refused =
    begins (line ∷ behind)
    ∙ ap (λ (why : Option Code). good ++ cond (is_none why) (line ∷ good_behind slots (events_of slots good ++ events_of slots (line ∷ [])) behind) []) refused
    ∙ append-nil good

-- Lines that are all good.
pub begins-all : (slots : List Slot) (good : List (List ℕ)) → BeginsGood slots good → good_lines slots good ≡ good
begins-all slots good begins = ap (good_lines slots) (sym (append-nil good)) ∙ begins [] ∙ append-nil good

-- At first no line is counted.
pub progress-first : (slots : List Slot) (first : ℕ) (all : List ℕ) (counting : Counting) (IsTold : Type 0) (old : List ℕ) → Counts slots counting [] → Progress slots first all all counting first IsTold old old
progress-first slots first all counting IsTold old counts = record {
  good = [];
  ones = λ k d lt. absurd (omega (arith, lt));
  split = refl;
  begins = λ behind. refl;
  counts = counts;
  numbered = omega arith;
  written = λ told. sym (append-nil old);
}

-- A further good line is counted.
pub progress-next : (slots : List Slot) (first : ℕ) (all left rest line : List ℕ) (before after : Counting) (place : ℕ) (IsTold : Type 0) (old new next : List ℕ) → (progress : Progress slots first all left before place IsTold old new) → IsOneLine line → left ≡ line ++ 10 ∷ rest → refusal slots (events_of slots progress.good) line ≡ None → Counts slots after (events_of slots progress.good ++ events_of slots (line ∷ [])) → Writes IsTold old next (ended_lines slots (events_of slots progress.good ++ events_of slots (line ∷ []))) → Progress slots first all rest after (place + 1) IsTold old next
progress-next slots first all left rest line before after place IsTold old new next progress one is good counts written =
    let more = events_of-more slots progress.good line in record {
      good = progress.good ++ line ∷ [];
      ones = All-more HasNoLineFeed progress.good line progress.ones one.one;
      split = progress.split ∙ ap (λ (l : List ℕ). text_of_lines progress.good ++ l) is ∙ text-more progress.good line rest;
      begins = begins-more slots progress.good line progress.begins good;
      counts = subst (λ (e : List Event). Counts slots after e) (sym more) counts;
      numbered = omega (arith, progress.numbered, length-append progress.good (line ∷ []));
      written = subst (λ (e : List Event). Writes IsTold old next (ended_lines slots e)) (sym more) written;
    }

-- The lines of all bytes.
pub progress-lines : (slots : List Slot) (first : ℕ) (all left : List ℕ) (counting : Counting) (place : ℕ) (IsTold : Type 0) (old new : List ℕ) → (progress : Progress slots first all left counting place IsTold old new) → lines_of all ≡ progress.good ++ lines_of left
progress-lines slots first all left counting place IsTold old new progress = ap lines_of progress.split ∙ lines_of-text progress.good left progress.ones
