-- The words of a line of events, cut off one by one.
use Rattle.std.proofs.Common.{◌≡◌, ◌≢◌, ◌+◌, ℕ, zero, suc, Bool, true, false, cond, List, [], ◌∷◌, ◌++◌, Option, None, length, take, get_or, refl, sym, ◌∙◌, ap, subst, nat_le, arith, append_assoc, length-append}
use Rattle.std.proofs.Math.Dec.{eqb}
use Rattle.std.proofs.lemmas.Bool.{eq-eqb}
use Rattle.std.proofs.lemmas.List.{take_at}
use Rattle.std.proofs.lemmas.List.Splits.{join_with_byte-slice_split}
use Rattle.std.specs.List.{All, slice_split, onto_first, join_with_byte}
use Rattle.pm_base.proofs.PiecesLemmas.{some_piece}
use Rattle.pm_base.specs.Lines.{MOST_LINE}
use Rattle.pm_base.specs.Pieces.{words_of}
use Rattle.pm_events.specs.EventLine.{event_line, event_of_words, AreNames}

-- either way it is none
none_anyway : {A : Type 0} (b : Bool) (x : Option A) → x ≡ None → cond b x None ≡ None
none_anyway true x none = none
none_anyway false x none = refl

-- A line of five words or more is no line of events.
pub five_words : (line moment rest object further metric value fourth behind : List ℕ) → words_of line ≡ moment ∷ words_of rest → words_of rest ≡ object ∷ words_of further → words_of further ≡ metric ∷ words_of value → words_of value ≡ fourth ∷ words_of behind → event_line line ≡ None
five_words line moment rest object further metric value fourth behind first second third last =
    let some = some_piece 32 behind in
    let words : words_of line ≡ moment ∷ object ∷ metric ∷ fourth ∷ some.0 ∷ some.1 =
    first ∙ ap (λ (l : List (List ℕ)). moment ∷ l) (second ∙ ap (λ (l : List (List ℕ)). object ∷ l) (third ∙ ap (λ (l : List (List ℕ)). metric ∷ l) (last ∙ ap (λ (l : List (List ℕ)). fourth ∷ l) some.2))) in
    none_anyway (nat_le (length line) MOST_LINE) (event_of_words (words_of line)) (ap event_of_words words)

-- A word that is cut off, and what follows it.
pub cut_off : (text word rest : List ℕ) → words_of text ≡ word ∷ words_of rest → text ≡ word ++ 32 ∷ rest
cut_off text word rest is =
    let some = some_piece 32 rest in
    sym (join_with_byte-slice_split 32 text) ∙ ap (join_with_byte 32) (is ∙ ap (λ (l : List (List ℕ)). word ∷ l) some.2)
    ∙ ap (λ (l : List (List ℕ)). word ++ 32 ∷ join_with_byte 32 l) (sym some.2)
    ∙ ap (λ (l : List ℕ). word ++ 32 ∷ l) (join_with_byte-slice_split 32 rest)

-- one more element at the start of which a fact holds
All-cons : {A : Type 0} (P : A → Type 0) (x : A) (xs : List A) → P x → All P xs → All P (x ∷ xs)
All-cons P x xs first all zero d lt = first
All-cons P x xs first all (suc k) d lt = all k d (omega (arith, lt))

-- a first piece has no space
piece-by : (b : ℕ) (text first word : List ℕ) (others rest : List (List ℕ)) (is : Bool) → eqb b 32 ≡ is → All (λ c. c ≢ 32) first → slice_split (λ c. eqb c 32) text ≡ first ∷ others → cond is ([] ∷ (first ∷ others)) (onto_first b (first ∷ others)) ≡ word ∷ rest → All (λ c. c ≢ 32) word
piece-by b text first word others rest true test none pieces same =
    let empty : [] ≡ word = ap (λ (l : List (List ℕ)). get_or l 0 []) same in
    subst (All (λ c. c ≢ 32)) empty (λ k d lt. absurd (omega (arith, lt)))
piece-by b text first word others rest false test none pieces same =
    let whole : b ∷ first ≡ word = ap (λ (l : List (List ℕ)). get_or l 0 []) same in
    let other : b ≢ 32 = λ is. cc (test, eq-eqb b 32 is) in
    subst (All (λ c. c ≢ 32)) whole (All-cons (λ c. c ≢ 32) b first other none)

pub word_of-spaceless : (text word : List ℕ) (rest : List (List ℕ)) → words_of text ≡ word ∷ rest → All (λ b. b ≢ 32) word
word_of-spaceless [] word rest is =
    let empty : [] ≡ word = ap (λ (l : List (List ℕ)). get_or l 0 []) is in
    subst (All (λ c. c ≢ 32)) empty (λ k d lt. absurd (omega (arith, lt)))
word_of-spaceless (b ∷ text) word rest is =
    let some = some_piece 32 text in
    piece-by b text some.0 word some.1 rest (eqb b 32) refl (word_of-spaceless text some.0 some.1 some.2) some.2
    (sym (ap (λ (l : List (List ℕ)). cond (eqb b 32) ([] ∷ l) (onto_first b l)) some.2) ∙ is)

-- The names in the middle of a line.
pub names_in_line : (rest object behind metric value : List ℕ) → words_of rest ≡ object ∷ words_of behind → words_of behind ≡ metric ∷ words_of value → rest ≡ (object ++ 32 ∷ metric) ++ 32 ∷ value
names_in_line rest object behind metric value first second =
    cut_off rest object behind first ∙ ap (λ (l : List ℕ). object ++ 32 ∷ l) (cut_off behind metric value second) ∙ sym (append_assoc object (32 ∷ metric) (32 ∷ value))

pub are_names : (rest object behind metric value : List ℕ) (n : ℕ) → words_of rest ≡ object ∷ words_of behind → words_of behind ≡ metric ∷ words_of value → n ≡ length object + 1 + length metric → AreNames object metric (take n rest)
are_names rest object behind metric value n first second is = record {
  word = word_of-spaceless rest object (words_of behind) first;
  joined = ap (take n) (names_in_line rest object behind metric value first second) ∙ take_at (object ++ 32 ∷ metric) (32 ∷ value) n (omega (arith, is, length-append object (32 ∷ metric)));
}
