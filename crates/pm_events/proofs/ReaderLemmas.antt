-- A line of events that begins with the word of a known moment.
use Rattle.std.proofs.Common.{get_or, ◌≡◌, ◌≢◌, ◌+◌, ◌-◌, ◌<◌, ◌≤◌, ℕ, Bool, true, false, cond, List, [], ◌∷◌, ◌++◌, ◌&&◌, Some, None, Ok, length, take, drop, refl, sym, ◌∙◌, ap, arith, append_assoc, length-append, nat_le}
use Rattle.std.proofs.Math.Dec.{eqb}
use Rattle.std.proofs.lemmas.Bool.{cond-true, le-leb, leb-true, ne_eqb, eq-eqb}
use Rattle.std.proofs.lemmas.List.Elements.{All-cons, All-head, All-tail, All-nil}
use Rattle.std.proofs.lemmas.Slice.Eq.{bytes_eq-Decides}
use Rattle.std.specs.Str.{bytes_eq}
use Rattle.std.proofs.lemmas.Bool.Decides.{nat_tests}
use Rattle.std.proofs.lemmas.List.{take-append-drop, take_all, length-drop, drop_more}
use Rattle.std.specs.List.{list_all, onto_first, position_from}
use Rattle.std.specs.Char.{is_ascii_digit}
use Rattle.pm_base.specs.Lines.{MOST_LINE}
use Rattle.pm_base.specs.Number.{is_number, is_moment, number_of}
use Rattle.pm_base.specs.Pieces.{words_of}
use Rattle.pm_inventory.specs.Slot.{Slot, slot_place}
use Rattle.pm_events.specs.EventLine.{LineEvent, event_line, event_of_words}
use Rattle.pm_events.specs.Event.{event_of, event_in_slot, read_event}
use Rattle.pm_inventory.specs.SlotNames.{slot_names, names_place, HasNoSpace, IsWord, AreWords}

both : (a b : Bool) → a ≡ true → b ≡ true → (a && b) ≡ true
both a b first second = ap (λ (x : Bool). x && b) first ∙ second

first-of : (a b : Bool) → (a && b) ≡ true → a ≡ true
first-of true b is = refl
first-of false b is = is

second-of : (a b : Bool) → (a && b) ≡ true → b ≡ true
second-of true b is = is
second-of false b is = absurd (cc (is))

digit-fails : (b : ℕ) → is_ascii_digit b ≡ true → eqb b 32 ≡ false
digit-fails b is = grind (arith, nat_tests)

onto : (b : ℕ) (is : Bool) (word : List ℕ) (rest : List (List ℕ)) → is ≡ false → cond is ([] ∷ (word ∷ rest)) (onto_first b (word ∷ rest)) ≡ (b ∷ word) ∷ rest
onto b true word rest fails = absurd (cc (fails))
onto b false word rest fails = refl

-- a word without a space is the first word of a line
pub word-first : (word rest : List ℕ) → HasNoSpace word → words_of (word ++ 32 ∷ rest) ≡ word ∷ words_of rest
word-first [] rest lacks = refl
word-first (b ∷ word) rest lacks =
    ap (λ (l : List (List ℕ)). cond (eqb b 32) ([] ∷ l) (onto_first b l)) (word-first word rest (All-tail (λ x. x ≢ 32) b word lacks))
    ∙ onto b (eqb b 32) word (words_of rest) (ne_eqb b 32 (All-head (λ x. x ≢ 32) b word lacks))

-- a text without a space is one word
word-alone : (word : List ℕ) → HasNoSpace word → words_of word ≡ word ∷ []
word-alone [] lacks = refl
word-alone (b ∷ word) lacks =
    ap (λ (l : List (List ℕ)). cond (eqb b 32) ([] ∷ l) (onto_first b l)) (word-alone word (All-tail (λ x. x ≢ 32) b word lacks))
    ∙ onto b (eqb b 32) word [] (ne_eqb b 32 (All-head (λ x. x ≢ 32) b word lacks))

digit-is : (b : ℕ) → is_ascii_digit b ≡ true → b ≢ 32
digit-is b digit is = let fails = digit-fails b digit in let meets : eqb b 32 ≡ true = eq-eqb b 32 is in cc

pub digits-lack-space : (word : List ℕ) → list_all is_ascii_digit word ≡ true → HasNoSpace word
digits-lack-space [] digits = All-nil (λ x. x ≢ 32)
digits-lack-space (b ∷ word) digits =
    All-cons (λ x. x ≢ 32) b word (digit-is b (first-of (is_ascii_digit b) (list_all is_ascii_digit word) digits))
    (digits-lack-space word (second-of (is_ascii_digit b) (list_all is_ascii_digit word) digits))

pub moment-digits : (word : List ℕ) → is_moment word ≡ true → list_all is_ascii_digit word ≡ true
moment-digits word is = second-of _ (list_all is_ascii_digit word) (first-of (is_number 12 word) (nat_le (number_of word) 253402300799) is)

moment-short : (word : List ℕ) → is_moment word ≡ true → length word ≤ 12
moment-short word is =
    leb-true (length word) 12
    (second-of (nat_le 1 (length word)) (nat_le (length word) 12)
    (first-of (nat_le 1 (length word) && nat_le (length word) 12) (list_all is_ascii_digit word) (first-of (is_number 12 word) (nat_le (number_of word) 253402300799) is)))

-- what four words say that are in order
words-say : (word object metric digits : List ℕ) → is_moment word ≡ true → is_number 10 digits ≡ true → 0 < length object → 0 < length metric → event_of_words (word ∷ object ∷ metric ∷ digits ∷ []) ≡ Some (record { moment = number_of word; object = object; metric = metric; value = number_of digits })
words-say word object metric digits moment value object-some metric-some =
    cond-true
    ((is_moment word && is_number 10 digits) && (nat_le 1 (length object) && nat_le 1 (length metric)))
    (Some (record { moment = number_of word; object = object; metric = metric; value = number_of digits }))
    None
    (both (is_moment word && is_number 10 digits) (nat_le 1 (length object) && nat_le 1 (length metric))
    (both (is_moment word) (is_number 10 digits) moment value)
    (both (nat_le 1 (length object)) (nat_le 1 (length metric)) (le-leb 1 (length object) (omega (arith, object-some))) (le-leb 1 (length metric) (omega (arith, metric-some)))))

line-says : (word words object behind metric digits : List ℕ) → is_moment word ≡ true → length words ≤ 2000 → words_of words ≡ object ∷ words_of behind → words_of behind ≡ metric ∷ words_of digits → words_of digits ≡ digits ∷ [] → 0 < length object → 0 < length metric → is_number 10 digits ≡ true → event_line (word ++ 32 ∷ words) ≡ Some (record { moment = number_of word; object = object; metric = metric; value = number_of digits })
line-says word words object behind metric digits moment short first second last object-some metric-some value =
    let line : List ℕ = word ++ 32 ∷ words in
    let four : words_of line ≡ word ∷ object ∷ metric ∷ digits ∷ [] =
    word-first word words (digits-lack-space word (moment-digits word moment))
    ∙ ap (λ (l : List (List ℕ)). word ∷ l) (first ∙ ap (λ (l : List (List ℕ)). object ∷ l) (second ∙ ap (λ (l : List (List ℕ)). metric ∷ l) last)) in
    let fits : length line ≤ MOST_LINE = omega (arith, short, moment-short word moment, length-append word (32 ∷ words)) in
    cond-true (nat_le (length line) MOST_LINE) (event_of_words (words_of line)) None (le-leb (length line) MOST_LINE fits)
    ∙ ap event_of_words four
    ∙ words-say word object metric digits moment value object-some metric-some

-- The event of a line that begins with the word of a moment.
pub usual-reads : (slots : List Slot) (word words object behind metric digits : List ℕ) (moment value slot : ℕ) → is_moment word ≡ true → moment ≡ number_of word → length words ≤ 2000 → words_of words ≡ object ∷ words_of behind → words_of behind ≡ metric ∷ words_of digits → words_of digits ≡ digits ∷ [] → 0 < length object → 0 < length metric → is_number 10 digits ≡ true → value ≡ number_of digits → value ≤ 1048575 → slot_place slots object metric ≡ Some slot → read_event slots (word ++ 32 ∷ words) ≡ Ok (record { moment = moment; slot = slot; value = value })
usual-reads slots word words object behind metric digits moment value slot is moment-is short first second last object-some metric-some number value-is small place =
    let e : LineEvent = record { moment = number_of word; object = object; metric = metric; value = number_of digits } in
    let within : number_of digits ≤ 1048575 = omega (arith, value-is, small) in
    ap (event_of slots) (line-says word words object behind metric digits is short first second last object-some metric-some number)
    ∙ ap (event_in_slot e) place
    ∙ cond-true (nat_le (number_of digits) 1048575) _ _ (le-leb (number_of digits) 1048575 within)
    ∙ ap (λ (m : ℕ). Ok (record { moment = m; slot = slot; value = number_of digits })) (sym moment-is)
    ∙ ap (λ (v : ℕ). Ok (record { moment = moment; slot = slot; value = v })) (sym value-is)

-- A line that begins with such a text has the word and the space in front, and then the bytes behind it.
pub in-front : (text line : List ℕ) → take 11 line ≡ text → text ≡ take 10 text ++ 32 ∷ [] → line ≡ take 10 text ++ 32 ∷ take (length line - 11) (drop 11 line)
in-front text line same spaced =
    let behind : take (length line - 11) (drop 11 line) ≡ drop 11 line = take_all (length line - 11) (drop 11 line) (omega (arith, length-drop 11 line)) in
    sym (take-append-drop 11 line) ∙ ap (λ (l : List ℕ). l ++ drop 11 line) (same ∙ spaced) ∙ append_assoc (take 10 text) (32 ∷ []) (drop 11 line)
    ∙ ap (λ (l : List ℕ). take 10 text ++ 32 ∷ l) (sym behind)

-- Two words with a space between.
record IsTwo (names : List ℕ) : Type 0 where
  object : List ℕ
  metric : List ℕ
  object_is : IsWord object
  metric_is : IsWord metric
  joined : names ≡ object ++ 32 ∷ metric

-- names that a slot has are two words
found-two : (slots : List Slot) (n slot : ℕ) (names : List ℕ) → AreWords slots → position_from (λ (s : Slot). bytes_eq (slot_names s) names) n slots ≡ Some slot → IsTwo names
found-two [] n slot names words found = absurd (cc (found))
found-two (s ∷ slots) n slot names words found =
    found-by (bytes_eq (slot_names s) names) refl found (λ later. found-two slots (n + 1) slot names (All-tail (λ t. IsWord t.object × IsWord t.metric) s slots words) later) where
      found-by : (b : Bool) → bytes_eq (slot_names s) names ≡ b → cond b (Some n) (position_from (λ (s : Slot). bytes_eq (slot_names s) names) (n + 1) slots) ≡ Some slot → (position_from (λ (s : Slot). bytes_eq (slot_names s) names) (n + 1) slots ≡ Some slot → IsTwo names) → IsTwo names
      found-by true same here behind =
          let own : IsWord s.object × IsWord s.metric = All-head (λ t. IsWord t.object × IsWord t.metric) s slots words in
          record { object = s.object; metric = s.metric; object_is = own.0; metric_is = own.1; joined = sym ((bytes_eq-Decides (slot_names s) names).0 same) }
      found-by false same here behind = behind here

-- The event of a line that begins with the word of a moment, and has the names of a slot before its last word.
pub names-read : (slots : List Slot) (word words : List ℕ) (at moment value slot : ℕ) → AreWords slots → is_moment word ≡ true → moment ≡ number_of word → length words ≤ 2000 → at < length words → get_or words at 0 ≡ 32 → is_number 10 (drop (at + 1) words) ≡ true → value ≡ number_of (drop (at + 1) words) → value ≤ 1048575 → Some slot ≡ names_place slots (take at words) → ((object metric : List ℕ) → HasNoSpace object → take at words ≡ object ++ 32 ∷ metric → Some slot ≡ slot_place slots object metric) → read_event slots (word ++ 32 ∷ words) ≡ Ok (record { moment = moment; slot = slot; value = value })
names-read slots word words at moment value slot words-are is moment-is short lt space number value-is small found pair =
    let names : List ℕ = take at words in
    let digits : List ℕ = drop (at + 1) words in
    let two : IsTwo names = found-two slots 0 slot names words-are (sym found) in
    let object : List ℕ = two.object in
    let metric : List ℕ = two.metric in
    let object-lacks : HasNoSpace object = two.object_is.spaceless in
    let digits-lack : HasNoSpace digits = digits-lack-space digits (second-of (nat_le 1 (length digits) && nat_le (length digits) 10) (list_all is_ascii_digit digits) number) in
    let parts : words ≡ object ++ 32 ∷ (metric ++ 32 ∷ digits) =
    sym (take-append-drop at words) ∙ ap (λ (l : List ℕ). names ++ l) (drop_more words at 0 lt ∙ ap (λ (b : ℕ). b ∷ digits) space)
    ∙ ap (λ (l : List ℕ). l ++ 32 ∷ digits) two.joined ∙ append_assoc object (32 ∷ metric) (32 ∷ digits) in
    usual-reads slots word words object (metric ++ 32 ∷ digits) metric digits moment value slot is moment-is short
    (ap words_of parts ∙ word-first object (metric ++ 32 ∷ digits) object-lacks)
    (word-first metric digits two.metric_is.spaceless)
    (word-alone digits digits-lack)
    two.object_is.some two.metric_is.some number value-is small
    (sym (pair object metric object-lacks two.joined))
