-- The parts of the bytes of an item.
use Rattle.std.proofs.Common.{◌≡◌, ℕ, ◌+◌, ◌<◌, false, List, ◌∷◌, ◌++◌, length, get_or, take, drop, refl, sym, ap, ◌∙◌, arith, append_assoc, length-append}
use Rattle.std.specs.Prelude.{bytes_eq}
use Rattle.std.specs.Cmp.Lexicographic.{bytes_decides}
use Rattle.std.proofs.lemmas.Bool.{false≢true}
use Rattle.std.proofs.lemmas.List.{take_at, drop_at}
use Rattle.pm_journal.specs.Items.{size_bytes}
use Rattle.pm_journal.proofs.ItemsLemmas.{length-size_bytes}
use Rattle.pm_collect.specs.Stored.{HeldFile, item_of, IsItem}

-- Bytes that aren't equal are others.
pub differ : (a b : List ℕ) → bytes_eq a b ≡ false → a ≡ b → ⊥
differ a b apart is = absurd (false≢true (sym apart ∙ (bytes_decides a b).1 is))

pub text_length : (bytes text : List ℕ) → bytes ≡ size_bytes (length text) ++ text → length bytes ≡ 4 + length text
text_length bytes text is = omega (arith, ap length is, length-append (size_bytes (length text)) text, length-size_bytes (length text))

pub text_too_short : (bytes text : List ℕ) → length bytes < 4 → bytes ≡ size_bytes (length text) ++ text → ⊥
text_too_short bytes text few is = omega (arith, few, text_length bytes text is)

pub text_too_long : (bytes text behind : List ℕ) → behind ≡ drop 4 bytes → 4294967295 < length behind → length text < 4294967296
    → bytes ≡ size_bytes (length text) ++ text → ⊥
text_too_long bytes text behind cut many few is = omega (arith, many, few, ap length (cut ∙ same))
  where
    same : drop 4 bytes ≡ text
    same = ap (drop 4) is ∙ drop_at (size_bytes (length text)) text 4 (length-size_bytes (length text))

pub text_of_other_size : (bytes text size behind own : List ℕ) → size ≡ take 4 bytes → behind ≡ drop 4 bytes → own ≡ size_bytes (length behind)
    → bytes_eq size own ≡ false → bytes ≡ size_bytes (length text) ++ text → ⊥
text_of_other_size bytes text size behind own front back counted apart is = differ size own apart (first ∙ sym counts)
  where
    four : length (size_bytes (length text)) ≡ 4
    four = length-size_bytes (length text)

    first : size ≡ size_bytes (length text)
    first = front ∙ ap (take 4) is ∙ take_at (size_bytes (length text)) text 4 four

    counts : own ≡ size_bytes (length text)
    counts = counted ∙ ap (λ (l : List ℕ). size_bytes (length l)) (back ∙ ap (drop 4) is ∙ drop_at (size_bytes (length text)) text 4 four)

-- What comes behind the name of an item.
pub behind_name : (bytes name rest : List ℕ) (f : HeldFile) → bytes ≡ length name ∷ name ++ rest → 1 ∷ bytes ≡ item_of f
    → rest ≡ size_bytes (length f.text) ++ f.text
behind_name bytes name rest f split is =
    sym (drop_at name rest (length name) refl)
    ∙ ap (λ (l : List ℕ). drop (length name) (drop 1 l)) all
    ∙ drop_at f.name (size_bytes (length f.text) ++ f.text) (length name) (sym counts)
  where
    all : length name ∷ name ++ rest ≡ length f.name ∷ (f.name ++ (size_bytes (length f.text) ++ f.text))
    all = sym split ∙ ap (drop 1) is ∙ ap (λ (l : List ℕ). length f.name ∷ l) (append_assoc f.name (size_bytes (length f.text)) f.text)

    counts : length name ≡ length f.name
    counts = ap (λ (l : List ℕ). get_or l 0 0) all

pub item_length : (f : HeldFile) (item : List ℕ) → item ≡ item_of f → length item ≡ 6 + length f.name + length f.text
item_length f item is =
    omega (
      arith,
      ap length is,
      length-append (f.name ++ size_bytes (length f.text)) f.text,
      length-append f.name (size_bytes (length f.text)),
      length-size_bytes (length f.text),
    )

-- One item has one file.
pub same_file : (bytes : List ℕ) (f g : HeldFile) → IsItem bytes f → IsItem bytes g → (f.name ≡ g.name) × (f.text ≡ g.text)
same_file bytes f g one other = (names, texts)
  where
    parts : (h : HeldFile) → IsItem bytes h → drop 2 bytes ≡ h.name ++ (size_bytes (length h.text) ++ h.text)
    parts h is = ap (drop 2) is.is ∙ append_assoc h.name (size_bytes (length h.text)) h.text

    lengths : length f.name ≡ length g.name
    lengths = ap (λ (l : List ℕ). get_or l 1 0) (sym one.is ∙ other.is)

    names : f.name ≡ g.name
    names =
        sym (take_at f.name (size_bytes (length f.text) ++ f.text) (length f.name) refl)
        ∙ ap (take (length f.name)) (sym (parts f one) ∙ parts g other)
        ∙ take_at g.name (size_bytes (length g.text) ++ g.text) (length f.name) (sym lengths)

    texts : f.text ≡ g.text
    texts =
        sym (drop_at (size_bytes (length f.text)) f.text 4 (length-size_bytes (length f.text)))
        ∙ ap (drop 4)
        (sym (drop_at f.name (size_bytes (length f.text) ++ f.text) (length f.name) refl)
        ∙ ap (drop (length f.name)) (sym (parts f one) ∙ parts g other)
        ∙ drop_at g.name (size_bytes (length g.text) ++ g.text) (length f.name) (sym lengths))
        ∙ drop_at (size_bytes (length g.text)) g.text 4 (length-size_bytes (length g.text))
