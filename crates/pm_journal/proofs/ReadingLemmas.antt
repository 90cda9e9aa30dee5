-- What is read from a gate on.
use Rattle.std.proofs.Common.{◌≡◌, ℕ, ◌+◌, ◌<◌, ◌^◌, List, ◌∷◌, length, get_or, take, drop, sym, ◌∙◌, ap, subst, arith, length-drop}
use Rattle.std.proofs.lemmas.List.{drop_more, get_or-take, get_or-drop, drop-drop}
use Rattle.pm_journal.specs.Items.{size_bytes, IsItem, IsCutShort}
use Rattle.pm_journal.specs.declared.error.JournalError.{JournalError}
use Rattle.pm_journal.specs.declared.error.JournalError.TheVariants.{StoreFault, Foreign, Garbled, StoreFull, Memory}
use Rattle.pm_journal.specs.Reading.{RefusesItem, RefusesToFind}
use Rattle.pm_journal.proofs.ItemsLemmas.{item_size, item_length, size_bytes-unique}
use Rattle.pm_journal.proofs.ListLemmas.{found_item}

pub cut_short_of_few : (bytes : List ℕ) → length bytes < 5 → IsCutShort bytes
cut_short_of_few bytes few = λ item after is. omega (arith, few, item_length bytes item after is, is.gate)

pub cut_short_of_size : (bytes : List ℕ) (count : ℕ) → size_bytes count ≡ take 4 bytes → count < 2 ^ 32 → length bytes < 5 + count
    → IsCutShort bytes
cut_short_of_size bytes count size fits few = λ item after is.
    let same : count ≡ length item = size_bytes-unique count (length item) fits is.fits (size ∙ item_size bytes item after is) in
    omega (arith, few, same, item_length bytes item after is, is.gate)

pub item_read : (seen v : List ℕ) (at count : ℕ) → size_bytes count ≡ take 4 (drop at seen) → count < 2 ^ 32
    → 4 + count < length (drop at seen) → v ≡ take count (drop (at + 4) seen) → (after : List ℕ) × IsItem (drop at seen) v after
item_read seen v at count size fits inside is =
    let bytes = drop at seen in
    let whole : v ≡ take count (drop 4 bytes) = is ∙ sym (ap (λ (l : List ℕ). take count l) (drop-drop 4 at seen)) in
    (drop count (drop 4 bytes), subst (λ (l : List ℕ). IsItem bytes l (drop count (drop 4 bytes))) (sym whole) (found_item bytes count size fits inside))

-- Reading refuses from an open gate on as it refuses from the length after it on.
pub refuses_from_gate : (IsTold : Type 0) (at : ℕ) (bytes after_gate : List ℕ) (e : JournalError)
    → (IsTold → bytes ≡ 1 ∷ after_gate) → RefusesItem IsTold after_gate e → RefusesToFind IsTold at bytes e
refuses_from_gate IsTold at bytes after_gate StoreFault is_open refuses = tt
refuses_from_gate IsTold at bytes after_gate Foreign is_open refuses = absurd refuses
refuses_from_gate IsTold at bytes after_gate (Garbled offset) is_open refuses = absurd refuses
refuses_from_gate IsTold at bytes after_gate (StoreFull length' need) is_open refuses = absurd refuses
refuses_from_gate IsTold at bytes after_gate Memory is_open refuses = λ told.
    let found = refuses told in (found.0, record { after_gate = after_gate; after_item = found.1; is = is_open told; found = found.2 })

-- The gate that is read is the first byte of the rest.
pub gate_read : (seen buf : List ℕ) (at : ℕ) → at < length seen → buf ≡ take 1 (drop at seen)
    → drop at seen ≡ get_or buf 0 0 ∷ drop (at + 1) seen
gate_read seen buf at lt is =
    let some : 0 < length (drop at seen) = omega (arith, length-drop at seen) in
    let same : get_or buf 0 0 ≡ get_or seen at 0 =
    ap (λ (l : List ℕ). get_or l 0 0) is
    ∙ get_or-take 1 (drop at seen) 0 0 (omega arith)
    ∙ get_or-drop at seen 0 0
    ∙ ap (λ (n : ℕ). get_or seen n 0) (omega arith) in
    drop_more seen at 0 lt ∙ ap (λ (b : ℕ). b ∷ drop (at + 1) seen) (sym same)

pub is_open_gate : (seen buf : List ℕ) (at : ℕ) → at < length seen → buf ≡ take 1 (drop at seen) → get_or buf 0 0 ≡ 1
    → drop at seen ≡ 1 ∷ drop (at + 1) seen
is_open_gate seen buf at lt is open_is = gate_read seen buf at lt is ∙ ap (λ (b : ℕ). b ∷ drop (at + 1) seen) open_is
