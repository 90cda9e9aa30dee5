-- A held file is read back from where it lies.
use Rattle.std.proofs.Common.{◌≡◌, ℕ, ◌+◌, ◌≤◌, List, ◌∷◌, ◌++◌, length, map, take, drop, Some, sym, ap, subst, ◌∙◌, arith, append_assoc}
use Rattle.std.specs.Prelude.{slice_get}
use Rattle.std.proofs.lemmas.List.{append-nil, take_at, length-take-le, length-drop}
use Rattle.pm_disk.specs.Moments.{DiskState}
use Rattle.pm_journal.specs.Items.{mark, blocks, prefix}
use Rattle.pm_collect.specs.declared.collector.Collector.{Collector}
use Rattle.pm_collect.specs.declared.names.Place.{Place}
use Rattle.pm_collect.specs.Maps.{place_of}
use Rattle.pm_collect.specs.Stored.{HeldFile, item_of}
use Rattle.pm_collect.specs.Places.{text_in}
use Rattle.pm_collect.specs.Collector.{Holds}
use Rattle.pm_collect.proofs.PlaceLemmas.{LiesIn, lies_from}

seen_is : (collector : Collector) (disk : DiskState) (files : List HeldFile) (holds : Holds collector disk files)
    → disk.first.seen ≡ mark ++ (blocks (map item_of files) ++ holds.at.list.gate ∷ holds.at.list.rest)
seen_is collector disk files holds =
    holds.at.list.is
    ∙ ap (λ (l : List (List ℕ)). prefix l ++ holds.at.list.gate ∷ holds.at.list.rest) (append-nil (map item_of files))
    ∙ append_assoc mark (blocks (map item_of files)) (holds.at.list.gate ∷ holds.at.list.rest)

pub lies : (collector : Collector) (disk : DiskState) (files : List HeldFile) (name : List ℕ) (place : Place) → Holds collector disk files
    → place_of collector.names.held name ≡ Some place → LiesIn disk.first.seen files name place
lies collector disk files name place holds found =
    subst (λ (l : List ℕ). LiesIn l files name place) (sym (seen_is collector disk files holds))
    (lies_from mark files (holds.at.list.gate ∷ holds.at.list.rest) name place (sym (holds.places name) ∙ found))

-- A buffer that a read has filled.
pub filled : (text buf items seen : List ℕ) (n len offset : ℕ) → text ≡ take len (buf ++ drop (length buf) items) → buf ≡ take n (drop offset seen) → len ≡ n
    → offset + n ≤ length seen → text ≡ take n (drop offset seen)
filled text buf items seen n len offset is read same within = is ∙ take_at buf (drop (length buf) items) len counts ∙ read
  where
    counts : length buf ≡ len
    counts = ap length read ∙ length-take-le n (drop offset seen) (omega (arith, within, length-drop offset seen)) ∙ sym same

pub loaded_text : (rows : List (List ℕ × ℕ)) (files : List HeldFile) (n : ℕ) (name : List ℕ) (place : Place) (bytes text : List ℕ)
    → slice_get rows n ≡ Some (name, place.size) → LiesIn bytes files name place → text ≡ take place.size (drop place.offset bytes)
    → (x : List ℕ) × (slice_get rows n ≡ Some (x, length text)) × (text_in files x ≡ Some text)
loaded_text rows files n name place bytes text row here is = (
  name,
  row ∙ ap (λ (k : ℕ). Some (name, k)) (sym counts),
  here.text ∙ ap (λ (t : List ℕ). Some t) (sym is),
)
  where
    counts : length text ≡ place.size
    counts = ap length is ∙ length-take-le place.size (drop place.offset bytes) (omega (arith, here.within, length-drop place.offset bytes))
