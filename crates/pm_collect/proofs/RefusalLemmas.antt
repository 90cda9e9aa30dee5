-- Why a store isn't opened.
use Rattle.std.proofs.Common.{◌≡◌, ℕ, ◌<◌, ◌≤◌, ◌^◌, ◌⊎◌, inl, inr, get_or, false, List, [], ◌∷◌, ◌++◌, length, map, drop, Result, Ok, Err, IfErr, refl, sym, ap, subst, ◌∙◌, arith}
use Rattle.std.proofs.lemmas.List.{drop_at}
use Rattle.pm_disk.specs.declared.area.Area.{Area}
use Rattle.pm_disk.specs.declared.area.Area.TheVariants.{First}
use Rattle.pm_disk.specs.Moments.{DiskState, Told, of}
use Rattle.pm_journal.specs.declared.item.Item.{Item}
use Rattle.pm_journal.specs.declared.error.JournalError.{JournalError}
use Rattle.pm_journal.specs.declared.error.JournalError.TheVariants as journal
use Rattle.pm_journal.specs.declared.journal.Journal.{Journal}
use Rattle.pm_journal.specs.Items.{size_bytes, blocks, prefix, mark, EachFits, HasList}
use Rattle.pm_journal.specs.Opening.{IsBegun}
use Rattle.pm_journal.specs.Reading.{IsOpenItem, IsGarbled, HandsOut}
use Rattle.pm_journal.specs.Refusals as refusals
use Rattle.pm_journal.proofs.ItemsLemmas.{block_item, prefix-append, EachFits-right}
use Rattle.pm_collect.specs.declared.collector.Collector.{Collector}
use Rattle.pm_collect.specs.declared.collector.TheConstants.{MOST_BYTES}
use Rattle.pm_collect.specs.declared.error.CollectError.{CollectError}
use Rattle.pm_collect.specs.declared.error.CollectError.TheVariants.{C1, C2, C4, C3, StoreFault, Foreign, Garbled, StoreFull, Memory}
use Rattle.pm_collect.specs.Errors.{IsErrorOf}
use Rattle.pm_collect.specs.Stored.{HeldFile, item_of, IsItem, IsReportOf}
use Rattle.pm_collect.specs.Maps.{has}
use Rattle.pm_collect.specs.Collector.{names_in, Reads}
use Rattle.pm_collect.specs.Opening.{IsBadItem, IsGarbledAt, RefusesToOpen, RefusesNext, RefusesItem}

-- ---- the beginning

pub begin_refused : (IsTold : Type 0) (old new : Told) (e : JournalError) (e' : CollectError) → IsErrorOf e e'
    → refusals.RefusesToOpen IsTold MOST_BYTES First old new e → RefusesToOpen IsTold old new e'
begin_refused IsTold old new journal.StoreFault e' is why = subst (λ (x : CollectError). RefusesToOpen IsTold old new x) (sym is) tt
begin_refused IsTold old new journal.Foreign e' is why = subst (λ (x : CollectError). RefusesToOpen IsTold old new x) (sym is) why
begin_refused IsTold old new (journal.Garbled offset) e' is why = absurd why
begin_refused IsTold old new (journal.StoreFull length' need) e' is why = absurd (omega (arith, why.2))
begin_refused IsTold old new journal.Memory e' is why = absurd why

-- ---- the next item

-- What the area has from the gate on.
from_gate : (bytes : List ℕ) (given left : List (List ℕ)) (list : HasList bytes (given ++ left)) → bytes ≡ prefix given ++ (blocks left ++ list.gate ∷ list.rest)
from_gate bytes given left list = list.is ∙ prefix-append given left (list.gate ∷ list.rest)

within : (old : Collector) (disk : DiskState) (files : List HeldFile) (left : List (List ℕ)) → Reads old disk files left → length disk.first.seen ≤ MOST_BYTES
within old disk files left reads = omega (arith, reads.at.length, old.journal.in_limit, old.limit)

cut_short : (old : Collector) (disk : DiskState) (files : List HeldFile) (left : List (List ℕ)) → Reads old disk files left
    → IsGarbled (drop old.journal.at disk.first.seen) → IsGarbledAt disk.first.seen old.journal.at
cut_short old disk files left reads garbled = record {
  files = files;
  each = reads.each;
  once = reads.once;
  behind = blocks left ++ reads.at.list.gate ∷ reads.at.list.rest;
  is = from_gate disk.first.seen (map item_of files) left reads.at.list;
  place = reads.at.gate;
  within = within old disk files left reads;
  why = inl (subst IsGarbled
      (ap (drop old.journal.at) (from_gate disk.first.seen (map item_of files) left reads.at.list)
      ∙ drop_at (prefix (map item_of files)) _ old.journal.at (sym reads.at.gate)) garbled);
}

pub next_refused : (IsTold : Type 0) (old : Collector) (new : Journal) (told told' : Told) (area : Area) → area ≡ First → (e : JournalError) (e' : CollectError) → IsErrorOf e e'
    → refusals.RefusesNext IsTold old.journal new told told' e → old.journal.area ≡ area → RefusesNext IsTold old told.now e'
next_refused IsTold old new told told' area first journal.StoreFault e' is why same = subst (λ (x : CollectError). RefusesNext IsTold old told.now x) (sym is) tt
next_refused IsTold old new told told' area first journal.Foreign e' is why same = absurd why
next_refused IsTold old new told told' area first (journal.Garbled offset) e' is why same =
    subst (λ (x : CollectError). RefusesNext IsTold old told.now x) (sym is)
    (λ told_is files left reads.
    subst (λ (n : ℕ). IsGarbledAt told.now.first.seen n) (sym why.0)
    (cut_short old told.now files left reads
    (subst (λ (a : Area). IsGarbled (drop old.journal.at (of told.now a).seen)) (same ∙ first) (why.2 told_is).1)))
next_refused IsTold old new told told' area first (journal.StoreFull length' need) e' is why same = absurd why
next_refused IsTold old new told told' area first journal.Memory e' is why same = subst (λ (x : CollectError). RefusesNext IsTold old told.now x) (sym is) tt

bad_item : (old : Collector) (disk disk' : DiskState) (new : Journal) (item : Item) (files : List HeldFile) (left : List (List ℕ)) → Reads old disk files left
    → HandsOut item old.journal new disk'.first (map item_of files) left
    → ((f : HeldFile) → IsItem item.bytes f → IsReportOf f.name f.text → has old.names.held f.name ≡ false → ⊥)
    → IsGarbledAt disk.first.seen item.offset
bad_item old disk disk' new item files left reads out bad = record {
  files = files;
  each = reads.each;
  once = reads.once;
  behind = blocks left ++ reads.at.list.gate ∷ reads.at.list.rest;
  is = from_gate disk.first.seen (map item_of files) left reads.at.list;
  place = out.offset;
  within = within old disk files left reads;
  why = inr (item.bytes, opened, λ f is report absent. bad f is report (reads.names.held f.name ∙ absent));
}
  where
    fits : length item.bytes < 2 ^ 32
    fits = (subst EachFits out.first (EachFits-right (map item_of files) left reads.at.list.fits)).0

    opened : IsOpenItem (blocks left ++ reads.at.list.gate ∷ reads.at.list.rest) item.bytes
    opened = record {
      after_gate = (size_bytes (length item.bytes) ++ item.bytes ++ blocks out.rest) ++ reads.at.list.gate ∷ reads.at.list.rest;
      after_item = blocks out.rest ++ reads.at.list.gate ∷ reads.at.list.rest;
      is = ap (λ (l : List (List ℕ)). blocks l ++ reads.at.list.gate ∷ reads.at.list.rest) out.first;
      found = block_item item.bytes out.rest reads.at.list.gate reads.at.list.rest fits;
    }

item_error : (IsTold : Type 0) (old : Collector) (disk : DiskState) (item : Item) (e : CollectError)
    → (IsTold → (files : List HeldFile) (left : List (List ℕ)) → Reads old disk files left
    → ((f : HeldFile) → IsItem item.bytes f → IsReportOf f.name f.text → has old.names.held f.name ≡ false → ⊥) → IsGarbledAt disk.first.seen item.offset)
    → RefusesItem item.bytes item.offset old.names e → RefusesNext IsTold old disk e
item_error IsTold old disk item C1 bad why = absurd why
item_error IsTold old disk item C2 bad why = absurd why
item_error IsTold old disk item C4 bad why = absurd why
item_error IsTold old disk item C3 bad why = absurd why
item_error IsTold old disk item StoreFault bad why = tt
item_error IsTold old disk item Foreign bad why = absurd why
item_error IsTold old disk item (Garbled offset) bad why = λ told files left reads.
    subst (λ (n : ℕ). IsGarbledAt disk.first.seen n) (sym why.0) (bad told files left reads why.1)
item_error IsTold old disk item (StoreFull length' need) bad why = absurd why
item_error IsTold old disk item Memory bad why = tt

pub item_refused : {T : Type 0} (IsTold : Type 0) (old : Collector) (disk disk' : DiskState) (new : Journal) (item : Item) (r : Result T CollectError)
    → (IsTold → (files : List HeldFile) (left : List (List ℕ)) → Reads old disk files left → HandsOut item old.journal new disk'.first (map item_of files) left)
    → IfErr r (RefusesItem item.bytes item.offset old.names) → IfErr r (RefusesNext IsTold old disk)
item_refused IsTold old disk disk' new item (Ok t) out why = tt
item_refused IsTold old disk disk' new item (Err e) out why =
    item_error IsTold old disk item e (λ told files left reads bad. bad_item old disk disk' new item files left reads (out told files left reads) bad) why

-- ---- the whole call

zero_one : (a b : ℕ) → a ≡ 0 → b ≡ 1 → a ≡ b → ⊥
zero_one a b zero one is = omega (arith, zero, one, is)

-- An area that was made empty isn't garbled.
fresh_is_good : (offset : ℕ) → IsGarbledAt (mark ++ 0 ∷ []) offset → ⊥
fresh_is_good offset garbled = first garbled.files garbled.is garbled.why
  where
    first : (files : List HeldFile) → mark ++ 0 ∷ [] ≡ prefix (map item_of files) ++ garbled.behind
        → IsGarbled garbled.behind ⊎ ((item : List ℕ) × IsOpenItem garbled.behind item × IsBadItem (names_in garbled.files) item) → ⊥
    first [] is (inl cut) = zero_one 0 1 refl refl (ap (λ (l : List ℕ). get_or l 8 0) (is ∙ ap (λ (l : List ℕ). mark ++ l) cut.is))
    first [] is (inr opened) = zero_one 0 1 refl refl (ap (λ (l : List ℕ). get_or l 8 0) (is ∙ ap (λ (l : List ℕ). mark ++ l) opened.1.is))
    first (f ∷ files) is why = zero_one 0 1 refl refl (ap (λ (l : List ℕ). get_or l 8 0) is)

pub open_refused : (IsTold : Type 0) (collector : Collector) (old mid new : Told) (e : CollectError)
    → (IsTold → IsBegun MOST_BYTES old.now.first.seen mid.now.first × ((files : List HeldFile) × (left : List (List ℕ)) × Reads collector mid.now files left))
    → RefusesNext IsTold collector mid.now e → RefusesToOpen IsTold old new e
open_refused IsTold collector old mid new C1 begun why = absurd why
open_refused IsTold collector old mid new C2 begun why = absurd why
open_refused IsTold collector old mid new C4 begun why = absurd why
open_refused IsTold collector old mid new C3 begun why = absurd why
open_refused IsTold collector old mid new StoreFault begun why = tt
open_refused IsTold collector old mid new Foreign begun why = absurd why
open_refused IsTold collector old mid new (Garbled offset) begun why = λ told.
    let here = begun told in
    let garbled = why told here.1.0 here.1.1 here.1.2 in
    elim (here.0.is) [
      | inl fresh ↦ absurd (fresh_is_good offset (subst (λ (l : List ℕ). IsGarbledAt l offset) fresh.1 garbled))
      | inr marked ↦ subst (λ (l : List ℕ). IsGarbledAt l offset) marked.1 garbled
    ]
open_refused IsTold collector old mid new (StoreFull length' need) begun why = absurd why
open_refused IsTold collector old mid new Memory begun why = tt
