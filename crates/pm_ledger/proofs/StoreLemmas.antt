-- What the images of a disk hold while items are added, and while they are read.
use Rattle.std.proofs.Common.{◌≡◌, ◌≤◌, ◌^◌, inl, inr, ℕ, List, [], ◌∷◌, ◌++◌, length, Option, Some, None, Result, Ok, Err, IfOk, IfErr, IfSome, drop, refl, sym, ◌∙◌, ap, subst, arith}
use Rattle.std.proofs.lemmas.List.{append-nil, map-append}
use Rattle.pm_disk.specs.declared.area.Area.{Area}
use Rattle.pm_disk.specs.declared.area.Area.TheVariants.{First}
use Rattle.pm_disk.specs.Area.{AreaState, IsImage}
use Rattle.pm_disk.specs.Moments.{DiskState, Told, IsDiskImage, Throughout, of}
use Rattle.pm_disk.proofs.MomentLemmas.{weaken}
use Rattle.pm_inventory.specs.Inventory.{InventoryState, slot_number}
use Rattle.pm_history.specs.declared.entry.Entry.{Entry}
use Rattle.pm_history.specs.History.{History, ◌▷◌, IsHistory}
use Rattle.pm_items.specs.Items.{kept}
use Rattle.pm_items.specs.Kept.{IsBeginning}
use Rattle.pm_items.proofs.KeptLemmas.{items-some, kept-some, kept_is_kept, kept-history, kept_begins, grown-more}
use Rattle.pm_journal.specs.Items.{IsWhole, HasItems}
use Rattle.pm_journal.specs.declared.journal.Journal.{Journal}
use Rattle.pm_journal.specs.declared.item.Item.{Item}
use Rattle.pm_journal.specs.declared.error.JournalError.{JournalError}
use Rattle.pm_journal.specs.declared.error.JournalError.TheVariants as journal_error
use Rattle.pm_journal.specs.Refusals as journal_refusals
use Rattle.pm_journal.specs.Reading.{IsNext, IsGarbled}
use Rattle.pm_journal.specs.Journal.{IsAtEnd}
use Rattle.pm_journal.specs.Journal as journal
use Rattle.pm_journal.specs.Lists.{HasEither, KeepsLists}
use Rattle.pm_journal.proofs.ImageLemmas.{only_image}
use Rattle.pm_store.specs.declared.item.Item1.{Item1}
use Rattle.pm_store.specs.Item.{IsItem}
use Rattle.pm_store.specs.Stored.{item_in}
use Rattle.pm_ledger.specs.declared.error.OpenError.{OpenError}
use Rattle.pm_ledger.specs.declared.error.OpenError.TheVariants.{StoreFault, Foreign, Garbled, Memory}
use Rattle.pm_ledger.specs.declared.ledger.Ledger.{Ledger}
use Rattle.pm_ledger.specs.Stored.{HasText, IsOver, AreStored, HasTexts, AddsItem, Holds}
use Rattle.pm_ledger.specs.Between.{HoldsBetween, EachBetween}
use Rattle.pm_ledger.specs.Ledger.{gate_of, IsLedgerOf, IsReady, IsAt, IsTied, Finds, TellsNext}
use Rattle.pm_ledger.specs.Refusals.{IsNoItem, BeginsBad, IsGarbledAt, IsReading, RefusesNext}

-- ---- one item more

stored_more : (inventory : InventoryState) (items : List Item1) (texts : List (List ℕ)) (item : Item1) (bytes : List ℕ)
    → AreStored inventory items texts → HasText item bytes → IsOver inventory item
    → AreStored inventory (items ++ item ∷ []) (texts ++ bytes ∷ [])
stored_more inventory [] [] item bytes stored text over = (text, over, tt)
stored_more inventory [] (t ∷ ts) item bytes stored text over = absurd stored
stored_more inventory (i ∷ is) [] item bytes stored text over = absurd stored
stored_more inventory (i ∷ is) (t ∷ ts) item bytes stored text over =
    (stored.0, stored.1, stored_more inventory is ts item bytes stored.2 text over)

pub texts_more : (inventory : InventoryState) (texts : List (List ℕ)) (h : History) (e : Entry) (bytes : List ℕ)
    → HasTexts inventory texts h → AddsItem inventory h e bytes → HasTexts inventory (texts ++ bytes ∷ []) (h ▷ e)
texts_more inventory texts h e bytes has adds = record {
  items = has.items ++ adds.item ∷ [];
  stored = stored_more inventory has.items texts adds.item bytes has.stored adds.text adds.over;
  are =
      map-append (item_in (slot_number inventory)) has.items (adds.item ∷ [])
      ∙ (ap (λ is. is ++ item_in (slot_number inventory) adds.item ∷ []) has.are
      ∙ sym (items-some h e (item_in (slot_number inventory) adds.item) adds.is));
}

-- ---- histories between

begins_itself : (h : History) → IsBeginning h h
begins_itself h = record { more = []; is = refl }

kept_begins_next : (h : History) (e : Entry) → IsHistory h → IsBeginning (kept h) (h ▷ e)
kept_begins_next h e history =
    let adds = kept_begins h history in
    record { more = adds.more ++ e ∷ []; is = ap (λ x. x ▷ e) adds.is ∙ sym (grown-more (kept h) adds.more e) }

holds_kept : (inventory : InventoryState) (bytes : List ℕ) (texts : List (List ℕ)) (h : History) → IsWhole bytes → HasItems bytes texts
    → HasTexts inventory texts h → IsHistory h → Holds inventory bytes (kept h)
holds_kept inventory bytes texts h whole list has history =
    let twice = kept_is_kept h in
    record {
      whole = whole;
      texts = texts;
      list = list;
      has = record { items = has.items; stored = has.stored; are = has.are ∙ sym twice.1 };
      history = kept-history h history;
      kept_is = twice.0;
    }

holds_next : (inventory : InventoryState) (bytes : List ℕ) (texts : List (List ℕ)) (h : History) (e : Entry) (item : List ℕ)
    → IsWhole bytes → HasItems bytes (texts ++ item ∷ []) → HasTexts inventory texts h → AddsItem inventory h e item
    → Holds inventory bytes (h ▷ e)
holds_next inventory bytes texts h e item whole list has adds = record {
  whole = whole;
  texts = texts ++ item ∷ [];
  list = list;
  has = texts_more inventory texts h e item has adds;
  history = adds.history;
  kept_is = kept-some h e (item_in (slot_number inventory) adds.item) adds.is;
}

-- While an item is added, each image holds what was kept, or the history with the entry.
pub holds_either : (inventory : InventoryState) (old disk : DiskState) (texts : List (List ℕ)) (h : History) (e : Entry) (bytes : List ℕ)
    → HasTexts inventory texts h → AddsItem inventory h e bytes → HasEither First old texts (texts ++ bytes ∷ []) disk
    → EachBetween inventory (kept h) (h ▷ e) disk
holds_either inventory old disk texts h e bytes has adds either = record { each = each }
  where
    each : (image : List ℕ × List ℕ) → IsDiskImage disk image → HoldsBetween inventory (kept h) (h ▷ e) image.0
    each image is =
        let one = either.each image.0 is.first in
        elim one.1 [
          | inl before ↦ record {
            h = kept h;
            between = record { from = begins_itself (kept h); to = kept_begins_next h e adds.history.0 };
            holds = holds_kept inventory image.0 texts h one.0 before has adds.history.0;
          }
          | inr after ↦ record {
            h = h ▷ e;
            between = record { from = kept_begins_next h e adds.history.0; to = begins_itself (h ▷ e) };
            holds = holds_next inventory image.0 texts h e bytes one.0 after has adds;
          }
        ]

-- ---- between calls

whole_at_end : (bytes : List ℕ) (texts : List (List ℕ)) → HasItems bytes texts → IsAtEnd bytes texts → length bytes ≤ 2 ^ 32 → IsWhole bytes
whole_at_end bytes texts list end small = elim list [
  | inl few ↦ record { ends = inl few.0; small = small }
  | inr has ↦ record { ends = inr (texts, record { fits = has.fits; gate = end.gate; rest = []; is = end.is; closed = end.closed }); small = small }
]

-- Each image holds what is kept of the history.
pub holds_at_rest : (inventory : InventoryState) (ledger : Ledger) (disk : DiskState) (h : History) → IsReady ledger
    → IsLedgerOf inventory ledger disk h → IsHistory h → EachBetween inventory (kept h) (kept h) disk
holds_at_rest inventory ledger disk h ready of history = record { each = each }
  where
    small : length disk.first.seen ≤ 2 ^ 32
    small = omega (arith, of.at.length, ledger.journal.in_limit, ledger.journal.small)

    list : HasItems disk.first.seen of.texts
    list = subst (λ (l : List (List ℕ)). HasItems disk.first.seen l) (append-nil of.texts) (inr of.at.list)

    each : (image : List ℕ × List ℕ) → IsDiskImage disk image → HoldsBetween inventory (kept h) (kept h) image.0
    each image is =
        let same : image.0 ≡ disk.first.seen = only_image disk.first.seen image.0 disk.first of.at.on_disk is.first in
        let whole = whole_at_end disk.first.seen of.texts list (of.at.ready ready) small in
        record {
          h = kept h;
          between = record { from = begins_itself (kept h); to = begins_itself (kept h) };
          holds = subst (λ (b : List ℕ). Holds inventory b (kept h)) (sym same) (holds_kept inventory disk.first.seen of.texts h whole list of.has history);
        }

-- ---- while items are read

pub keeps_between : (inventory : InventoryState) (a b : History) (old disk : DiskState) → KeepsLists First old disk
    → EachBetween inventory a b old → EachBetween inventory a b disk
keeps_between inventory a b old disk keeps all = record { each = each }
  where
    each : (image : List ℕ × List ℕ) → IsDiskImage disk image → HoldsBetween inventory a b image.0
    each image is =
        let one = keeps.each image.0 is.first in
        let held = all.each (one.0, image.1) (record { first = one.1; second = subst (λ (s : AreaState). IsImage s image.1) keeps.that is.second }) in
        record {
          h = held.h;
          between = held.between;
          holds = record {
            whole = one.2.whole held.holds.whole;
            texts = held.holds.texts;
            list = one.2.items held.holds.texts held.holds.list;
            has = held.holds.has;
            history = held.holds.history;
            kept_is = held.holds.kept_is;
          };
        }

-- ---- the first area

pub of_first : (area : Area) → area ≡ First → (ledger : Ledger) (disk : DiskState) (told left : List (List ℕ)) → IsAt ledger disk told left
    → journal.IsAt ledger.journal (of disk area) told left
of_first area is ledger disk told left at = subst (λ (a : Area). journal.IsAt ledger.journal (of disk a) told left) (sym is) at

pub first_of : (area : Area) → area ≡ First → (j : Journal) (disk : DiskState) (told left : List (List ℕ)) → journal.IsAt j (of disk area) told left
    → journal.IsAt j disk.first told left
first_of area is j disk told left at = subst (λ (a : Area). journal.IsAt j (of disk a) told left) is at

-- At each moment while an item is added, each image holds what was kept, or the history with the entry.
pub moments_between : (inventory : InventoryState) (area : Area) → area ≡ First → (old new : Told) (texts : List (List ℕ)) (h : History) (e : Entry)
    (bytes : List ℕ) → HasTexts inventory texts h → AddsItem inventory h e bytes
    → Throughout (HasEither area old.now texts (texts ++ bytes ∷ [])) old new → Throughout (EachBetween inventory (kept h) (h ▷ e)) old new
moments_between inventory area is old new texts h e bytes has adds run =
    weaken (HasEither First old.now texts (texts ++ bytes ∷ [])) (EachBetween inventory (kept h) (h ▷ e)) old new
    (λ state. holds_either inventory old.now state texts h e bytes has adds)
    (subst (λ (a : Area). Throughout (HasEither a old.now texts (texts ++ bytes ∷ [])) old new) is run)

-- The same while items are read.
pub moments_keep : (inventory : InventoryState) (area : Area) → area ≡ First → (old new : Told) (a b : History)
    → EachBetween inventory a b old.now → Throughout (KeepsLists area old.now) old new → Throughout (EachBetween inventory a b) old new
moments_keep inventory area is old new a b all run =
    weaken (KeepsLists First old.now) (EachBetween inventory a b) old new (λ state keeps. keeps_between inventory a b old.now state keeps all)
    (subst (λ (x : Area). Throughout (KeepsLists x old.now) old new) is run)

-- ---- what is read

pub found_first : (area : Area) → area ≡ First → (next : Option Item) (old new : Journal) (disk disk' : DiskState) (told left : List (List ℕ))
    → IsNext next old new (of disk area) (of disk' area) told left → IsNext next old new disk.first disk'.first told left
found_first area is next old new disk disk' told left found =
    subst (λ (a : Area). IsNext next old new (of disk a) (of disk' a) told left) is found

pub tells_next : (item : Item) (stored : Item1) (old new : Ledger) (disk disk' : DiskState) (told left : List (List ℕ))
    → HasText stored item.bytes → Finds (Some item) old new disk disk' told left → TellsNext (Some stored) new disk' told left
tells_next item stored old new disk disk' told left text found = (item.bytes, found.0.rest, found.0.first, text, found.0.at)

pub garbled_at : (item : Item) (old new : Ledger) (told told' : Told) → IsTied old told.now → IsNoItem item.bytes
    → ((read left : List (List ℕ)) → IsAt old told.now read left → Finds (Some item) old new told.now told'.now read left)
    → IsGarbledAt item.offset old told told'
garbled_at item old new told told' tied none found =
    let first = found tied.0 tied.1 tied.2 in
    record {
      at = first.0.offset ∙ sym tied.2.gate;
      same = first.1;
      bad = λ read left at. inr (begins left (found read left at).0.rest (found read left at).0.first);
    }
  where
    begins : (left rest : List (List ℕ)) → left ≡ item.bytes ∷ rest → BeginsBad left
    begins left rest is = subst BeginsBad (sym is) none

pub garbled_in : (IsTold : Type 0) (old : Ledger) (new : Journal) (told told' : Told) (offset : ℕ) (e : JournalError)
    → e ≡ journal_error.Garbled offset → journal_refusals.RefusesNext IsTold old.journal new told told' e → IsTold
    → IsGarbledAt offset old told told'
garbled_in IsTold old new told told' offset e e-is refuses is =
    let refused = subst (journal_refusals.RefusesNext IsTold old.journal new told told') e-is refuses in
    let bad = refused.2 is in
    record {
      at = refused.0;
      same = ap (λ (t : Told). t.now.first) bad.0;
      bad = λ read left here. inl (subst (λ (a : Area). IsGarbled (drop (gate_of old) (of told.now a).seen)) old.area bad.1);
    }

pub read_tells : (item : Item) (result : Result (Option Item1) OpenError) (next : Option Item) (old new : Ledger) (disk disk' : DiskState)
    (told left : List (List ℕ)) → next ≡ Some item → IsReading item.offset item.bytes result → Finds next old new disk disk' told left
    → IfOk result (λ stored. TellsNext stored new disk' told left)
read_tells item (Ok None) next old new disk disk' told left is reads found = absurd reads
read_tells item (Ok (Some stored)) next old new disk disk' told left is reads found =
    tells_next item stored old new disk disk' told left reads (subst (λ (n : Option Item). Finds n old new disk disk' told left) is found)
read_tells item (Err e) next old new disk disk' told left is reads found = tt

pub read_refuses : (IsTold : Type 0) (item : Item) (result : Result (Option Item1) OpenError) (next : Option Item) (old new : Ledger)
    (told told' : Told) → next ≡ Some item → (IsTold → IsTied old told.now) → IsReading item.offset item.bytes result
    → (IsTold → (read left : List (List ℕ)) → IsAt old told.now read left → Finds next old new told.now told'.now read left)
    → IfErr result (RefusesNext IsTold old told told')
read_refuses IsTold item (Ok o) next old new told told' is tied reads found = tt
read_refuses IsTold item (Err StoreFault) next old new told told' is tied reads found = absurd reads
read_refuses IsTold item (Err Foreign) next old new told told' is tied reads found = absurd reads
read_refuses IsTold item (Err (Garbled offset)) next old new told told' is tied reads found = λ tells.
    subst (λ (n : ℕ). IsGarbledAt n old told told') (sym reads.0)
    (garbled_at item old new told told' (tied tells) reads.1 (λ read left at.
    subst (λ (n : Option Item). Finds n old new told.now told'.now read left) is (found tells read left at)))
read_refuses IsTold item (Err Memory) next old new told told' is tied reads found = tt

-- What is read is an item.
pub read_item_is : (offset : ℕ) (bytes : List ℕ) (r : Result (Option Item1) OpenError) → IsReading offset bytes r → IfOk r (λ next. IfSome next IsItem)
read_item_is offset bytes (Err e) reading = tt
read_item_is offset bytes (Ok None) reading = absurd reading
read_item_is offset bytes (Ok (Some item)) reading = reading.fits
