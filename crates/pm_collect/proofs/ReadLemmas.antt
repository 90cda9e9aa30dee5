-- What is read of a store, file by file, and what the images of its disk have meanwhile.
use Rattle.std.proofs.Common.{◌≡◌, ◌<◌, ◌≤◌, ◌^◌, ℕ, length, drop, refl, arith, Bool, true, false, inl, inr, List, [], ◌∷◌, ◌++◌, map, Option, Some, None, Result, Ok, Err, IfOk, sym, ap, subst, ◌∙◌, append_assoc}
use Rattle.std.specs.Prelude.{◌||◌, bytes_eq, cond}
use Rattle.std.proofs.lemmas.Cmp.{nat_list_eq_equiv}
use Rattle.std.proofs.lemmas.List.{append-nil, map-append, drop_at}
use Rattle.std.proofs.lemmas.List.Elements.{All-push}
use Rattle.std.proofs.lemmas.List.Folds.{list_any-append}
use Rattle.pm_disk.specs.Area.{AreaState}
use Rattle.pm_disk.specs.declared.area.Area.{Area}
use Rattle.pm_disk.specs.declared.area.Area.TheVariants.{First}
use Rattle.pm_disk.specs.Moments.{DiskState, Told, Throughout, of}
use Rattle.pm_disk.proofs.MomentLemmas.{weaken, run_on, at_end}
use Rattle.pm_journal.specs.declared.item.Item.{Item}
use Rattle.pm_journal.specs.declared.journal.Journal.{Journal}
use Rattle.pm_journal.specs.Journal as journal
use Rattle.pm_journal.specs.Items.{prefix, HasItems, HasList, EndsAt}
use Rattle.pm_journal.specs.Lists.{KeepsLists}
use Rattle.pm_journal.specs.Opening.{IsBegun}
use Rattle.pm_journal.specs.Reading.{IsNext, IsClosedGate, HandsOut, EndsList}
use Rattle.pm_notice.specs.NoticeForm.{are_distinct}
use Rattle.pm_collect.specs.declared.collector.Collector.{Collector}
use Rattle.pm_collect.specs.declared.names.Names.{Names}
use Rattle.pm_collect.specs.Call.{is_one_of}
use Rattle.pm_collect.specs.Names.{IsAfter}
use Rattle.pm_collect.specs.Stored.{HeldFile, item_of}
use Rattle.pm_collect.specs.Maps.{place_of}
use Rattle.pm_collect.specs.Places.{place_in, file_offset}
use Rattle.pm_collect.specs.declared.names.Place.{Place}
use Rattle.pm_collect.specs.declared.collector.TheConstants.{MOST_BYTES}
use Rattle.pm_collect.specs.Collector.{names_in, IsHeld, Holds, HasFiles, Reads, TakesNext, Takes, IsOpened, EachHas}
use Rattle.pm_collect.proofs.PlaceLemmas.{placed_more}
use Rattle.pm_collect.proofs.CollectorLemmas.{distinct_more, turned}

keeps_has : (a b : List HeldFile) (old state : DiskState) → EachHas a b old → KeepsLists First old state → EachHas a b state
keeps_has a b old state all keeps image is =
    let one = keeps.each image is in
    elim (all one.0 one.1) [
      | inl has ↦ inl (record { whole = one.2.whole has.whole; items = one.2.items (map item_of a) has.items })
      | inr has ↦ inr (record { whole = one.2.whole has.whole; items = one.2.items (map item_of b) has.items })
    ]

pub moments_keep : (area : Area) → area ≡ First → (old new : Told) (a b : List HeldFile) → EachHas a b old.now
    → Throughout (KeepsLists area old.now) old new → Throughout (EachHas a b) old new
moments_keep area is old new a b all run =
    weaken (KeepsLists First old.now) (EachHas a b) old new (λ state keeps. keeps_has a b old.now state all keeps)
    (subst (λ (x : Area). Throughout (KeepsLists x old.now) old new) is run)

pub tied_first : (area : Area) → area ≡ First → (j : Journal) (disk : DiskState) → journal.IsTied j (of disk area) → journal.IsTied j disk.first
tied_first area is j disk tied = subst (λ (a : Area). journal.IsTied j (of disk a)) is tied

pub at_area : (area : Area) → area ≡ First → (j : Journal) (disk : DiskState) (given left : List (List ℕ)) → journal.IsAt j disk.first given left
    → journal.IsAt j (of disk area) given left
at_area area is j disk given left at = subst (λ (a : Area). journal.IsAt j (of disk a) given left) (sym is) at

pub found_first : (area : Area) → area ≡ First → (next : Option Item) (old new : Journal) (disk disk' : DiskState) (given left : List (List ℕ))
    → IsNext next old new (of disk area) (of disk' area) given left → IsNext next old new disk.first disk'.first given left
found_first area is next old new disk disk' given left found =
    subst (λ (a : Area). IsNext next old new (of disk a) (of disk' a) given left) is found

-- An item was handed out.
pub handed : (item : Item) (next : Option Item) (old new : Journal) (area area' : AreaState) (given left : List (List ℕ)) → next ≡ Some item
    → IsNext next old new area area' given left → HandsOut item old new area' given left × (area' ≡ area)
handed item next old new area area' given left is found = subst (λ (n : Option Item). IsNext n old new area area' given left) is found

-- The list ended.
pub ended : (next : Option Item) (old new : Journal) (area area' : AreaState) (given left : List (List ℕ)) → next ≡ None
    → IsNext next old new area area' given left → EndsList old new area area' given left
ended next old new area area' given left is found = subst (λ (n : Option Item). IsNext n old new area area' given left) is found

pub if_ok_to : {T E : Type 0} {P Q : T → Type 0} (r : Result T E) → ((t : T) → P t → Q t) → IfOk r P → IfOk r Q
if_ok_to (Ok t) to p = to t p
if_ok_to (Err e) to p = tt

-- The list is at its end.
pub reads_none : (old new : Collector) (disk disk' : DiskState) (files : List HeldFile) (left : List (List ℕ)) → new.names ≡ old.names
    → Reads old disk files left → (next : Option Item) → next ≡ None
    → IsNext next old.journal new.journal disk.first disk'.first (map item_of files) left → (left ≡ []) × Reads new disk' files []
reads_none old new disk disk' files left same reads next is found =
    let ends = subst (λ (n : Option Item). IsNext n old.journal new.journal disk.first disk'.first (map item_of files) left) is found in (
      ends.none_left,
      record {
        at = ends.at;
        each = reads.each;
        once = reads.once;
        names = subst (λ (n : Names). IsAfter (names_in files) [] n) (sym same) reads.names;
        places = subst (λ (n : Names). (name : List ℕ) → place_of n.held name ≡ place_in files name) (sym same) reads.places;
      },
    )

-- A file is taken.
pub reads_some : (old new : Collector) (j : Journal) (item : Item) (disk disk' : DiskState) (files : List HeldFile) (left : List (List ℕ))
    → new.journal ≡ j → Takes item.bytes item.offset old.names new.names → Reads old disk files left
    → (next : Option Item) → next ≡ Some item → IsNext next old.journal j disk.first disk'.first (map item_of files) left
    → TakesNext true new disk' files left
reads_some old new j item disk disk' files left same takes reads next is finds = (
  f,
  found.0.rest,
  found.0.first ∙ ap (λ (b : List ℕ). b ∷ found.0.rest) takes.is.is,
  record {
    at = subst (λ (l : List (List ℕ)). journal.IsAt new.journal disk'.first l found.0.rest) (sym (map-append item_of files (f ∷ []))) moved;
    each = All-push IsHeld files f reads.each (record { fits = takes.is.fits; report = takes.report });
    once = ap are_distinct named ∙ distinct_more (names_in files) f.name reads.once (sym (reads.names.held f.name) ∙ takes.free);
    names = record {
      held = λ n.
          takes.held n
          ∙ ap (λ (b : Bool). bytes_eq f.name n || b) (reads.names.held n)
          ∙ turned (bytes_eq f.name n) (is_one_of (names_in files) n)
          ∙ ap (λ (b : Bool). is_one_of (names_in files) n || (b || false)) (nat_list_eq_equiv.symm f.name n)
          ∙ sym (list_any-append (bytes_eq n) (names_in files) (f.name ∷ []))
          ∙ ap (λ (l : List (List ℕ)). is_one_of l n) (sym named);
      wanted = λ n. takes.wanted n (reads.names.wanted n);
    };
    places = λ n.
        takes.placed small n
        ∙ ap (cond (bytes_eq f.name n) (Some place)) (reads.places n)
        ∙ placed_more files f place n (record { offset = ap (λ (g : ℕ). file_offset g f.name) found.0.offset; size = refl })
        (sym (reads.names.held f.name) ∙ takes.free);
  },
)
  where
    f : HeldFile
    f = takes.file

    found : IsNext (Some item) old.journal j disk.first disk'.first (map item_of files) left
    found = subst (λ (n : Option Item). IsNext n old.journal j disk.first disk'.first (map item_of files) left) is finds

    place : Place
    place = record { offset = file_offset item.offset f.name; size = length f.text }

    small : item.offset ≤ 2 ^ 32
    small = omega (arith, found.0.offset, reads.at.gate, old.journal.inside, old.journal.in_limit, old.journal.small)

    named : names_in (files ++ f ∷ []) ≡ names_in files ++ f.name ∷ []
    named = map-append (λ (h : HeldFile). h.name) files (f ∷ [])

    moved : journal.IsAt new.journal disk'.first (map item_of files ++ item_of f ∷ []) found.0.rest
    moved =
        subst (λ (b : List ℕ). journal.IsAt new.journal disk'.first (map item_of files ++ b ∷ []) found.0.rest) takes.is.is
        (subst (λ (k : Journal). journal.IsAt k disk'.first (map item_of files ++ item.bytes ∷ []) found.0.rest) (sym same) found.0.at)

-- All files are read.
pub holds_all : (collector : Collector) (disk : DiskState) (files : List HeldFile) → Reads collector disk files [] → Holds collector disk files
holds_all collector disk files reads = record {
  at = reads.at;
  each = reads.each;
  once = reads.once;
  names = reads.names.held;
  places = reads.places;
  opening = names_in files;
  calls = [];
  after = reads.names;
}

more_items : (files : List HeldFile) (f : HeldFile) (left rest : List (List ℕ)) → left ≡ item_of f ∷ rest
    → map item_of files ++ left ≡ map item_of (files ++ f ∷ []) ++ rest
more_items files f left rest is =
    ap (λ (l : List (List ℕ)). map item_of files ++ l) is
    ∙ sym (append_assoc (map item_of files) (item_of f ∷ []) rest)
    ∙ ap (λ (l : List (List ℕ)). l ++ rest) (sym (map-append item_of files (f ∷ [])))

-- Another file of the list is taken.
pub reads_on : (new : Collector) (disk disk' : DiskState) (files : List HeldFile) (left : List (List ℕ)) (more : Bool) → more ≡ true
    → HasItems disk.first.seen (map item_of files ++ left) → TakesNext more new disk' files left
    → (files' : List HeldFile) × (left' : List (List ℕ)) × HasItems disk.first.seen (map item_of files' ++ left') × Reads new disk' files' left'
reads_on new disk disk' files left more is items next =
    let taken = subst (λ (b : Bool). TakesNext b new disk' files left) is next in (
      files ++ taken.0 ∷ [],
      taken.1,
      subst (λ (l : List (List ℕ)). HasItems disk.first.seen l) (more_items files taken.0 left taken.1 taken.2) items,
      taken.3,
    )

head_of : (x y : ℕ) (xs ys : List ℕ) → x ∷ xs ≡ y ∷ ys → x ≡ y
head_of x y xs ys same = cc

-- A list that ends at a closed gate.
closed_list : (bytes : List ℕ) (items : List (List ℕ)) (at : ℕ) → HasList bytes items → at ≡ length (prefix items) → IsClosedGate (drop at bytes)
    → EndsAt bytes items
closed_list bytes items at list is closed = record {
  fits = list.fits;
  gate = list.gate;
  rest = list.rest;
  is = list.is;
  closed = λ one.
      closed.closed
      (head_of closed.gate list.gate closed.after_gate list.rest
      (sym closed.is ∙ ap (drop at) list.is ∙ drop_at (prefix items) (list.gate ∷ list.rest) at (sym is)) ∙ one);
}

-- The bytes that are opened have the files that are read.
opened_files : (old seen : List ℕ) (area : AreaState) (files : List HeldFile) (at : ℕ) → IsBegun MOST_BYTES old area → area.seen ≡ seen
    → HasItems old (map item_of files) → at ≡ length (prefix (map item_of files)) → IsClosedGate (drop at seen) → length seen ≤ 2 ^ 32 → HasFiles old files
opened_files old seen area files at begun same items is closed small = elim (begun.is) [
  | inl fresh ↦ record { whole = record { ends = inl fresh.0.few; small = omega (arith, fresh.0.few) }; items = items }
  | inr marked ↦
      let here : old ≡ seen = sym marked.1 ∙ same in
      record {
        whole = record {
          ends = inr (map item_of files, closed_list old (map item_of files) at (listed marked.0.not_fresh items) is (subst (λ (l : List ℕ). IsClosedGate (drop at l)) (sym here) closed));
          small = omega (arith, small, ap length here);
        };
        items = items;
      }
]
  where
    listed : 9 < length old → HasItems old (map item_of files) → HasList old (map item_of files)
    listed many (inl few) = absurd (omega (arith, many, few.0))
    listed many (inr list) = list

-- The list is at its end.
pub opens : (before : Collector) (new : Collector) (disk mid disk' : DiskState) (files : List HeldFile) (left : List (List ℕ)) (more : Bool) → more ≡ false
    → HasItems disk.first.seen (map item_of files ++ left) → TakesNext more new disk' files left
    → IsBegun MOST_BYTES disk.first.seen mid.first → Reads before mid files left → IsClosedGate (drop before.journal.at mid.first.seen)
    → IsOpened disk disk' new
opens before new disk mid disk' files left more is items next begun reads closed =
    let ended = subst (λ (b : Bool). TakesNext b new disk' files left) is next in
    record {
      files = files;
      has =
          opened_files disk.first.seen mid.first.seen mid.first files before.journal.at begun refl
          (subst (λ (l : List (List ℕ)). HasItems disk.first.seen l)
          (ap (λ (l : List (List ℕ)). map item_of files ++ l) ended.0 ∙ append-nil (map item_of files)) items)
          reads.at.gate closed
          (omega (arith, reads.at.length, before.journal.in_limit, before.journal.small));
      holds = holds_all new disk' files ended.1;
      after = ended.1.names;
    }

-- More calls of the disk.
pub moments_on : (old mid new : Told) (a b : List HeldFile) → Throughout (EachHas a b) old mid
    → (EachHas a b mid.now → Throughout (EachHas a b) mid new) → Throughout (EachHas a b) old new
moments_on old mid new a b run more = run_on (EachHas a b) old mid new run (more (at_end (EachHas a b) old mid run))
