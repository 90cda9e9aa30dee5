-- The journal and its area after an item was handed out, and after the end of the list.
use Rattle.std.proofs.Common.{◌≡◌, ◌≢◌, ◌⊎◌, inl, ℕ, ◌+◌, List, [], ◌∷◌, ◌++◌, length, take, drop, refl, sym, ◌∙◌, ap, subst, arith, append_assoc, length-append, Option, Some, None, Result, Ok, Err, IfOk, IsNone, IsSome}
use Rattle.std.proofs.lemmas.List.{append-nil, take_at}
use Rattle.pm_disk.specs.declared.area.Area.{Area}
use Rattle.pm_disk.specs.Area.{AreaState, IsImage, clean}
use Rattle.pm_disk.specs.Moments.{Told, Throughout, of}
use Rattle.pm_disk.proofs.MomentLemmas.{weaken}
use Rattle.pm_journal.specs.declared.item.Item.{Item}
use Rattle.pm_journal.specs.declared.journal.Journal.{Journal}
use Rattle.pm_journal.specs.declared.error.JournalError.{JournalError}
use Rattle.pm_journal.specs.declared.phase.Phase.TheVariants.{Ready}
use Rattle.pm_journal.specs.Items.{blocks, prefix, IsItem, IsCutShort, EachFits, HasList, EndsAt}
use Rattle.pm_journal.specs.Lists.{KeepsLists}
use Rattle.pm_journal.specs.Journal.{IsAt, IsTied}
use Rattle.pm_journal.specs.Appending.{IsCutting}
use Rattle.pm_journal.specs.Reading.{IsOpenItem, IsClosedGate, HandsOut, EndsList}
use Rattle.pm_journal.proofs.ItemsLemmas.{item_unique, block_item, stop_has_no_item, drop_prefix, length-prefix_push, EachFits-left, EachFits-right}
use Rattle.pm_journal.proofs.ListLemmas.{keeps_up_to_gate}

head_of : (x y : ℕ) (xs ys : List ℕ) → x ∷ xs ≡ y ∷ ys → x ≡ y
head_of x y xs ys same = cc

tail_of : (x y : ℕ) (xs ys : List ℕ) → x ∷ xs ≡ y ∷ ys → xs ≡ ys
tail_of x y xs ys same = cc

-- What the area has from the journal's gate on.
from_gate : (old : Journal) (area : AreaState) (given left : List (List ℕ)) (at : IsAt old area given left)
    → drop old.at area.seen ≡ blocks left ++ at.list.gate ∷ at.list.rest
from_gate old area given left at =
    ap (λ (l : List ℕ). drop old.at l) at.list.is
    ∙ ap (λ (n : ℕ). drop n (prefix (given ++ left) ++ at.list.gate ∷ at.list.rest)) at.gate
    ∙ drop_prefix given left (at.list.gate ∷ at.list.rest)

-- An open item there is the first of those left.
open_item_is : (bytes item : List ℕ) (left : List (List ℕ)) (gate : ℕ) (rest : List ℕ) → EachFits left
    → (gate ≢ 1) ⊎ IsCutShort rest → bytes ≡ blocks left ++ gate ∷ rest → IsOpenItem bytes item
    → (others : List (List ℕ)) × (left ≡ item ∷ others)
open_item_is bytes item [] gate rest fits stops is found =
    let same : gate ∷ rest ≡ 1 ∷ found.after_gate = sym is ∙ found.is in
    absurd (stop_has_no_item gate rest item found.after_item stops (head_of gate 1 rest found.after_gate same) (subst (λ (l : List ℕ). IsItem l item found.after_item) (sym (tail_of gate 1 rest found.after_gate same)) found.found))
open_item_is bytes item (first ∷ others) gate rest fits stops is found =
    let block = block_item first others gate rest fits.0 in
    let same = sym found.is ∙ is in
    let there = subst (λ (l : List ℕ). IsItem l item found.after_item) (tail_of 1 1 found.after_gate _ same) found.found in
    (others, ap (λ (x : List ℕ). x ∷ others) (sym (item_unique _ item found.after_item first (blocks others ++ gate ∷ rest) there block).0))

-- At a closed gate none is left.
none_left : (bytes : List ℕ) (left : List (List ℕ)) (gate : ℕ) (rest : List ℕ) → bytes ≡ blocks left ++ gate ∷ rest
    → (closed : IsClosedGate bytes) → (left ≡ []) × (gate ≢ 1)
none_left bytes [] gate rest is closed =
    let same : closed.gate ≡ gate = head_of closed.gate gate closed.after_gate rest (sym closed.is ∙ is) in
    (refl, λ is_open. closed.closed (same ∙ is_open))
none_left bytes (first ∷ others) gate rest is closed = absurd (closed.closed (head_of closed.gate 1 closed.after_gate _ (sym closed.is ∙ is)))

-- The next item is handed out.
handed_out : (item : Item) (v : List ℕ) (old new : Journal) (area : AreaState) (given left : List (List ℕ))
    → IsAt old area given left → IsOpenItem (drop old.at area.seen) v → item.bytes ≡ v → item.offset ≡ old.at
    → new.at ≡ old.at + 5 + length v → new.length ≡ old.length → (new.phase ≡ Ready → ⊥) → HandsOut item old new area given left
handed_out item v old new area given left at found bytes_is offset_is gate_is length_is reading =
    let first = open_item_is (drop old.at area.seen) v left at.list.gate at.list.rest (EachFits-right given left at.list.fits) at.list.stops (from_gate old area given left at) found in
    let left_is : left ≡ item.bytes ∷ first.0 = first.1 ∙ ap (λ (x : List ℕ). x ∷ first.0) (sym bytes_is) in
    let same : given ++ left ≡ (given ++ item.bytes ∷ []) ++ first.0 = ap (λ (l : List (List ℕ)). given ++ l) left_is ∙ sym (append_assoc given (item.bytes ∷ []) first.0) in
    record {
      rest = first.0;
      first = left_is;
      offset = offset_is ∙ at.gate;
      at = record {
        on_disk = at.on_disk;
        list = subst (λ (l : List (List ℕ)). HasList area.seen l) same at.list;
        gate = omega (arith, gate_is, at.gate, length-prefix_push given item.bytes, ap length bytes_is);
        length = length_is ∙ at.length;
        ready = λ ready. absurd (reading ready);
      };
    }

pub handed_out_at : (item : Item) (v : List ℕ) (old new : Journal) (area area' : AreaState) (given left : List (List ℕ))
    → IsAt old area given left → IsOpenItem (drop old.at area.seen) v → item.bytes ≡ v → item.offset ≡ old.at
    → new.at ≡ old.at + 5 + length v → new.length ≡ old.length → (new.phase ≡ Ready → ⊥) → area' ≡ area
    → HandsOut item old new area' given left × (area' ≡ area)
handed_out_at item v old new area area' given left at found bytes_is offset_is gate_is length_is reading same =
    (subst (λ (a : AreaState). HandsOut item old new a given left) (sym same) (handed_out item v old new area given left at found bytes_is offset_is gate_is length_is reading), same)

pub tied_after_item : (v : List ℕ) (old new : Journal) (area area' : AreaState) (given left : List (List ℕ))
    → IsAt old area given left → IsOpenItem (drop old.at area.seen) v → new.at ≡ old.at + 5 + length v → new.length ≡ old.length
    → (new.phase ≡ Ready → ⊥) → area' ≡ area → IsTied new area'
tied_after_item v old new area area' given left at found gate_is length_is reading same =
    let item : Item = record { offset = old.at; bytes = v } in
    let hands = handed_out item v old new area given left at found refl refl gate_is length_is reading in
    subst (λ (a : AreaState). IsTied new a) (sym same) (given ++ v ∷ [], hands.rest, hands.at)

-- What the area is where it is cut after the closed gate.
ended_there : (old : Journal) (area : AreaState) (given left : List (List ℕ)) (at : IsAt old area given left)
    → (closed : IsClosedGate (drop old.at area.seen)) → EndsAt area.seen given
ended_there old area given left at closed =
    let none = none_left (drop old.at area.seen) left at.list.gate at.list.rest (from_gate old area given left at) closed in
    let given_is : given ++ left ≡ given = ap (λ (l : List (List ℕ)). given ++ l) none.0 ∙ append-nil given in
    record {
      fits = EachFits-left given left at.list.fits;
      gate = at.list.gate;
      rest = at.list.rest;
      is = at.list.is ∙ ap (λ (l : List (List ℕ)). prefix l ++ at.list.gate ∷ at.list.rest) given_is;
      closed = none.1;
    }

pub list_ended : (old new : Journal) (area area' : AreaState) (given left : List (List ℕ)) → IsAt old area given left
    → IsClosedGate (drop old.at area.seen) → area' ≡ clean (take (old.at + 1) area.seen) → new.at ≡ old.at
    → new.length ≡ old.at + 1 → new.phase ≡ Ready → EndsList old new area area' given left
list_ended old new area area' given left at closed is gate_is length_is ready_is =
    let none = none_left (drop old.at area.seen) left at.list.gate at.list.rest (from_gate old area given left at) closed in
    let ends = ended_there old area given left at closed in
    let seen_is : area'.seen ≡ take (old.at + 1) area.seen = ap (λ (a : AreaState). a.seen) is in
    let to_is : length (prefix given ++ ends.gate ∷ []) ≡ old.at + 1 = omega (arith, length-append (prefix given) (ends.gate ∷ []), at.gate) in
    let end_is : area'.seen ≡ prefix given ++ ends.gate ∷ [] =
    seen_is
    ∙ ap (λ (l : List ℕ). take (old.at + 1) l) (ends.is ∙ sym (append_assoc (prefix given) (ends.gate ∷ []) ends.rest))
    ∙ take_at (prefix given ++ ends.gate ∷ []) ends.rest (old.at + 1) to_is in
    record {
      none_left = none.0;
      closed = closed;
      cut = seen_is;
      ready = ready_is;
      at = record {
        on_disk = is ∙ ap clean (sym seen_is);
        list = subst (λ (l : List (List ℕ)). HasList area'.seen l) (sym (append-nil given)) (record { fits = ends.fits; gate = ends.gate; rest = []; is = end_is; stops = inl ends.closed });
        gate = gate_is ∙ at.gate;
        length = omega (arith, length_is, ap length end_is, to_is);
        ready = λ ready. record { gate = ends.gate; closed = ends.closed; is = end_is };
      };
    }

-- While the area is cut after the closed gate.
pub keeps_cutting : (area : Area) (old new : Told) (journal : Journal) (to : ℕ) (given left : List (List ℕ))
    → IsAt journal (of old.now area) given left → IsClosedGate (drop journal.at (of old.now area).seen)
    → IsImage (of old.now area) (of old.now area).seen → to ≡ journal.at + 1 → Throughout (IsCutting area to old.now) old new
    → Throughout (KeepsLists area old.now) old new
keeps_cutting area old new journal to given left at closed seen to_is run =
    weaken (IsCutting area to old.now) (KeepsLists area old.now) old new (λ state cutting. record {
      each = λ image is. (
        (of old.now area).seen,
        seen,
        keeps_up_to_gate (of old.now area).seen image given to (ended_there journal (of old.now area) given left at closed) (omega (arith, to_is, at.gate)) (cutting.begins image is) (cutting.no_longer image is),
      );
      that = cutting.that;
    }) run

-- Where nothing is handed out, whatever holds of what is handed out.
pub none_on : (r : Result (Option Item) JournalError) (Is : Type 0) → IfOk r (λ next. IsNone next) → IfOk r (λ next. IsSome next → Is)
none_on (Err e) Is none = tt
none_on (Ok None) Is none = λ some. absurd (cc (some))
none_on (Ok (Some item)) Is none = absurd (cc (none))
