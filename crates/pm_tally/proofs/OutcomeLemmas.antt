-- The outcome of a whole input.
use Rattle.std.proofs.Common.{◌≡◌, ◌+◌, ◌-◌, ◌≤◌, ◌++◌, ◌∷◌, ℕ, zero, suc, List, [], length, take, drop, Err, inl, inr, refl, sym, ◌∙◌, ap, subst, arith, append_assoc, length-append, take-append-drop, length-drop}
use Rattle.std.proofs.lemmas.List.{append-nil, append_cancel_right}
use Rattle.std.specs.List.{All}
use Rattle.pm_base.specs.Lines.{MOST_LINE, HasNoLineFeed, HasNoLine, lines_of}
use Rattle.pm_outside.specs.Feed.{MOST_AHEAD}
use Rattle.pm_outside.specs.declared.feed.TheConstants.{MOST_READ}
use Rattle.pm_inventory.specs.Slot.{event_slots}
use Rattle.pm_base.specs.WholeLines.{text_of_lines}
use Rattle.pm_inventory.specs.Inventory.{InventoryState}
use Rattle.pm_inventory.specs.InventoryReading.{AddsLines, BreaksNone, empty_inventory, IsRead, ReadsInventory}
use Rattle.pm_inventory.specs.InventoryReading as reading
use Rattle.pm_inventory.specs.declared.inventory_reading.InventoryError.{InventoryError}
use Rattle.pm_inventory.specs.declared.inventory_reading.InventoryError.TheVariants as error
use Rattle.pm_tally.specs.Outcome.{ran, BreaksOff, IsTallied, IsTalliedAfter, IsInInventory, IsOutcome, end_of_inventory}
use Rattle.pm_tally.specs.declared.tally_end.TallyEnd.{TallyEnd}
use Rattle.pm_tally.specs.declared.tally_end.TallyEnd.TheVariants.{Done, Refused, TooLong, ReadFault, WriteFault, BadInventory, Memory}
use Rattle.pm_tally.proofs.WholeLemmas.{text-more}

-- A tally after an inventory is the outcome of the input.
outcome : (input left : List ℕ) (IsTold : Type 0) (old new : List ℕ) (end : TallyEnd) → IsTalliedAfter (ran 0 input left IsTold old new) end → IsOutcome (ran 0 input left IsTold old new) end
outcome input left IsTold old new Done tallied = tallied
outcome input left IsTold old new TooLong tallied = inl tallied
outcome input left IsTold old new (Refused line code) tallied = tallied
outcome input left IsTold old new ReadFault tallied = inl tallied
outcome input left IsTold old new WriteFault tallied = tallied
outcome input left IsTold old new (BadInventory line code) tallied = absurd tallied.tallied
outcome input left IsTold old new Memory tallied = inl tallied

pub outcome-read : (input before rest left : List ℕ) (inventory : InventoryState) (lines given : ℕ) (IsTold : Type 0) (old new : List ℕ) (end : TallyEnd) → before ≡ input → IsRead before rest inventory lines → given + length rest ≡ length input → IsTallied (event_slots inventory) (lines + 1) (ran given rest left IsTold old new) end → IsOutcome (ran 0 input left IsTold old new) end
outcome-read input before rest left inventory lines given IsTold old new end is read counted tallied =
    let whole : IsTalliedAfter (ran 0 before left IsTold old new) end = record {
      read = read.read;
      rest = rest;
      inventory = inventory;
      given = given;
      taken = read.taken;
      inventory_of = read.inventory_of;
      counted = omega (arith, counted, ap length is);
      tallied = subst (λ (n : ℕ). IsTallied (event_slots inventory) (n + 1) (ran given rest left IsTold old new) end) read.counted tallied;
    } in
    outcome input left IsTold old new end (subst (λ (i : List ℕ). IsTalliedAfter (ran 0 i left IsTold old new) end) is whole)

-- a fact of all elements holds of the first ones, and of the last
All-front : {A : Type 0} (P : A → Type 0) (xs ys : List A) → All P (xs ++ ys) → All P xs
All-front P [] ys all k d lt = absurd (omega (arith, lt))
All-front P (x ∷ xs) ys all zero d lt = all 0 d (omega arith)
All-front P (x ∷ xs) ys all (suc k) d lt = All-front P xs ys (λ j e less. all (suc j) e (omega (arith, less))) k d (omega (arith, lt))

All-last : (P : List ℕ → Type 0) (xs : List (List ℕ)) (x : List ℕ) → All P (xs ++ x ∷ []) → P x
All-last P [] x all = all 0 [] (omega arith)
All-last P (y ∷ xs) x all = All-last P xs x (λ j e less. all (suc j) e (omega (arith, less)))

-- lines, of which there is a last one
last_of : (line : List ℕ) (lines : List (List ℕ)) → (first : List (List ℕ)) × (last : List ℕ) × (line ∷ lines ≡ first ++ last ∷ [])
last_of line [] = ([], line, refl)
last_of line (next ∷ more) =
    let r = last_of next more in (line ∷ r.0, r.1, ap (λ (l : List (List ℕ)). line ∷ l) r.2)

-- without the last line the others add too, and the last isn't too long
adds-front : (old new : InventoryState) (lines : List (List ℕ)) (last : List ℕ) → AddsLines old (lines ++ last ∷ []) new → (state : InventoryState) × AddsLines old lines state × (length last ≤ MOST_LINE)
adds-front old new [] last adds = (old, refl, adds.1.short)
adds-front old new (line ∷ lines) last adds =
    let others = adds-front adds.0 new lines last adds.2 in
    (others.0, (adds.0, adds.1, others.1), others.2)

-- what is appended to nothing
no_rest : (xs ys : List ℕ) → xs ++ ys ≡ [] → ys ≡ []
no_rest [] ys none = none
no_rest (x ∷ xs) ys none = absurd (omega (arith, ap length none))

-- The bytes of good lines and the beginning of one more, before a rest.
record Breaks (before rest : List ℕ) : Type 0 where
  lines : List (List ℕ)
  breaks_off : BreaksOff before lines rest
  state : InventoryState
  adds : AddsLines empty_inventory lines state

-- good lines of which the last has no line feed
open_last : (before : List ℕ) (good : List (List ℕ)) (state : InventoryState) → All HasNoLineFeed good → AddsLines empty_inventory good state → before ++ 10 ∷ [] ≡ text_of_lines good → Breaks before []
open_last before [] state ones adds ended = absurd (omega (arith, ap length ended, length-append before (10 ∷ [])))
open_last before (line ∷ lines) state ones adds ended =
    let parts = last_of line lines in
    let first : List (List ℕ) = parts.0 in
    let last : List ℕ = parts.1 in
    let front = adds-front empty_inventory state first last (subst (λ (l : List (List ℕ)). AddsLines empty_inventory l state) parts.2 adds) in
    let all : All HasNoLineFeed (first ++ last ∷ []) = subst (λ (l : List (List ℕ)). All HasNoLineFeed l) parts.2 ones in
    let text : before ++ 10 ∷ [] ≡ (text_of_lines first ++ last) ++ 10 ∷ [] =
    ended ∙ ap text_of_lines parts.2 ∙ sym (append-nil (text_of_lines (first ++ last ∷ []))) ∙ sym (text-more first last []) ∙ sym (append_assoc (text_of_lines first) last (10 ∷ [])) in
    record {
      lines = first;
      breaks_off = record {
        ones = All-front HasNoLineFeed first (last ∷ []) all;
        open_line = last;
        may_go_on = record { short = front.2; open_line = All-last HasNoLineFeed first last all };
        split = append_cancel_right before (text_of_lines first ++ last) (10 ∷ []) text ∙ ap (λ (l : List ℕ). text_of_lines first ++ l) (sym (append-nil last));
      };
      state = front.0;
      adds = front.1;
    }

-- Where an inventory was cut off.
cut : (before after open_ rest : List ℕ) → reading.IsCutOff before after → after ≡ open_ ++ rest → HasNoLine open_ → Breaks before rest
cut before after open_ rest off is none = elim off.taken.split [
  | inl whole ↦ record {
    lines = off.good;
    breaks_off = record {
      ones = off.taken.ones;
      open_line = open_;
      may_go_on = none;
      split = whole ∙ ap (λ (l : List ℕ). text_of_lines off.good ++ l) is;
    };
    state = off.state;
    adds = off.adds;
  }
  | inr ended ↦ subst (λ (l : List ℕ). Breaks before l) (sym (no_rest open_ rest (sym is ∙ ended.1))) (open_last before off.good off.state off.taken.ones off.adds ended.0)
]

-- nothing is written then
inside : (input left rest : List ℕ) (IsTold : Type 0) (old : List ℕ) → Breaks input rest → IsInInventory (ran 0 input left IsTold old old) rest
inside input left rest IsTold old b = record {
  lines = b.lines;
  breaks_off = b.breaks_off;
  state = b.state;
  adds = b.adds;
  gains = λ told. sym (append-nil old);
}

-- An inventory that is not read.
pub outcome-unread : (why : InventoryError) (input before after buffered left : List ℕ) (given : ℕ) (IsTold : Type 0) (old : List ℕ) → before ≡ input → ReadsInventory before after (Err why) → after ≡ buffered ++ left → length buffered ≤ MOST_AHEAD → (why ≡ error.Failed → HasNoLine buffered) → given + length after ≡ length input → (why ≡ error.Limit → (given ≤ MOST_READ) × (MOST_READ ≤ given + length after) × HasNoLine (take (MOST_READ - given) after)) → IsOutcome (ran 0 input left IsTold old old) (end_of_inventory why)
outcome-unread (error.Refused line code) input before after buffered left given IsTold old is read parts few failed counted limit =
    (subst (λ (i : List ℕ). reading.IsInventoryRefusal (lines_of i) line code) is read, λ told. sym (append-nil old))
outcome-unread error.Memory input before after buffered left given IsTold old is read parts few failed counted limit = inr (record {
  ahead = buffered;
  few = few;
  unbroken = inr (subst (λ (i : List ℕ). BreaksNone i (buffered ++ left)) is (subst (λ (a : List ℕ). BreaksNone before a) parts read));
  gains = λ told. sym (append-nil old);
})
outcome-unread error.Failed input before after buffered left given IsTold old is read parts few failed counted limit =
    let off = cut before after buffered left read parts (failed refl) in
    inr (inside input left left IsTold old (subst (λ (i : List ℕ). Breaks i left) is off))
outcome-unread error.Limit input before after buffered left given IsTold old is read parts few failed counted limit =
    let met = limit refl in
    let rest = drop (MOST_READ - given) after in
    let off = cut before after (take (MOST_READ - given) after) rest read (sym (take-append-drop (MOST_READ - given) after)) met.2 in
    inr (record {
      rest = rest;
      reached = omega (arith, counted, met.0, met.1, length-drop (MOST_READ - given) after);
      inside = inside input left rest IsTold old (subst (λ (i : List ℕ). Breaks i rest) is off);
    })

-- Memory was out before anything was read.
pub outcome-none : (input : List ℕ) (IsTold : Type 0) (old : List ℕ) → IsOutcome (ran 0 input input IsTold old old) Memory
outcome-none input IsTold old = inr (record { ahead = []; few = omega arith; unbroken = inl refl; gains = λ told. sym (append-nil old) })
