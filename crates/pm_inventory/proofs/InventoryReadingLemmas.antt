-- How far the reading of an inventory has come, and how it ends.
use Rattle.std.proofs.Common.{◌≡◌, ◌≢◌, ◌+◌, ◌<◌, ℕ, List, [], ◌∷◌, ◌++◌, length, take, Result, Ok, Err, inl, inr, refl, sym, ◌∙◌, ap, subst, arith, length-append}
use Rattle.std.proofs.lemmas.List.{append-nil}
use Rattle.pm_base.specs.Lines.{MOST_LINE, lines_of, HasNoLineFeed}
use Rattle.pm_outside.specs.Feed.{IsFirstLine}
use Rattle.pm_base.specs.declared.code.Code.{Code}
use Rattle.pm_base.specs.declared.code.Code.TheVariants.{I1, I2}
use Rattle.pm_outside.proofs.LinesLemmas.{lines_of-next, lines_of-long}
use Rattle.pm_inventory.specs.Inventory.{InventoryState, HasRoot, HasSlots, end_line}
use Rattle.pm_inventory.specs.InventoryLine.{AddsLine, RefusesLine}
use Rattle.pm_inventory.specs.InventoryReading.{empty_inventory, AddsShort, AddsLines, RefusesNext, IsReadSoFar, IsInventoryRefusal, IsCutOff, IsRead, ReadsInventory, EndsAt, stop_error}
use Rattle.pm_inventory.specs.declared.inventory_line.LineError.{LineError}
use Rattle.pm_inventory.specs.declared.inventory_line.LineError.TheVariants as stop
use Rattle.pm_inventory.specs.declared.inventory_reading.ReadInventory.{ReadInventory}
use Rattle.pm_inventory.specs.declared.inventory_reading.InventoryError.{InventoryError}
use Rattle.pm_inventory.specs.declared.inventory_reading.InventoryError.TheVariants as error
use Rattle.pm_inventory.proofs.InventoryLineLemmas.{RefusesNext-memory, RefusesNext-end}
use Rattle.pm_inventory.proofs.WholeLinesLemmas.{takes-none, takes-next}

-- One more line behind others.
pub AddsLines-more : (old middle new : InventoryState) (lines : List (List ℕ)) (line : List ℕ) → AddsLines old lines middle → AddsShort middle line new → AddsLines old (lines ++ line ∷ []) new
AddsLines-more old middle new [] line same adds = (new, subst (λ (s : InventoryState). AddsShort s line new) same adds, refl)
AddsLines-more old middle new (first ∷ lines) line all adds = (all.0, all.1, AddsLines-more all.0 middle new lines line all.2 adds)

-- At first all bytes are left.
pub read-first : (before : List ℕ) → IsReadSoFar before before empty_inventory 0
read-first before = record { good = []; taken = takes-none before; adds = refl; counted = refl }

-- A further good line is read.
pub read-next : (before middle after line : List ℕ) (old new : InventoryState) (many : ℕ) → IsReadSoFar before middle old many → IsFirstLine middle line after → AddsLine old line new → IsReadSoFar before after new (many + 1)
read-next before middle after line old new many so_far first adds = record {
  good = so_far.good ++ line ∷ [];
  taken = takes-next before middle after line so_far.good so_far.taken first;
  adds = AddsLines-more empty_inventory old new so_far.good line so_far.adds (record { short = first.short; adds = adds });
  counted = omega (arith, so_far.counted, length-append so_far.good (line ∷ []));
}

-- the next line is refused
refused_at : (before middle : List ℕ) (rest : List (List ℕ)) (line : List ℕ) (state : InventoryState) (many : ℕ) (code : Code) → IsReadSoFar before middle state many → lines_of middle ≡ line ∷ rest → RefusesNext many state line code → IsInventoryRefusal (lines_of before) (many + 1) code
refused_at before middle rest line state many code so_far is refused = inl (record {
  good = so_far.good;
  state = state;
  line = line;
  behind = rest;
  split = so_far.taken.lines ∙ ap (λ (l : List (List ℕ)). so_far.good ++ l) is;
  adds = so_far.adds;
  refused = subst (λ (n : ℕ). RefusesNext n state line code) so_far.counted refused;
  numbered = ap (λ (n : ℕ). n + 1) so_far.counted;
})

-- The next line is too long.
pub read-long : (before middle : List ℕ) (state : InventoryState) (many : ℕ) → IsReadSoFar before middle state many → MOST_LINE < length middle → HasNoLineFeed (take (MOST_LINE + 1) middle) → IsInventoryRefusal (lines_of before) (many + 1) I1
read-long before middle state many so_far long none =
    let parts = lines_of-long (MOST_LINE + 1) middle (omega arith) (omega (arith, long)) none in
    refused_at before middle parts.1 parts.0 state many I1 so_far parts.2 (inl (omega (arith, parts.3), refl))

-- No line is left.
pub read-missing : (before middle : List ℕ) (state : InventoryState) (many : ℕ) → IsReadSoFar before middle state many → middle ≡ [] → IsInventoryRefusal (lines_of before) (many + 1) I2
read-missing before middle state many so_far none =
    let all : lines_of before ≡ so_far.good = so_far.taken.lines ∙ ap (λ (m : List ℕ). so_far.good ++ lines_of m) none ∙ append-nil so_far.good in
    inr (record {
      state = state;
      adds = subst (λ (l : List (List ℕ)). AddsLines empty_inventory l state) (sym all) so_far.adds;
      code_is = refl;
      numbered = ap (λ (n : ℕ). n + 1) (so_far.counted ∙ ap length (sym all));
    })

-- It stops here.
pub read-cut : (before after : List ℕ) (state : InventoryState) (many : ℕ) → IsReadSoFar before after state many → IsCutOff before after
read-cut before after state many so_far = record { good = so_far.good; state = state; taken = so_far.taken; adds = so_far.adds }

-- The next line adds nothing, and isn't `end`.
pub read-stopped : (before middle after line : List ℕ) (state : InventoryState) (many : ℕ) (why : LineError) → IsReadSoFar before middle state many → IsFirstLine middle line after → line ≢ end_line → RefusesLine state line why → ReadsInventory before after (Err (stop_error (many + 1) why))
read-stopped before middle after line state many (stop.Refused code) so_far first other refused =
    refused_at before middle (lines_of after) line state many code so_far (lines_of-next middle line after first) (inr (inr (first.short, other, refused)))
read-stopped before middle after line state many stop.Memory so_far first other unrefused = record {
  good = so_far.good;
  state = state;
  line = line;
  taken = takes-next before middle after line so_far.good so_far.taken first;
  adds = so_far.adds;
  unbroken = λ code. RefusesNext-memory (length so_far.good) state line code first.short other unrefused;
}

none_of : (lines : List (List ℕ)) → length lines ≡ 0 → lines ≡ []
none_of [] none = refl
none_of (line ∷ lines) none = absurd (omega (arith, none))

-- a whole inventory, with its `end`
read-whole : (before middle after : List ℕ) (state : InventoryState) (many : ℕ) (read : ReadInventory) → IsReadSoFar before middle state many → IsFirstLine middle end_line after → EndsAt state (many + 1) (Ok read) → IsRead before after read.inventory read.lines
read-whole before middle after state many read so_far first ends = record {
  read = so_far.good ++ end_line ∷ [];
  taken = takes-next before middle after end_line so_far.good so_far.taken first;
  inventory_of = elim ends.1 [
    | inl alone ↦ inl (ap (λ (l : List (List ℕ)). l ++ end_line ∷ []) (none_of so_far.good (omega (arith, alone.0, so_far.counted))), alone.1)
    | inr written ↦ inr (record {
      body = so_far.good;
      some = omega (arith, written.0, so_far.counted);
      split = refl;
      adds = subst (λ (s : InventoryState). AddsLines empty_inventory so_far.good s) (sym written.1) so_far.adds;
      root = subst (λ (s : InventoryState). HasRoot s.objects) (sym written.1) written.2;
      slots = subst (λ (s : InventoryState). HasSlots s.objects s.measures) (sym written.1) written.3;
    })
  ];
  counted = omega (arith, ends.0, so_far.counted, length-append so_far.good (end_line ∷ []));
}

-- The next line is `end`.
pub read-ended : (before middle after line : List ℕ) (state : InventoryState) (many : ℕ) (answer : Result ReadInventory InventoryError) → IsReadSoFar before middle state many → IsFirstLine middle line after → line ≡ end_line → EndsAt state (many + 1) answer → ReadsInventory before after answer
read-ended before middle after line state many (Ok read) so_far first end ends =
    read-whole before middle after state many read so_far (subst (λ (l : List ℕ). IsFirstLine middle l after) end first) ends
read-ended before middle after line state many (Err (error.Refused number code)) so_far first end ends =
    subst (λ (n : ℕ). IsInventoryRefusal (lines_of before) n code) (sym ends.0) (refused_at before middle (lines_of after) line state many code so_far (lines_of-next middle line after first) (inr (inl (omega (arith, ends.1), end, ends.2))))
read-ended before middle after line state many (Err error.Failed) so_far first end ends = absurd ends
read-ended before middle after line state many (Err error.Limit) so_far first end ends = absurd ends
read-ended before middle after line state many (Err error.Memory) so_far first end ends = record {
  good = so_far.good;
  state = state;
  line = line;
  taken = takes-next before middle after line so_far.good so_far.taken first;
  adds = so_far.adds;
  unbroken = λ code. RefusesNext-end (length so_far.good) state line code end (λ some. ends code (omega (arith, some, so_far.counted)));
}
