-- Histories between, as they grow.
use Rattle.std.proofs.Common.{◌≡◌, ℕ, List, [], ◌∷◌, ◌++◌, refl, ap, ◌∙◌}
use Rattle.pm_disk.specs.Moments.{DiskState, Told, IsDiskImage, Throughout}
use Rattle.pm_disk.proofs.MomentLemmas.{run_on, weaken}
use Rattle.pm_inventory.specs.Inventory.{InventoryState}
use Rattle.pm_history.specs.declared.entry.Entry.{Entry}
use Rattle.pm_history.specs.History.{History, Start, ◌▷◌, grown, IsHistory}
use Rattle.pm_items.specs.Items.{kept}
use Rattle.pm_items.specs.Kept.{IsBeginning}
use Rattle.pm_items.proofs.PrefixLemmas.{kept_grows}
use Rattle.pm_ledger.specs.Between.{HoldsBetween, EachBetween}

grown-grown : (h : History) (xs ys : List Entry) → grown (grown h xs) ys ≡ grown h (xs ++ ys)
grown-grown h [] ys = refl
grown-grown h (x ∷ xs) ys = grown-grown (h ▷ x) xs ys

pub itself : (h : History) → IsBeginning h h
itself h = record { more = []; is = refl }

pub begins : (a b c : History) → IsBeginning a b → IsBeginning b c → IsBeginning a c
begins a b c ab bc = record { more = ab.more ++ bc.more; is = bc.is ∙ (ap (λ h. grown h bc.more) ab.is ∙ grown-grown a ab.more bc.more) }

-- What is kept only grows.
pub kept-begins : (h : History) (es : List Entry) → IsHistory (grown h es) → IsBeginning (kept h) (kept (grown h es))
kept-begins h [] is = itself (kept h)
kept-begins h (e ∷ es) is = begins (kept h) (kept (h ▷ e)) (kept (grown (h ▷ e) es)) (kept_grows h e (before h (e ∷ es) is)) (kept-begins (h ▷ e) es is)
  where
    before : (h : History) (es : List Entry) → IsHistory (grown h es) → IsHistory h
    before h [] is = is
    before h (e ∷ es) is = (before (h ▷ e) es is).0

widen : (inventory : InventoryState) (a a' b b' : History) (disk : DiskState) → IsBeginning a' a → IsBeginning b b' → EachBetween inventory a b disk
    → EachBetween inventory a' b' disk
widen inventory a a' b b' disk from to all = record { each = each }
  where
    each : (image : List ℕ × List ℕ) → IsDiskImage disk image → HoldsBetween inventory a' b' image.0
    each image is =
        let one = all.each image is in
        record {
          h = one.h;
          between = record { from = begins a' a one.h from one.between.from; to = begins one.h b b' one.between.to to };
          holds = one.holds;
        }

pub widened : (inventory : InventoryState) (a a' b b' : History) (old new : Told) → IsBeginning a' a → IsBeginning b b'
    → Throughout (EachBetween inventory a b) old new → Throughout (EachBetween inventory a' b') old new
widened inventory a a' b b' old new from to run =
    weaken (EachBetween inventory a b) (EachBetween inventory a' b') old new (λ state. widen inventory a a' b b' state from to) run

-- First one step, then another.
pub both : (inventory : InventoryState) (a b c : History) (old mid new : Told) → IsBeginning a b → IsBeginning b c
    → Throughout (EachBetween inventory a b) old mid → Throughout (EachBetween inventory b c) mid new → Throughout (EachBetween inventory a c) old new
both inventory a b c old mid new ab bc first second =
    run_on (EachBetween inventory a c) old mid new
    (widened inventory a a b c old mid (itself a) bc first)
    (widened inventory b a c c mid new ab (itself c) second)

-- What lies at the start lies before a first entry too.
pub started : (inventory : InventoryState) (e : Entry) (old new : Told) → Throughout (EachBetween inventory Start Start) old new
    → Throughout (EachBetween inventory Start (Start ▷ e)) old new
started inventory e old new run = widened inventory Start Start Start (Start ▷ e) old new (itself Start) (record { more = e ∷ []; is = refl }) run
