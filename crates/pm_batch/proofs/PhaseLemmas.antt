-- One event more of a slot, and the phases of a list.
use Rattle.std.proofs.Common.{◌≡◌, ◌+◌, ◌%◌, ◌*◌, ◌<◌, ◌≤◌, ℕ, Bool, true, false, List, [], ◌∷◌, ◌++◌, Some, length, map, get_or, take, drop, sym, ◌∙◌, ap, arith}
use Rattle.std.proofs.Math.Dec.{eqb}
use Rattle.std.proofs.Math.Nat.{mod-eq_of_lt}
use Rattle.std.proofs.Math.ListN.{set}
use Rattle.std.specs.List.{slice_get}
use Rattle.std.proofs.lemmas.Option.{get_or_from_slice_get}
use Rattle.std.proofs.lemmas.Bool.{ne_eqb}
use Rattle.std.proofs.lemmas.List.{drop_more, take_more, map-append, get_or_default}
use Rattle.std.proofs.lemmas.List.Elements.{All-set, All-weaker}
use Rattle.pm_meas.specs.declared.cell.Cell.{Cell}
use Rattle.pm_inventory.specs.Slot.{Slot}
use Rattle.pm_events.specs.declared.hit.Hit.{Hit}
use Rattle.pm_batch.specs.declared.phase.Phase.{Phase}
use Rattle.pm_batch.specs.OpenCounts.{one_if}
use Rattle.pm_batch.specs.Phases.{registers, phase_at, step_at, registered_by, ArePhases, AreSmall, first_phase}

-- one event more, and none is registered yet
pub not_yet : (seen each : ℕ) → seen + 1 < each → false ≡ eqb ((seen + 1) % each) 0
not_yet seen each less = sym (ap (λ (n : ℕ). eqb n 0) (mod-eq_of_lt less) ∙ ne_eqb (seen + 1) 0 (λ is. omega (arith, is)))

pub not_full : (seen each : ℕ) → seen + 1 < each → seen + 1 ≡ (seen + 1) % each
not_full seen each less = sym (mod-eq_of_lt less)

-- a phase of the list, whatever stands past its end
pub phase_at-is : (phases : List Phase) (slot : ℕ) (d : Phase) → slot < length phases → get_or phases slot d ≡ phase_at phases slot
phase_at-is phases slot d within = get_or_default phases slot d (record { seen = 0; each = 1 }) within

-- the next hit
pub registered_by-next : (phases : List Phase) (hits : List Hit) (i : ℕ) (hit : Hit) → i < length hits → get_or hits i hit ≡ hit → registered_by phases (drop i hits) ≡ one_if (registers (phase_at phases hit.slot)) + registered_by (step_at phases hit.slot) (drop (i + 1) hits)
registered_by-next phases hits i hit within is = ap (registered_by phases) (drop_more hits i hit within ∙ ap (λ (h : Hit). h ∷ drop (i + 1) hits) is)

-- phases where one moved on
pub step_at-sound : (phases : List Phase) (slot : ℕ) (new : Phase) → new.seen < new.each → new.each ≤ 1000 → ArePhases phases → ArePhases (set phases slot new)
step_at-sound phases slot new below range sound = All-set (λ p. (p.seen < p.each) × (p.each ≤ 1000)) phases slot new (below, range) sound

-- cells where one has a value more
pub small-more : (cells : List Cell) (most slot : ℕ) (new : Cell) → AreSmall most cells → new.n ≤ most + 1 → new.sum ≤ new.n * 1048575 → AreSmall (most + 1) (set cells slot new)
small-more cells most slot new small n sum =
    All-set (λ c. (c.n ≤ most + 1) × (c.sum ≤ c.n * 1048575)) cells slot new (n, sum)
    (All-weaker (λ c. (c.n ≤ most) × (c.sum ≤ c.n * 1048575)) (λ c. (c.n ≤ most + 1) × (c.sum ≤ c.n * 1048575)) (λ c is. (omega (arith, is.0), is.1)) cells small)

-- at most all hits are registered
pub registered_by-few : (phases : List Phase) (hits : List Hit) → registered_by phases hits ≤ length hits
registered_by-few phases [] = omega arith
registered_by-few phases (hit ∷ hits) = omega (arith, one_if-few (registers (phase_at phases hit.slot)), registered_by-few (step_at phases hit.slot) hits) where
  one_if-few : (b : Bool) → one_if b ≤ 1
  one_if-few true = omega arith
  one_if-few false = omega arith

-- the first phases, one slot more
pub first-more : (slots : List Slot) (phases : List Phase) (i each : ℕ) (slot : Slot) → i < length slots → slice_get slots i ≡ Some slot → each ≡ slot.registers_each → phases ≡ map first_phase (take i slots) → phases ++ record { seen = 0; each = each } ∷ [] ≡ map first_phase (take (i + 1) slots)
first-more slots phases i each slot within at is are =
    ap (λ (l : List Phase). l ++ record { seen = 0; each = each } ∷ []) are
    ∙ ap (λ (n : ℕ). map first_phase (take i slots) ++ record { seen = 0; each = n } ∷ []) (is ∙ ap (λ (s : Slot). s.registers_each) (sym (get_or_from_slice_get slots i slot slot at)))
    ∙ sym (map-append first_phase (take i slots) (get_or slots i slot ∷ []))
    ∙ ap (map first_phase) (sym (take_more slots i slot within))
