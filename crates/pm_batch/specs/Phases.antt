-- How far each slot is from its next registered event.
use Rattle.std.specs.Prelude.{ℕ, ◌+◌, ◌*◌, ◌%◌, ◌<◌, ◌≤◌, ◌==◌, Bool, List, [], ◌∷◌, All, slice_index_or, slice_set}
use Rattle.pm_meas.specs.declared.cell.Cell.{Cell}
use Rattle.pm_meas.specs.declared.cell.TheConstants.{MAX_VALUE}
use Rattle.pm_inventory.specs.Slot.{Slot}
use Rattle.pm_events.specs.declared.hit.Hit.{Hit}
use Rattle.pm_batch.specs.declared.phase.Phase.{Phase}
use Rattle.pm_batch.specs.OpenCounts.{one_if}

-- The phase before the first event: of a slot, and anew.
abbrev pub first_phase : Slot → Phase
first_phase slot = record { seen = 0; each = slot.registers_each }

abbrev pub begun : Phase → Phase
begun p = record { seen = 0; each = p.each }

-- One event more, and whether it is registered.
abbrev pub stepped : Phase → Phase
stepped p = record { seen = (p.seen + 1) % p.each; each = p.each }

abbrev pub registers : Phase → Bool
registers p = (p.seen + 1) % p.each == 0

-- The phase of the slot of this number.
abbrev pub phase_at : List Phase → ℕ → Phase
phase_at phases slot = slice_index_or phases slot (record { seen = 0; each = 1 })

-- One event more of the slot.
abbrev pub step_at : List Phase → ℕ → List Phase
step_at phases slot = slice_set phases slot (stepped (phase_at phases slot))

-- How many of the hits are registered.
abbrev pub registered_by : List Phase → List Hit → ℕ
registered_by phases [] = 0
registered_by phases (hit ∷ hits) = one_if (registers (phase_at phases hit.slot)) + registered_by (step_at phases hit.slot) hits

-- Fewer events were seen than one is registered of, which are 1,000 at most.
abbrev pub ArePhases : List Phase → Type 0
ArePhases phases = All (λ p. (p.seen < p.each) × (p.each ≤ 1000)) phases

-- Cells of at most so many values each, with a sum that they can have.
abbrev pub AreSmall : ℕ → List Cell → Type 0
AreSmall most cells = All (λ c. (c.n ≤ most) × (c.sum ≤ c.n * MAX_VALUE)) cells
