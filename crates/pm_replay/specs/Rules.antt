-- The rules of an inventory: which objects and metrics are slots, and which bodies may be made after a history (this project's own).
use Rattle.std.specs.Prelude.{ℕ, ◌+◌, ◌<◌, ◌≡◌, ◌&&◌, Bool, true, false, is_some, is_none, nat_le, nat_lt, List, [], ◌∷◌, length, All, Option, Some, None}
use Rattle.std.specs.List.{sum_by}
use Rattle.std.specs.Str.{bytes_eq}
use Rattle.pm_dn.specs.Refusal.{when_broken, first_code}
use Rattle.pm_form.specs.Names.{job_id}
use Rattle.pm_meas.specs.declared.cell.Cell.{Cell}
use Rattle.pm_inventory.specs.Inventory.{InventoryState, slots, slot_number, inventory_text}
use Rattle.pm_history.specs.declared.entry.Side.{Side}
use Rattle.pm_history.specs.declared.entry.Side.TheVariants.{Job, Monitor}
use Rattle.pm_history.specs.History.{History}
use Rattle.pm_history.specs.Standing.{Standing, standing_after, ids_after}
use Rattle.pm_items.specs.Permitted.{Rules}
use Rattle.pm_asked.specs.Asked.{terms_of}
use Rattle.pm_jobs.specs.declared.error.JobError.{JobError}
use Rattle.pm_jobs.specs.declared.error.JobError.TheVariants.{J9}
use Rattle.pm_jobs.specs.Asked.{Asked, asked_of}
use Rattle.pm_jobs.specs.Rules.{MOST_STANDING, MOST_LOAD, full, load_asked, body_refusal}

-- ---- what exists after a history

-- The load of a body.
abbrev pub load_of_asked : InventoryState → Option Asked → ℕ
load_of_asked inventory None = 0
load_of_asked inventory (Some asked) = load_asked inventory asked

abbrev pub load_of_standing : InventoryState → Side → Option Standing → ℕ
load_of_standing inventory side None = 0
load_of_standing inventory side (Some s) = load_of_asked inventory (asked_of side s.body)

-- The load of what stands under an id.
abbrev pub load_under : InventoryState → Side → History → List ℕ → ℕ
load_under inventory side h id = load_of_standing inventory side (standing_after (terms_of inventory) side h id)

-- The load of all that stand.
abbrev pub load_after : InventoryState → History → ℕ
load_after inventory h =
    sum_by (load_under inventory Job h) (ids_after Job h) + sum_by (load_under inventory Monitor h) (ids_after Monitor h)

-- ---- what may be made

-- The first rule that what is asked for breaks after a history, as a new item.
abbrev pub refusal_after : InventoryState → History → Side → Asked → Option JobError
refusal_after inventory h side asked =
    first_code
    (body_refusal inventory side asked
    ∷ when_broken (nat_le MOST_STANDING (length (ids_after side h))) (full side)
    ∷ when_broken (nat_lt MOST_LOAD (load_after inventory h + load_asked inventory asked)) J9
    ∷ [])

-- Whether what a body asks for is written as its canonical text, and breaks no rule.
abbrev pub makes_anew : InventoryState → History → Side → List ℕ → Option Asked → Bool
makes_anew inventory h side body None = false
makes_anew inventory h side body (Some asked) = bytes_eq asked.text body && is_none (refusal_after inventory h side asked)

-- Whether a body may be made under an id after a history.
abbrev pub may_make : InventoryState → History → Side → List ℕ → List ℕ → Bool
may_make inventory h side id body = job_id id && makes_anew inventory h side body (asked_of side body)

-- These are the rules of the inventory, whatever subscriptions they permit.
pub record AreRules (inventory : InventoryState) (rules : Rules) : Type 0 where
  pub slots : (object metric : ℕ) → rules.is_slot object metric ≡ is_some (slot_number inventory object metric)
  pub makes : (h : History) (side : Side) (id body : List ℕ) → rules.may_make h side id body ≡ may_make inventory h side id body
