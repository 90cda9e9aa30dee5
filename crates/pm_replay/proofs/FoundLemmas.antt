-- What stands under an id, and what a change of it does.
use Rattle.std.proofs.Common.{◌≡◌, ℕ, zero, suc, ◌+◌, ◌<◌, ◌||◌, Bool, true, false, cond, not, List, [], ◌∷◌, length, drop, get_or, Option, Some, None, refl, sym, ap, ◌∙◌, arith}
use Rattle.std.specs.Prelude.{slice_get}
use Rattle.std.specs.List.{list_any}
use Rattle.std.specs.Str.{bytes_eq}
use Rattle.std.specs.Option.{option_map}
use Rattle.std.proofs.lemmas.List.{drop_more}
use Rattle.std.proofs.lemmas.Option.{same_Some, slice_get-get_or}
use Rattle.pm_inventory.specs.Inventory.{InventoryState}
use Rattle.pm_history.specs.declared.entry.Side.{Side}
use Rattle.pm_jobs.specs.declared.plan.Plan.{Plan}
use Rattle.pm_jobs.specs.declared.plan.Plan.TheVariants.{Make, Same, Move, Already, Delete}
use Rattle.pm_jobs.specs.declared.standing.Standing.{Standing}
use Rattle.pm_jobs.specs.Asked.{Asked, asked_of}
use Rattle.pm_jobs.specs.Plan.{Creates}
use Rattle.pm_jobs.specs.Rules.{standing_at, create_refusal}
use Rattle.pm_jobs.specs.State.{JobsState, ids}
use Rattle.pm_replay.specs.Allowed.{MayMake}
use Rattle.pm_replay.specs.Change.{Makes}

-- an item at a place, as the slot of a list
pub at-place : (items : List Standing) (i : ℕ) (item : Standing) → i < length items → slice_get items i ≡ Some item → item ≡ get_or items i item
at-place items i item lt is = sym (same_Some (get_or items i item) item (sym (slice_get-get_or items i item lt) ∙ is))

skip : (item : Standing) (items : List Standing) (id : List ℕ) → bytes_eq id item.id ≡ false → standing_at (item ∷ items) id ≡ standing_at items id
skip item items id other = rw other refl

skip-any : (item : Standing) (items : List Standing) (id : List ℕ) → bytes_eq id item.id ≡ false
    → list_any (bytes_eq id) (ids (item ∷ items)) ≡ list_any (bytes_eq id) (ids items)
skip-any item items id other = rw other refl

one_less : (items : List Standing) (i : ℕ) (item : Standing) → i < length items → item ≡ get_or items i item → drop i items ≡ item ∷ drop (i + 1) items
one_less items i item lt at = drop_more items i item lt ∙ ap (λ x. x ∷ drop (i + 1) items) (sym at)

pub past-standing : (items : List Standing) (i : ℕ) (item : Standing) (id : List ℕ) → i < length items → item ≡ get_or items i item → bytes_eq id item.id ≡ false
    → standing_at (drop i items) id ≡ standing_at (drop (i + 1) items) id
past-standing items i item id lt at other =
    ap (λ l. standing_at l id) (one_less items i item lt at) ∙ skip item (drop (i + 1) items) id other

pub past-any : (items : List Standing) (i : ℕ) (item : Standing) (id : List ℕ) → i < length items → item ≡ get_or items i item → bytes_eq id item.id ≡ false
    → list_any (bytes_eq id) (ids (drop i items)) ≡ list_any (bytes_eq id) (ids (drop (i + 1) items))
past-any items i item id lt at other =
    ap (λ l. list_any (bytes_eq id) (ids l)) (one_less items i item lt at) ∙ skip-any item (drop (i + 1) items) id other

-- nothing stands under an id that is none of theirs
pub none-standing : (items : List Standing) (id : List ℕ) → list_any (bytes_eq id) (ids items) ≡ false → standing_at items id ≡ None
none-standing [] id none = refl
none-standing (s ∷ ss) id none = by (bytes_eq id s.id) refl none (none-standing ss id)
  where
    by : (b : Bool) → bytes_eq id s.id ≡ b → (b || list_any (bytes_eq id) (ids ss)) ≡ false
        → (list_any (bytes_eq id) (ids ss) ≡ false → standing_at ss id ≡ None) → standing_at (s ∷ ss) id ≡ None
    by true is none rest = absurd (cc (none))
    by false is none rest = skip s ss id is ∙ rest none

pub id-at : (is : List (List ℕ)) (i : ℕ) (id : List ℕ) → slice_get is i ≡ Some id → get_or is i [] ≡ id
id-at [] i id is = absurd (cc (is))
id-at (j ∷ js) zero id is = same_Some j id is
id-at (j ∷ js) (suc i) id is = id-at js i id is

-- ---- a making

pub making-permitted : (inventory : InventoryState) (jobs : JobsState) (moment : ℕ) (side : Side) (id body : List ℕ) (plan : Plan)
    → create_refusal inventory jobs side id body ≡ None → Creates inventory jobs moment side id (asked_of side body) plan → Makes body plan
    → MayMake inventory jobs side id body
making-permitted inventory jobs moment side id body plan permitted creates makes = by (asked_of side body) plan refl creates makes
  where
    by : (o : Option Asked) (p : Plan) → asked_of side body ≡ o → Creates inventory jobs moment side id o p → Makes body p
        → MayMake inventory jobs side id body
    by None p is creates makes = absurd creates
    by (Some asked) (Make s place standing) is creates makes = record {
      fresh = creates.2;
      permitted = permitted;
      canonical = record { asked = asked; says = is; text = sym creates.3.body ∙ makes };
    }
    by (Some asked) Same is creates makes = absurd makes
    by (Some asked) (Move s place unlocked at) is creates makes = absurd makes
    by (Some asked) Already is creates makes = absurd makes
    by (Some asked) (Delete s place at) is creates makes = absurd makes
