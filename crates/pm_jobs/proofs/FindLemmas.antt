-- What stands under an id, and where.
use Rattle.std.proofs.Common.{◌≡◌, ℕ, zero, suc, ◌<◌, ◌||◌, Bool, true, false, not, List, [], ◌∷◌, length, drop, get_or, Some, refl, sym, ap, ◌∙◌, drop-cons}
use mathlib.Core.Bool.{beq}
use Rattle.std.specs.Prelude.{slice_get}
use Rattle.std.specs.List.{list_any}
use Rattle.std.specs.Str.{bytes_eq}
use Rattle.std.specs.Option.{option_map}
use Rattle.std.proofs.Math.ListN.{get_or-map}
use Rattle.std.proofs.lemmas.List.{length-map}
use Rattle.std.proofs.lemmas.Option.{slice_get-get_or}
use Rattle.std.proofs.lemmas.Slice.Eq.{bytes_eq-Decides}
use Rattle.pm_jobs.specs.declared.standing.Standing.{Standing}
use Rattle.pm_jobs.specs.State.{ids}
use Rattle.pm_history.specs.declared.entry.Side.{Side}
use Rattle.pm_history.specs.declared.entry.Side.TheVariants.{Job, Monitor}
use Rattle.pm_jobs.specs.declared.error.BodyError.TheVariants.{J11}
use Rattle.pm_jobs.specs.Asked.{Asked}
use Rattle.pm_jobs.specs.Wanted.{text_rule}
use Rattle.pm_jobs.specs.Rules.{standing_at, was_made_with, has_wrong_list}
use Rattle.pm_jobs.proofs.IdLemmas.{own_id}

pub here : (items : List Standing) (i : ℕ) (item : Standing) (id : List ℕ) → i < length items → item ≡ get_or items i item → bytes_eq id item.id ≡ true
    → standing_at (drop i items) id ≡ slice_get items i
here items i item id lt is same =
    let own : bytes_eq id (get_or items i item).id ≡ true = ap (λ (s : Standing). bytes_eq id s.id) (sym is) ∙ same in
    rw (drop-cons items i item lt, own) (sym (slice_get-get_or items i item lt))

pub named : (items : List Standing) (i : ℕ) (item : Standing) (id : List ℕ) → i < length items → item ≡ get_or items i item → bytes_eq id item.id ≡ true
    → slice_get (ids items) i ≡ Some id
named items i item id lt is same =
    let within : i < length (ids items) = rw (length-map items (λ (s : Standing). s.id)) lt in
    slice_get-get_or (ids items) i item.id within
    ∙ ap Some (get_or-map (λ (s : Standing). s.id) items i item ∙ ap (λ (s : Standing). s.id) (sym is) ∙ sym ((bytes_eq-Decides id item.id).0 same))

pub stands_at : (is : List (List ℕ)) (i : ℕ) (id : List ℕ) → slice_get is i ≡ Some id → list_any (bytes_eq id) is ≡ true
stands_at [] i id at = cc
stands_at (j ∷ js) zero id at = let same : j ≡ id = cc in rw same (rw (own_id id) refl)
stands_at (j ∷ js) (suc i) id at = or_true (bytes_eq id j) _ (stands_at js i id at)
  where
    or_true : (a b : Bool) → b ≡ true → (a || b) ≡ true
    or_true true b is = refl
    or_true false b is = is

pub state_there : (items : List Standing) (i : ℕ) (item : Standing) (unlocked : Bool) → i < length items → item ≡ get_or items i item → item.unlocked ≡ unlocked
    → option_map (λ (s : Standing). s.unlocked) (slice_get items i) ≡ Some unlocked
state_there items i item unlocked lt is state =
    ap (option_map (λ (s : Standing). s.unlocked)) (slice_get-get_or items i item lt)
    ∙ ap (λ (s : Standing). Some s.unlocked) (sym is) ∙ ap Some state

pub beq_same : (a b : Bool) → beq a b ≡ true → a ≡ b
beq_same true true is = refl
beq_same true false is = cc
beq_same false true is = cc
beq_same false false is = refl

pub beq_other : (a b : Bool) → beq a b ≡ false → a ≡ not b
beq_other true true is = cc
beq_other true false is = refl
beq_other false true is = refl
beq_other false false is = cc

pub made_at : (items : List Standing) (place : ℕ) (item : Standing) (asked : Asked) (id : List ℕ) → standing_at items id ≡ slice_get items place
    → place < length items → item ≡ get_or items place item → was_made_with asked (standing_at items id) ≡ bytes_eq item.body asked.text
made_at items place item asked id found lt is =
    ap (was_made_with asked) (found ∙ slice_get-get_or items place item lt) ∙ ap (λ (s : Standing). bytes_eq s.body asked.text) (sym is)

pub wrong_list : (side : Side) (text : List ℕ) → text_rule side text ≡ J11 → has_wrong_list side text ≡ true
wrong_list Job text is = cc
wrong_list Monitor text is = rw is refl
