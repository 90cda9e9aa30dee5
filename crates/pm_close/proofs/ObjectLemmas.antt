-- Objects one by one, as a granularity period ends on them.
use Rattle.std.proofs.Common.{◌≡◌, ◌≤◌, ◌<◌, ◌+◌, ◌++◌, ◌∷◌, [], ℕ, false, List, length, map, take, set, get_or, sym, ap, subst, ◌∙◌, arith, inl, inr}
use Rattle.std.proofs.lemmas.Bool.{cases_eq, cases_lt}
use Rattle.std.proofs.lemmas.List.{get_or-set_other, get_or-map, get_or_default, length-set, length-map, map-append, flat_map_more, take_more, same_lists}
use Rattle.std.proofs.lemmas.Grind.{get_or-set_at}
use Rattle.std.specs.List.{flat_map}
use Rattle.pm_thresh.specs.declared.watch.Watch.{Watch}
use Rattle.pm_close.specs.declared.watched.WatchedObject.{WatchedObject}
use Rattle.pm_close.specs.Watched.{SameObjects, SlotsWithin, object_numbers}

-- a fact of the objects before one, and of what comes into its place
pub fact-more : {X : Type 0} (P : X → Type 0) (now : List X) (k : ℕ) (new : X) → k < length now → P new
    → ((j : ℕ) (d : X) → j < k → P (get_or now j d))
    → (j : ℕ) (d : X) → j < k + 1 → P (get_or (set now k new) j d)
fact-more P now k new room is before j d lt =
    elim (cases_lt j k) [
      | inl below ↦ subst P (sym (get_or-set_other now k j new d (omega arith))) (before j d below)
      | inr past ↦ subst P (sym (get_or-set_at now k j new d (omega arith) room)) is
    ]

pub later-more : {X : Type 0} (before now : List X) (k : ℕ) (new : X)
    → ((j : ℕ) (d : X) → k ≤ j → get_or now j d ≡ get_or before j d)
    → (j : ℕ) (d : X) → k + 1 ≤ j → get_or (set now k new) j d ≡ get_or before j d
later-more before now k new later j d past = get_or-set_other now k j new d (omega arith) ∙ later j d (omega arith)

-- what comes into a place agrees with what was there
pub field-more : {X Y : Type 0} (f : X → Y) (before now : List X) (k : ℕ) (z new : X) → k < length now
    → f new ≡ f (get_or now k z) → (j : ℕ) (d : X)
    → f (get_or now j d) ≡ f (get_or before j d) → f (get_or (set now k new) j d) ≡ f (get_or before j d)
field-more f before now k z new room is j d old =
    elim (cases_eq j k) [
      | inl at ↦ ap f (get_or-set_at now k j new d at room)
          ∙ (is ∙ (ap f (get_or_default now k z d room) ∙ (ap (λ i. f (get_or now i d)) (sym at) ∙ old)))
      | inr apart ↦ ap f (get_or-set_other now k j new d apart) ∙ old
    ]

-- what comes into a place has a fact that each has
pub fact-set : {X : Type 0} (P : X → Type 0) (now : List X) (k : ℕ) (new : X) → k < length now → P new
    → (j : ℕ) (d : X) → P (get_or now j d) → P (get_or (set now k new) j d)
fact-set P now k new room is j d old =
    elim (cases_eq j k) [
      | inl at ↦ subst P (sym (get_or-set_at now k j new d at room)) is
      | inr apart ↦ subst P (sym (get_or-set_other now k j new d apart)) old
    ]

-- what comes into the place of an object is of the same object
pub same-more : (before now : List WatchedObject) (k : ℕ) (z new : WatchedObject) → k < length now
    → new.object ≡ (get_or now k z).object → new.slot ≡ (get_or now k z).slot
    → SameObjects before now → SameObjects before (set now k new)
same-more before now k z new room object slot same = record {
  as_many = length-set now k new ∙ same.as_many;
  object = λ j d lt. field-more (λ (x : WatchedObject). x.object) before now k z new room object j d (same.object j d lt);
  slot = λ j d lt. field-more (λ (x : WatchedObject). x.slot) before now k z new room slot j d (same.slot j d lt);
}

-- the numbers and the slots are the same
pub numbers-same : (before now : List WatchedObject) → SameObjects before now → object_numbers now ≡ object_numbers before
numbers-same before now same =
    let f : WatchedObject → ℕ = λ x. x.object in
    let long = length-map now f in
    let first = length-map before f in
    let as_many = same.as_many in
    same_lists (map f now) (map f before) (long ∙ (as_many ∙ sym first)) (λ k d lt.
    let watch : Watch = record { high = 0; low = 0; up = false; down = false; rearmed = false; raised = false } in
    let z : WatchedObject = record { object = 0; slot = 0; watch = watch } in
    get_or-map f now k z d (omega (arith, lt, long)) ∙ (same.object k z (omega (arith, lt, long, as_many))
    ∙ sym (get_or-map f before k z d (omega (arith, lt, long, as_many)))))

pub within-same : (slots : ℕ) (before now : List WatchedObject) → SameObjects before now
    → SlotsWithin slots before → SlotsWithin slots now
within-same slots before now same within k d lt =
    let as_many = same.as_many in
    let old = within k d (omega (arith, lt, as_many)) in
    subst (λ s. s < slots) (sym (same.slot k d (omega (arith, lt, as_many)))) old

-- the crossings of one more object
pub crossed-more : {X C D : Type 0} (f : X → List D) (g : C → D) (numbers : List X) (k : ℕ) (n : X) (bs : List
    D) (items more new : List C)
    → k < length numbers → get_or numbers k n ≡ n → new ≡ items ++ more
    → map g items ≡ bs ++ flat_map f (take k numbers) → map g more ≡ f n
    → map g new ≡ bs ++ flat_map f (take (k + 1) numbers)
crossed-more f g numbers k n bs items more new lt at is before told =
    ap (map g) is ∙ (map-append g items more ∙ ((λ i. before i ++ told i)
    ∙ (flat_map_more f bs (take k numbers) n
    ∙ ap (λ ns. bs ++ flat_map f ns) (ap (λ x. take k numbers ++ x ∷ []) (sym at) ∙ sym (take_more numbers k n lt)))))
