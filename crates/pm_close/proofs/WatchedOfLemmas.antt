-- The watches of a monitor one by one: by threshold, metric and object.
use Rattle.std.proofs.Common.{◌≡◌, ◌<◌, ◌+◌, ◌++◌, ℕ, List, [], ◌∷◌, length, map, take, get_or, sym, ap, ◌∙◌, append_assoc, arith}
use Rattle.std.specs.List.{filter, enumerate_from}
use Rattle.std.proofs.Math.ListN.{get_or-map}
use Rattle.std.proofs.lemmas.List.{length-map, map-append, take_more}
use Rattle.std.proofs.lemmas.List.Elements.{filter-append}
use Rattle.std.proofs.lemmas.List.FromFn.{get_or-enumerate_from}
use Rattle.pm_base.specs.declared.class.Class.{Class}
use Rattle.pm_inventory.specs.Inventory.{InventoryState}
use Rattle.pm_inventory.specs.Slot.{def_at}
use Rattle.pm_history.specs.Terms.{Watched}
use Rattle.pm_asked.specs.Asked.{Numbered, is_of_class, measured_objects}
use Rattle.pm_jobs.specs.Numbered.{numbered}
use Rattle.pm_jobs.specs.Stands.{bound_of}
use Rattle.pm_jobs.specs.declared.standing.Limit.{Limit}
use Rattle.pm_close.specs.declared.watched.WatchedObject.{WatchedObject}
use Rattle.pm_close.specs.declared.watches.MetricWatches.{MetricWatches}
use Rattle.pm_close.specs.Watched.{object_numbers, watched_by}

-- one more object, if it is of the class
pub objects-more : (inventory : InventoryState) (class : Class) (objects : List ℕ) (k : ℕ) (items one new : List WatchedObject)
    → k < length objects → new ≡ items ++ one
    → object_numbers items ≡ measured_objects inventory (take k objects) class
    → object_numbers one ≡ measured_objects inventory (get_or objects k 0 ∷ []) class
    → object_numbers new ≡ measured_objects inventory (take (k + 1) objects) class
objects-more inventory class objects k items one new lt is before own =
    let p = is_of_class inventory class in
    ap object_numbers is
    ∙ map-append (λ (o : WatchedObject). o.object) items one
    ∙ (λ i. before i ++ own i)
    ∙ sym (filter-append p (take k objects) (get_or objects k 0 ∷ []))
    ∙ ap (filter p) (sym (take_more objects k 0 lt))

-- one more metric of a threshold
pub metrics-more : (inventory : InventoryState) (f : Numbered → Watched) (numbers : List ℕ) (k n : ℕ) (bs : List Watched)
    (items new : List MetricWatches) (m : MetricWatches)
    → k < length numbers → n ≡ get_or numbers k n → new ≡ items ++ m ∷ []
    → map watched_by items ≡ bs ++ map f (numbered inventory (take k numbers))
    → watched_by m ≡ f (n, def_at inventory.measures n)
    → map watched_by new ≡ bs ++ map f (numbered inventory (take (k + 1) numbers))
metrics-more inventory f numbers k n bs items new m lt at is before own =
    let with_def : ℕ → Numbered = λ metric. (metric, def_at inventory.measures metric) in
    ap (map watched_by) is
    ∙ map-append watched_by items (m ∷ [])
    ∙ (λ i. before i ++ own i ∷ [])
    ∙ append_assoc bs (map f (numbered inventory (take k numbers))) (f (with_def n) ∷ [])
    ∙ ap (λ l. bs ++ l) (sym (map-append f (numbered inventory (take k numbers)) (with_def n ∷ [])))
    ∙ ap (λ l. bs ++ map f l) (sym (map-append with_def (take k numbers) (n ∷ [])))
    ∙ ap (λ ns. bs ++ map f (numbered inventory ns)) (ap (λ x. take k numbers ++ x ∷ []) at ∙ sym (take_more numbers k n lt))

-- the threshold at a place
pub limit-at : (limits : List Limit) (k : ℕ) (limit : Limit) → k < length limits → get_or limits k limit ≡ limit
    → get_or (enumerate_from 0 (map bound_of limits)) k (k, bound_of limit) ≡ (k, bound_of limit)
limit-at limits k limit lt at =
    let here : 0 + k ≡ k = omega arith in
    let bound : get_or (map bound_of limits) k (bound_of limit) ≡ bound_of limit = get_or-map bound_of limits k limit ∙ ap bound_of at in
    get_or-enumerate_from 0 (map bound_of limits) k (k, bound_of limit) (omega (arith, lt, length-map limits bound_of))
    ∙ (λ i. (here i, bound i))
