-- The watches of a monitor: what stays of them, and ticks with which no granularity period ends.
use Rattle.std.proofs.Common.{◌≡◌, ◌<◌, ◌+◌, ◌++◌, ◌∷◌, [], ℕ, suc, List, length, map, take, get_or, refl, sym, ap, ◌∙◌, arith}
use Rattle.std.proofs.lemmas.List.{flat_map_more, take_more}
use Rattle.std.specs.List.{flat_map}

-- lists that agree at each place agree
pub map-same : {X Y : Type 0} (f : X → Y) (before now : List X) → length now ≡ length before
    → ((j : ℕ) (d : X) → j < length before → f (get_or now j d) ≡ f (get_or before j d)) → map f now ≡ map f before
map-same f [] [] as_many same = refl
map-same f [] (x ∷ xs) as_many same = absurd cc
map-same f (x ∷ xs) [] as_many same = absurd cc
map-same f (x ∷ xs) (y ∷ ys) as_many same =
    let rest = map-same f xs ys (omega (arith, as_many)) (λ j d lt. same (suc j) d (omega (arith, lt))) in
    let first = same 0 x (omega arith) in
    λ i. first i ∷ rest i

-- the crossings of one more metric
pub crossings-more : {X D : Type 0} (f : X → List D) (bs all new : List D) (xs : List X) (k : ℕ) (x : X)
    → k < length xs → get_or xs k x ≡ x → all ≡ bs ++ flat_map f (take k xs) → new ≡ all ++ f x
    → new ≡ bs ++ flat_map f (take (k + 1) xs)
crossings-more f bs all new xs k x lt at before is =
    is ∙ (ap (λ a. a ++ f x) before ∙ (flat_map_more f bs (take k xs) x
    ∙ ap (λ ns. bs ++ flat_map f ns) (ap (λ y. take k xs ++ y ∷ []) (sym at) ∙ sym (take_more xs k x lt))))
