-- The name of a metric, by its number.
use Rattle.std.proofs.Common.{◌≡◌, ℕ, zero, suc, true, List, [], ◌∷◌, map, get_or, slice_get, Some, All, ap}
use Rattle.std.proofs.lemmas.List.Elements.{All-head, All-tail}
use Rattle.pm_meas.specs.declared.def.Def.{Def}
use Rattle.pm_meas.specs.Def.{IsDef}
use Rattle.pm_form.specs.Names.{measure_name}
use Rattle.pm_form.proofs.NameLemmas.{measure_name-IsMeasureName}

pub name-of : (ds : List Def) (n : ℕ) (d : Def) → slice_get ds n ≡ Some d → get_or (map (λ (d : Def). d.name) ds) n [] ≡ d.name
name-of [] n d is = cc
name-of (x ∷ xs) zero d is = let same : x ≡ d = cc in ap (λ (d : Def). d.name) same
name-of (x ∷ xs) (suc n) d is = name-of xs n d is

pub name-passes : (ds : List Def) (n : ℕ) (d : Def) → All IsDef ds → slice_get ds n ≡ Some d → measure_name d.name ≡ true
name-passes [] n d all is = cc
name-passes (x ∷ xs) zero d all is =
    let same : x ≡ d = cc in
    let first : IsDef x = All-head IsDef x xs all in
    rw (← same) (measure_name-IsMeasureName x.name first.name_is)
name-passes (x ∷ xs) (suc n) d all is = name-passes xs n d (All-tail IsDef x xs all) is
