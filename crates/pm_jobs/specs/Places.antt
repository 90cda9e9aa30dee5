-- The places of the items of a list that pass a test.
use Rattle.std.specs.Prelude.{ℕ, Bool, List, map}
use Rattle.std.specs.List.{filter, enumerate_from}

abbrev pub places_where : {A : Type 0} → (A → Bool) → List A → List ℕ
places_where {A} passes xs = map (λ (item : ℕ × A). item.0) (filter (λ (item : ℕ × A). passes item.1) (enumerate_from 0 xs))
