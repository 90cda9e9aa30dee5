-- Parts of texts that are compared.
use Rattle.std.specs.Prelude.{◌≡◌, ◌≤◌, ◌<◌, ℕ, List, slice_index}

-- The bytes from one place up to another are the same.
abbrev pub AreSameFrom : List ℕ → List ℕ → ℕ → ℕ → Type 0
AreSameFrom a b from to = (k : ℕ) → from ≤ k → k < to → slice_index a k ≡ slice_index b k
