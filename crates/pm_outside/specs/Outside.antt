-- What a call does to the bytes that a source has left and to those that were written to a sink (this project's own).
use Rattle.std.specs.Prelude.{◌≡◌, ◌<◌, ◌≤◌, ℕ, List, [], ◌++◌, length, take, Result, MatchResult}

-- A read. The bytes that are left lose what it gave, which is none only at the end or into a buffer without room. One
-- that fails gives none.
abbrev pub Gives : {E : Type 0} → List ℕ → List ℕ → Result ℕ E → List ℕ → Type 0
Gives old new result buf =
    MatchResult result (λ n. (old ≡ take n buf ++ new) × (n ≡ 0 → 0 < length buf → old ≡ [])) (λ _. new ≡ old)

-- A write. The bytes written grow by all of these, or in a call that fails by some of the first of them.
abbrev pub Takes : {E : Type 0} → List ℕ → List ℕ → Result Unit E → List ℕ → Type 0
Takes old new result bytes =
    MatchResult result (λ _. new ≡ old ++ bytes) (λ _. (n : ℕ) × (n ≤ length bytes) × (new ≡ old ++ take n bytes))
