-- What a call does to the posts that a courier made (this project's own).
use Rattle.std.specs.Prelude.{◌≡◌, ℕ, List, [], ◌∷◌, ◌++◌, Result, MatchResult}

-- A body that was posted, and where to.
pub record Post : Type 0 where
  pub port : ℕ
  pub path : List ℕ
  pub body : List ℕ

-- A post is made and is the last one then, or it fails and none is made.
abbrev pub Posts : {E : Type 0} → List Post → List Post → Result Unit E → Post → Type 0
Posts old new result post = MatchResult result (λ _. new ≡ old ++ post ∷ []) (λ _. new ≡ old)
