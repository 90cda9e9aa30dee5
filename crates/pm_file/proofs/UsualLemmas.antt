-- Trees, and the members of an object, as tokens that were read.
use Rattle.std.proofs.Common.{◌≡◌, ◌<◌, ◌&&◌, Bool, true, List, [], ◌∷◌, ◌++◌, length, refl, sym, ap, ◌∙◌, arith, append_assoc}
use Rattle.json.specs.Token.{Token}
use Rattle.json.specs.Tree.{json_tokens}
use Rattle.serde_json.specs.Data.{Data, null, boolean, number, string, array, object}
use Rattle.serde_json.specs.Written.{outline}
use Rattle.pm_file.specs.Usual.{IsFirst}

-- ---- each tree has a token

some_tokens : (d : Data) → 0 < length (json_tokens (outline d))
some_tokens null = omega arith
some_tokens (boolean b) = omega arith
some_tokens (number n) = omega arith
some_tokens (string s) = omega arith
some_tokens (array ds) = omega arith
some_tokens (object ms) = omega arith

longer : (xs ys : List Token) → 0 < length xs → length ys < length (xs ++ ys)
longer [] ys some = absurd (omega (arith, some))
longer (x ∷ xs) ys some = at_least xs ys
  where
    at_least : (xs ys : List Token) → length ys < length (x ∷ (xs ++ ys))
    at_least [] ys = omega arith
    at_least (x ∷ xs) ys = let h = at_least xs ys in omega (arith, h)

pub shorter : (d : Data) (old new : List Token) → IsFirst d old new → length new < length old
shorter d old new is = rw is (longer (json_tokens (outline d)) new (some_tokens d))

-- ---- what is read of an object, from its end to its start

-- These tokens come first, and the new ones after them.
pub record Starts (tokens old new : List Token) : Type 0 where
  pub is : old ≡ tokens ++ new

pub ends : (t : Token) (old new : List Token) → old ≡ t ∷ new → Starts (t ∷ []) old new
ends t old new is = record { is = is }

pub then_token : (t : Token) {rest old mid new : List Token} → old ≡ t ∷ mid → Starts rest mid new → Starts (t ∷ rest) old new
then_token t is next = record { is = is ∙ ap (λ ts. t ∷ ts) next.is }

pub then_tree : (d : Data) {rest old mid new : List Token} → IsFirst d old mid → Starts rest mid new
    → Starts (json_tokens (outline d) ++ rest) old new
then_tree d {rest} {old} {mid} {new} is next =
    let t = json_tokens (outline d) in
    record { is = is ∙ ap (λ ts. t ++ ts) next.is ∙ sym (append_assoc t rest new) }

pub and : (a b : Bool) → a ≡ true → b ≡ true → (a && b) ≡ true
and a b p q = rw (p, q) refl
