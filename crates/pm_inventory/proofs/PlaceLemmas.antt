-- The place of the first element that passes a test.
use Rattle.std.proofs.Common.{◌≡◌, ◌≢◌, ◌+◌, ◌<◌, ℕ, zero, suc, Bool, true, false, cond, List, [], ◌∷◌, length, map, get_or, Option, Some, refl, sym, ◌∙◌, ap, arith}
use Rattle.std.specs.List.{AllPairs, position_from}
use Rattle.std.specs.Str.{bytes_eq}
use Rattle.std.proofs.lemmas.Bool.{false_from_ne_true}
use Rattle.std.proofs.lemmas.Slice.Eq.{bytes_eq-Decides}

-- an element passes, and none before it
first-place : {K : Type 0} (t : K → Bool) (j i : ℕ) (xs : List K) (d : K) → i < length xs → t (get_or xs i d) ≡ true → ((k : ℕ) → k < i → t (get_or xs k d) ≡ false) → position_from t j xs ≡ Some (j + i)
first-place t j i [] d lt is none = absurd (omega (arith, lt))
first-place t j zero (x ∷ xs) d lt is none =
    let here : j ≡ j + 0 = omega arith in
    ap (λ (b : Bool). cond b (Some j) (position_from t (j + 1) xs)) is ∙ ap (λ (n : ℕ). Some n) here
first-place t j (suc i) (x ∷ xs) d lt is none =
    let shift : j + 1 + i ≡ j + suc i = omega arith in
    ap (λ (b : Bool). cond b (Some j) (position_from t (j + 1) xs)) (none 0 (omega arith))
    ∙ first-place t (j + 1) i xs d (omega (arith, lt)) is (λ k less. none (suc k) (omega (arith, less)))
    ∙ ap (λ (n : ℕ). Some n) shift

-- what stands at the place of the first that passes
pub record PassesAt {K : Type 0} (t : K → Bool) (j v : ℕ) (xs : List K) (d : K) : Type 0 where
  pub at : ℕ
  pub at_is : v ≡ j + at
  pub within : at < length xs
  pub passes : t (get_or xs at d) ≡ true

passes-step : {K : Type 0} (t : K → Bool) (j v : ℕ) (x : K) (xs : List K) (d : K) (b : Bool) → t x ≡ b → cond b (Some j) (position_from t (j + 1) xs) ≡ Some v → (position_from t (j + 1) xs ≡ Some v → PassesAt t (j + 1) v xs d) → PassesAt t j v (x ∷ xs) d
passes-step t j v x xs d true is place later = let same : j ≡ v = cc in record { at = 0; at_is = omega (arith, same); within = omega arith; passes = is }
passes-step t j v x xs d false is place later =
    let rest = later place in
    record { at = suc rest.at; at_is = omega (arith, rest.at_is); within = omega (arith, rest.within); passes = rest.passes }

pub place-passes : {K : Type 0} (t : K → Bool) (j v : ℕ) (xs : List K) (d : K) → position_from t j xs ≡ Some v → PassesAt t j v xs d
place-passes t j v [] d place = cc
place-passes t j v (x ∷ xs) d place = passes-step t j v x xs d (t x) refl place (λ rest. place-passes t (j + 1) v xs d rest)

-- the place of a text among distinct ones
pub distinct-place : (texts : List (List ℕ)) (i : ℕ) (text : List ℕ) → AllPairs (λ a b. a ≢ b) texts → i < length texts → get_or texts i [] ≡ text → position_from (λ t. bytes_eq t text) 0 texts ≡ Some i
distinct-place texts i text distinct lt is =
    let same : 0 + i ≡ i = omega arith in
    first-place (λ t. bytes_eq t text) 0 i texts [] lt ((bytes_eq-Decides (get_or texts i []) text).1 is)
    (λ k less. false_from_ne_true (bytes_eq (get_or texts k []) text) (λ eq. distinct k i [] less lt ((bytes_eq-Decides (get_or texts k []) text).0 eq ∙ sym is)))
    ∙ ap (λ (n : ℕ). Some n) same

-- and what stands there
pub place-text : (texts : List (List ℕ)) (i : ℕ) (text : List ℕ) → position_from (λ t. bytes_eq t text) 0 texts ≡ Some i → (i < length texts) × (get_or texts i [] ≡ text)
place-text texts i text place =
    let found = place-passes (λ t. bytes_eq t text) 0 i texts [] place in
    let same : found.at ≡ i = omega (arith, found.at_is) in (
      omega (arith, found.within, same),
      ap (λ (k : ℕ). get_or texts k []) (sym same) ∙ (bytes_eq-Decides (get_or texts found.at []) text).0 found.passes,
    )

pub position_from-map : {A B : Type 0} (t : B → Bool) (f : A → B) (j : ℕ) (xs : List A) → position_from t j (map f xs) ≡ position_from (λ x. t (f x)) j xs
position_from-map t f j [] = refl
position_from-map t f j (x ∷ xs) = ap (λ (r : Option ℕ). cond (t (f x)) (Some j) r) (position_from-map t f (j + 1) xs)
