-- The numbers of a family among those below a number.
use Rattle.std.proofs.Common.{◌≡◌, ◌↔◌, ℕ, ◌+◌, ◌<◌, ◌≤◌, List, [], ◌∷◌, ◌++◌, ◌⊎◌, inl, inr, Some, Bool, true, false, IsTrue, length, length-append, get_or, slice_get, All, Contains, sym, ap, ◌∙◌, subst, arith}
use Rattle.std.proofs.lemmas.Bool.{cases_lt}
use Rattle.std.proofs.lemmas.List.{length-map, get_or_append_left}
use Rattle.std.proofs.lemmas.List.Elements.{All-contains, All-push, All-weaker, Contains-append_left, Contains-push, Contains-push_cases}
use Rattle.std.proofs.lemmas.Option.{slice_get-map, slice_get_within, same_Some}
use Rattle.std.proofs.Math.Seq.{get_or-append_seam}
use Rattle.std.specs.Option.{option_map}
use Rattle.std.specs.List.Sorted.{IsStrictlyIncreasing}
use Rattle.pm_meas.specs.declared.def.Def.{Def}
use Rattle.pm_meas.specs.Catalogue.{names_of, family_of, IsOfFamily, AreOfFamily}

pub record AreOfFamilyBelow (defs : List Def) (family : List ℕ) (n : ℕ) (metrics : List ℕ) : Type 0 where
  pub ordered : IsStrictlyIncreasing metrics
  pub below : All (λ m. m < n) metrics
  pub all : (m : ℕ) → m < n → (Contains metrics m ↔ IsOfFamily defs family m)

IsStrictlyIncreasing-push : (xs : List ℕ) (n : ℕ) → IsStrictlyIncreasing xs → All (λ m. m < n) xs → IsStrictlyIncreasing (xs ++ n ∷ [])
IsStrictlyIncreasing-push xs n ordered below k within = by (cases_lt (k + 1) (length xs))
  where
    inside : k + 1 < length xs + 1
    inside = omega (arith, within, length-append xs (n ∷ []))

    first : get_or (xs ++ n ∷ []) k 0 ≡ get_or xs k 0
    first = get_or_append_left xs (n ∷ []) 0 k (omega (arith, inside))

    by : (k + 1 < length xs) ⊎ (length xs ≤ k + 1) → get_or (xs ++ n ∷ []) k 0 < get_or (xs ++ n ∷ []) (k + 1) 0
    by (inl lt) =
        let second = get_or_append_left xs (n ∷ []) 0 (k + 1) lt in
        let less = ordered k lt in
        omega (arith, first, second, less)
    by (inr le) =
        let at : k + 1 ≡ length xs = omega (arith, inside) in
        let last = ap (λ i. get_or (xs ++ n ∷ []) i 0) at ∙ get_or-append_seam xs n [] 0 in
        let less = below k 0 (omega (arith, inside)) in
        omega (arith, first, last, less)

pub AreOfFamilyBelow-none : (defs : List Def) (family : List ℕ) → AreOfFamilyBelow defs family 0 []
AreOfFamilyBelow-none defs family = record {
  ordered = λ k within. absurd (omega arith);
  below = λ k d within. absurd (omega arith);
  all = λ m lt. absurd (omega arith);
}

-- a measurement of the family is taken
pub AreOfFamilyBelow-takes : (defs : List Def) (family : List ℕ) (n : ℕ) (metrics : List ℕ) → AreOfFamilyBelow defs family n metrics → IsOfFamily defs family n
    → AreOfFamilyBelow defs family (n + 1) (metrics ++ n ∷ [])
AreOfFamilyBelow-takes defs family n metrics is of_family = record {
  ordered = IsStrictlyIncreasing-push metrics n is.ordered is.below;
  below = All-push (λ m. m < n + 1) metrics n (All-weaker (λ m. m < n) (λ m. m < n + 1) (λ m lt. omega (arith, lt)) metrics is.below) (omega arith);
  all = λ m lt. (to m lt, from m lt);
}
  where
    to : (m : ℕ) → m < n + 1 → Contains (metrics ++ n ∷ []) m → IsOfFamily defs family m
    to m lt there = elim (Contains-push_cases metrics n m there) [
      | inl old ↦ (is.all m (All-contains (λ k. k < n) metrics m is.below old)).0 old
      | inr new ↦ subst (IsOfFamily defs family) new of_family
    ]

    from : (m : ℕ) → m < n + 1 → IsOfFamily defs family m → Contains (metrics ++ n ∷ []) m
    from m lt of_it = elim (cases_lt m n) [
      | inl less ↦ Contains-append_left metrics (n ∷ []) m ((is.all m less).1 of_it)
      | inr more ↦ let same : n ≡ m = omega (arith, lt) in subst (Contains (metrics ++ n ∷ [])) same (Contains-push metrics n)
    ]

-- and another is not
pub AreOfFamilyBelow-keeps : (defs : List Def) (family : List ℕ) (n : ℕ) (metrics : List ℕ) → AreOfFamilyBelow defs family n metrics → ¬ IsOfFamily defs family n
    → AreOfFamilyBelow defs family (n + 1) metrics
AreOfFamilyBelow-keeps defs family n metrics is other = record {
  ordered = is.ordered;
  below = All-weaker (λ m. m < n) (λ m. m < n + 1) (λ m lt. omega (arith, lt)) metrics is.below;
  all = λ m lt. (to m, from m lt);
}
  where
    to : (m : ℕ) → Contains metrics m → IsOfFamily defs family m
    to m there = (is.all m (All-contains (λ k. k < n) metrics m is.below there)).0 there

    from : (m : ℕ) → m < n + 1 → IsOfFamily defs family m → Contains metrics m
    from m lt of_it = elim (cases_lt m n) [
      | inl less ↦ (is.all m less).1 of_it
      | inr more ↦ let same : m ≡ n = omega (arith, lt) in absurd (other (subst (IsOfFamily defs family) same of_it))
    ]

pub AreOfFamilyBelow-all : (defs : List Def) (family metrics : List ℕ) (n : ℕ) → length defs ≤ n → AreOfFamilyBelow defs family n metrics → AreOfFamily defs family metrics
AreOfFamilyBelow-all defs family metrics n whole is = record {
  ordered = is.ordered;
  all = λ m. (to m, from m);
}
  where
    to : (m : ℕ) → Contains metrics m → IsOfFamily defs family m
    to m there = (is.all m (All-contains (λ k. k < n) metrics m is.below there)).0 there

    from : (m : ℕ) → IsOfFamily defs family m → Contains metrics m
    from m of_it =
        let within : m < length defs = omega (arith, slice_get_within (names_of defs) m of_it.name of_it.name_is, length-map defs (λ (e : Def). e.name)) in
        (is.all m (omega (arith, within))).1 of_it

-- what the comparison of a name's family tells
pub IsOfFamily-decides : (defs : List Def) (family : List ℕ) (m : ℕ) (d : Def) (name part : List ℕ) (b : Bool) → slice_get defs m ≡ Some d → name ≡ d.name → part ≡ family_of name
    → (IsTrue b ↔ (part ≡ family)) → (b ≡ true → IsOfFamily defs family m) × (b ≡ false → ¬ IsOfFamily defs family m)
IsOfFamily-decides defs family m d name part b at name_is part_is decides = (yes, no)
  where
    named : slice_get (names_of defs) m ≡ Some d.name
    named = slice_get-map (λ (e : Def). e.name) defs m ∙ ap (option_map (λ (e : Def). e.name)) at

    of_name : part ≡ family_of d.name
    of_name = part_is ∙ ap family_of name_is

    yes : b ≡ true → IsOfFamily defs family m
    yes is = record { name = d.name; name_is = named; family_is = sym of_name ∙ decides.0 is }

    no : b ≡ false → ¬ IsOfFamily defs family m
    no is of_it =
        let same : part ≡ family = of_name ∙ ap family_of (same_Some _ _ (sym named ∙ of_it.name_is)) ∙ of_it.family_is in
        let true_is : b ≡ true = decides.1 same in
        absurd (cc (true_is, is))
