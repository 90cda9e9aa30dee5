-- The names of a catalogue.
use Rattle.std.proofs.Common.{◌≡◌, ◌≢◌, ◌↔◌, ℕ, ◌<◌, ◌≤◌, List, [], ◌∷◌, ◌++◌, Option, Some, None, Bool, true, false, length, length-append, subst, AllPairs, get_or, slice_get, inl, inr, refl, sym, ap, ◌∙◌, arith, IsTrue}
use Rattle.std.proofs.lemmas.Bool.{cases_order}
use Rattle.std.proofs.lemmas.List.{length-map, map-append, get_or_default}
use Rattle.std.proofs.lemmas.List.Elements.{All-push}
use Rattle.std.proofs.lemmas.List.Quantifiers.{all_pairs_push}
use Rattle.std.proofs.lemmas.Option.{same_Some, slice_get-map, slice_get_read, slice_get_past, slice_get-get_or, slice_get_within, get_or_from_slice_get, none-some}
use Rattle.std.specs.Option.{option_map, MatchOption, is_some}
use Rattle.pm_meas.specs.declared.def.Def.{Def}
use Rattle.pm_meas.specs.Def.{IsDef}
use Rattle.pm_meas.specs.Catalogue.{names_of, Stands, IsCatalogue}

pub name_at : (defs : List Def) (m : ℕ) (d : Def) → m < length defs → d ≡ get_or defs m d → slice_get (names_of defs) m ≡ Some d.name
name_at defs m d within is =
    slice_get-map (λ (e : Def). e.name) defs m ∙ ap (option_map (λ (e : Def). e.name)) (slice_get_read defs (length defs) m d refl within is)

-- the answer of a comparison with the name at a place
pub name_decides : (defs items : List Def) (m : ℕ) (d : Def) (text name : List ℕ) (b : Bool) → items ≡ defs → m < length items → d ≡ get_or items m d → text ≡ d.name
    → (IsTrue b ↔ (text ≡ name)) → (IsTrue b ↔ (slice_get (names_of defs) m ≡ Some name))
name_decides defs items m d text name b same within is text_is decides =
    let at = ap (λ ds. slice_get (names_of ds) m) (sym same) ∙ name_at items m d within is in
    ((λ yes. at ∙ ap Some (sym text_is ∙ decides.0 yes)), (λ there. decides.1 (text_is ∙ same_Some _ _ (sym at ∙ there))))

pub no_name_past : (defs : List Def) (m : ℕ) (name : List ℕ) → length defs ≤ m → slice_get (names_of defs) m ≡ Some name → ⊥
no_name_past defs m name past is =
    none-some name (sym (slice_get_past (names_of defs) m (omega (arith, length-map defs (λ (e : Def). e.name)))) ∙ is)

-- a name stands where some number below the length has it
pub Stands-at : (defs : List Def) (name : List ℕ) → Stands defs name → (m : ℕ) × (m < length defs) × (slice_get (names_of defs) m ≡ Some name)
Stands-at defs name (m, within, is) =
    (m, omega (arith, within, length-map defs (λ (e : Def). e.name)), slice_get-get_or (names_of defs) m name within ∙ ap Some is)

-- one more permitted definition of a new name
pub IsCatalogue-push : (defs : List Def) (d : Def) → IsCatalogue defs → IsDef d → ¬ Stands defs d.name → length defs < 64 → IsCatalogue (defs ++ d ∷ [])
IsCatalogue-push defs d is def_is fresh room =
    let other : (k : ℕ) (name : List ℕ) → k < length (names_of defs) → get_or (names_of defs) k name ≢ d.name = λ k name within same.
    fresh (k, within, get_or_default (names_of defs) k d.name name within ∙ same) in
    record {
      few = omega (arith, length-append defs (d ∷ []));
      permitted = All-push IsDef defs d is.permitted def_is;
      distinct = subst (AllPairs (λ a b. a ≢ b)) (sym (map-append (λ (e : Def). e.name) defs (d ∷ []))) (all_pairs_push (λ a b. a ≢ b) (names_of defs) d.name is.distinct other);
    }

-- what a look-up tells
pub Stands-found : (defs : List Def) (name : List ℕ) (r : Option ℕ) → MatchOption r (¬ Stands defs name) (λ m. slice_get (names_of defs) m ≡ Some name) → is_some r ≡ true → Stands defs name
Stands-found defs name None tells some = absurd (cc some)
Stands-found defs name (Some m) tells some =
    let within = slice_get_within (names_of defs) m name tells in (m, within, get_or_from_slice_get (names_of defs) m name name tells)

pub Stands-not_found : (defs : List Def) (name : List ℕ) (r : Option ℕ) → MatchOption r (¬ Stands defs name) (λ m. slice_get (names_of defs) m ≡ Some name) → is_some r ≡ false → ¬ Stands defs name
Stands-not_found defs name None tells none = tells
Stands-not_found defs name (Some m) tells none = absurd (cc none)

-- one number has a name, since the names are different
pub name_at-only : (defs : List Def) (name : List ℕ) (j k : ℕ) → IsCatalogue defs → slice_get (names_of defs) j ≡ Some name → slice_get (names_of defs) k ≡ Some name → j ≡ k
name_at-only defs name j k is first second = elim (cases_order j k) [
  | inl same ↦ same
  | inr other ↦ elim other [
    | inl less ↦ absurd (apart j k less first second)
    | inr more ↦ absurd (apart k j more second first)
  ]
]
  where
    apart : (a b : ℕ) → a < b → slice_get (names_of defs) a ≡ Some name → slice_get (names_of defs) b ≡ Some name → ⊥
    apart a b less at_a at_b =
        is.distinct a b name less (slice_get_within (names_of defs) b name at_b)
        (get_or_from_slice_get (names_of defs) a name name at_a ∙ sym (get_or_from_slice_get (names_of defs) b name name at_b))

pub found-only : (defs : List Def) (name : List ℕ) (r : Option ℕ) → IsCatalogue defs → MatchOption r (¬ Stands defs name) (λ m. slice_get (names_of defs) m ≡ Some name)
    → (m : ℕ) → slice_get (names_of defs) m ≡ Some name → r ≡ Some m
found-only defs name None is tells m at = absurd (tells (m, slice_get_within (names_of defs) m name at, get_or_from_slice_get (names_of defs) m name name at))
found-only defs name (Some k) is tells m at = ap Some (name_at-only defs name k m is tells at)
