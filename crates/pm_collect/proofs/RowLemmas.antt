-- The held files in byte order of their names.
use Rattle.std.proofs.Common.{◌≡◌, ℕ, zero, suc, ◌+◌, ◌<◌, Bool, true, false, List, [], ◌∷◌, length, map, drop, Option, Some, None, refl, sym, ap, subst, ◌∙◌, arith}
use Rattle.std.specs.Prelude.{Vec, cond, bytes_eq, slice_get, MatchOption}
use Rattle.std.specs.declared.alloc.Global.{Global}
use Rattle.std.specs.List.{All, AllByRecursion}
use Rattle.std.specs.List.Sorted.{IsStrictlySortedBy}
use Rattle.std.specs.Map.{lookup, keys_of}
use Rattle.std.specs.Option.{option_map}
use Rattle.std.specs.Ordering.{is_eq, nat_cmp}
use Rattle.std.specs.declared.cmp.Ordering.TheVariants.{Less}
use Rattle.std.specs.BTreeMap.{is_at}
use Rattle.std.specs.Cmp.Lexicographic.{slice_cmp}
use Rattle.std.proofs.lemmas.Map.Text.{is_eq-slice_cmp}
use Rattle.pm_collect.specs.declared.names.Place.{Place}
use Rattle.pm_collect.specs.declared.names.Names.{Names}
use Rattle.pm_collect.specs.Maps.{place_of}
use Rattle.pm_collect.specs.Stored.{HeldFile}
use Rattle.pm_collect.specs.Places.{item_room, place_from, place_in, sizes_of, rows_of, AreRows, IsEntryAt}
use Rattle.pm_collect.proofs.MapLemmas.{key_cmp, query}

abbrev pub Entry : Type 0
Entry = Vec ℕ Global × Place

abbrev pub row : Entry → List ℕ × ℕ
row e = (e.0.items, e.1.size)

-- ---- the order

less_rows : (k : Vec ℕ Global) (es : List Entry) → AllByRecursion (λ y. key_cmp k y ≡ Less) (keys_of es)
    → AllByRecursion (λ y. slice_cmp nat_cmp k.items y ≡ Less) (keys_of (map row es))
less_rows k [] all = tt
less_rows k (e ∷ es) all = (all.0, less_rows k es all.1)

pub rising_rows : (es : List Entry) → IsStrictlySortedBy key_cmp (keys_of es) → IsStrictlySortedBy (slice_cmp nat_cmp) (keys_of (map row es))
unfolding IsStrictlySortedBy
rising_rows [] sorted = tt
rising_rows (e ∷ es) sorted = (less_rows e.0 es sorted.0, rising_rows es sorted.1)

-- ---- what is found

mapped : {X Y : Type 0} (f : X → Y) (t : Bool) (x : X) (o : Option X) → option_map f (cond t (Some x) o) ≡ cond t (Some (f x)) (option_map f o)
mapped f true x o = refl
mapped f false x o = refl

size_at : (name : List ℕ) (es : List Entry) → lookup (bytes_eq name) (map row es) ≡ option_map (λ (p : Place). p.size) (lookup (is_at (query name)) es)
size_at name [] = refl
size_at name (e ∷ es) =
    ap (cond (bytes_eq name e.0.items) (Some e.1.size)) (size_at name es)
    ∙ ap (λ (b : Bool). cond b (Some e.1.size) (option_map (λ (p : Place). p.size) (lookup (is_at (query name)) es))) (sym (is_eq-slice_cmp name e.0.items))
    ∙ sym (mapped (λ (p : Place). p.size) (is_eq (slice_cmp nat_cmp name e.0.items)) e.1 (lookup (is_at (query name)) es))

size_in : (gate : ℕ) (files : List HeldFile) (name : List ℕ) → option_map (λ (p : Place). p.size) (place_from gate files name) ≡ lookup (bytes_eq name) (sizes_of files)
size_in gate [] name = refl
size_in gate (f ∷ files) name =
    mapped (λ (p : Place). p.size) (bytes_eq name f.name) _ (place_from (gate + item_room f.name f.text) files name)
    ∙ ap (cond (bytes_eq name f.name) (Some (length f.text))) (size_in (gate + item_room f.name f.text) files name)

pub rows_are : (files : List HeldFile) (names : Names) → IsStrictlySortedBy (slice_cmp nat_cmp) (keys_of (rows_of names))
    → ((name : List ℕ) → place_of names.held name ≡ place_in files name) → AreRows files (rows_of names)
rows_are files names rising places = record {
  rising = rising;
  same = λ name. size_at name names.held.entries ∙ ap (option_map (λ (p : Place). p.size)) (places name) ∙ size_in 8 files name;
}

-- ---- one of them

further : {X : Type 0} (es : List X) (n : ℕ) → drop (suc n) es ≡ drop 1 (drop n es)
further [] zero = refl
further [] (suc n) = refl
further (e ∷ es) zero = refl
further (e ∷ es) (suc n) = further es n

one_more : (n : ℕ) → suc n ≡ n + 1
one_more n = omega arith

-- What an iterator has left after a step.
pub left_after : {A X : Type 0} (f : A → X) (es rest new : List X) (n : ℕ) (r : Option A) → rest ≡ drop n es
    → MatchOption r ((rest ≡ []) × (new ≡ [])) (λ x. rest ≡ f x ∷ new) → new ≡ drop (n + 1) es
left_after f es rest new n None is step = step.1 ∙ ap (drop 1) (sym step.0) ∙ ap (drop 1) is ∙ sym (further es n) ∙ ap (λ (k : ℕ). drop k es) (one_more n)
left_after f es rest new n (Some x) is step = ap (drop 1) (sym step) ∙ ap (drop 1) is ∙ sym (further es n) ∙ ap (λ (k : ℕ). drop k es) (one_more n)

-- Where places are left there is an entry.
pub some_left : {X : Type 0} (es : List X) (n : ℕ) → n < length es → drop n es ≡ [] → ⊥
some_left [] n within none = absurd (omega (arith, within))
some_left (e ∷ es) zero within none = cc
some_left (e ∷ es) (suc n) within none = some_left es n (omega (arith, within)) none

first_of : {X : Type 0} (es : List X) (n : ℕ) (x : X) (rest : List X) → drop n es ≡ x ∷ rest → slice_get es n ≡ Some x
first_of [] zero x rest is = cc
first_of [] (suc n) x rest is = cc
first_of (e ∷ es) zero x rest is = cc
first_of (e ∷ es) (suc n) x rest is = first_of es n x rest is

row_at : (es : List Entry) (n : ℕ) (e : Entry) → slice_get es n ≡ Some e → slice_get (map row es) n ≡ Some (row e)
row_at [] n e is = cc
row_at (d ∷ es) zero e is = ap (option_map row) is
row_at (d ∷ es) (suc n) e is = row_at es n e is

all_at : (P : Entry → Type 0) (es : List Entry) (n : ℕ) (e : Entry) → All P es → slice_get es n ≡ Some e → P e
all_at P [] n e all is = cc
all_at P (d ∷ es) zero e all is = subst P (same d e is) (all 0 d (omega arith))
  where
    same : (d e : Entry) → Some d ≡ Some e → d ≡ e
    same d e is = cc
all_at P (d ∷ es) (suc n) e all is = all_at P es n e (λ k c less. all (suc k) c (omega (arith, less))) is

pub entry_at : (names : Names) (n : ℕ) (key : Vec ℕ Global) (place : Place) (rest : List Entry) → drop n names.held.entries ≡ (key, place) ∷ rest
    → All (λ e. place_of names.held e.0.items ≡ Some e.1) names.held.entries → IsEntryAt names n key.items place
entry_at names n key place rest is found =
    let here = first_of names.held.entries n (key, place) rest is in
    record {
      row = row_at names.held.entries n (key, place) here;
      found = all_at (λ e. place_of names.held e.0.items ≡ Some e.1) names.held.entries n (key, place) found here;
    }
