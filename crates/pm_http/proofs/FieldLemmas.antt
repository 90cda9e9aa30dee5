-- The values of the fields of one name, field by field.
use Rattle.std.proofs.Common.{◌≡◌, ℕ, ◌+◌, ◌<◌, ◌||◌, Bool, true, cond, List, [], ◌∷◌, ◌++◌, length, get_or, take, map, refl, sym, ap, ◌∙◌, subst}
use Rattle.std.specs.List.{list_any, filter}
use Rattle.std.proofs.lemmas.List.{map-append, take_more}
use Rattle.std.proofs.lemmas.List.Elements.{filter-append}
use Rattle.std.proofs.lemmas.List.Folds.{list_any_at}
use Rattle.httparse.specs.Spans.{IsWithin, span_bytes}
use Rattle.httparse.specs.declared.spans.Span.{Span}
use Rattle.pm_http.specs.Head.{is_named, values_of}
use Rattle.pm_http.specs.Fields.{IsValues}
use Rattle.pm_http.specs.declared.fields.Values.{Values}
use Rattle.pm_http.specs.declared.fields.Values.TheVariants.{None, One, More}

abbrev Named : Type 0
Named = List ℕ × List ℕ

values_of-append : (name : List ℕ) (xs ys : List Named) → values_of name (xs ++ ys) ≡ values_of name xs ++ values_of name ys
values_of-append name xs ys =
    ap (map (λ (f : Named). f.1)) (filter-append (is_named name) xs ys)
    ∙ map-append (λ (f : Named). f.1) (filter (is_named name) xs) (filter (is_named name) ys)

-- One field more.
pub values_of-more : {A : Type 0} (f : A → Named) (name : List ℕ) (fields : List A) (i : ℕ) (d : A) → i < length fields
    → values_of name (map f (take (i + 1) fields)) ≡ values_of name (map f (take i fields)) ++ values_of name (f (get_or fields i d) ∷ [])
values_of-more f name fields i d within =
    ap (λ (l : List Named). values_of name l) (ap (map f) (take_more fields i d within) ∙ map-append f (take i fields) (get_or fields i d ∷ []))
    ∙ values_of-append name (map f (take i fields)) (f (get_or fields i d) ∷ [])

-- A field of the name gives its value.
pub values_of-one : (name : List ℕ) (field : Named) → is_named name field ≡ true → values_of name (field ∷ []) ≡ field.1 ∷ []
values_of-one name field named =
    ap (λ (b : Bool). map (λ (f : Named). f.1) (cond b (field ∷ []) [])) named

-- After no value comes the one, after one the second, after more one more.
pub IsValues-none : (limit : ℕ) (buf : List ℕ) (values : List (List ℕ)) (value : Span) → IsValues limit buf values None → IsWithin limit value
    → IsValues limit buf (values ++ span_bytes buf value ∷ []) (One value)
IsValues-none limit buf values value is within = (within, ap (λ (l : List (List ℕ)). l ++ span_bytes buf value ∷ []) is)

pub IsValues-one : (limit : ℕ) (buf : List ℕ) (values : List (List ℕ)) (first value : Span) → IsValues limit buf values (One first)
    → IsValues limit buf (values ++ span_bytes buf value ∷ []) (More first)
IsValues-one limit buf values first value is =
    (is.0, (span_bytes buf value, [], ap (λ (l : List (List ℕ)). l ++ span_bytes buf value ∷ []) is.1))

pub IsValues-more : (limit : ℕ) (buf : List ℕ) (values : List (List ℕ)) (first value : Span) → IsValues limit buf values (More first)
    → IsValues limit buf (values ++ span_bytes buf value ∷ []) (More first)
IsValues-more limit buf values first value is =
    (is.0, (is.1.0, is.1.1 ++ span_bytes buf value ∷ [], ap (λ (l : List (List ℕ)). l ++ span_bytes buf value ∷ []) is.1.2))

-- An element that passes settles it.
pub list_any-map_at : {A B : Type 0} (p : B → Bool) (f : A → B) (xs : List A) (i : ℕ) (d : A) → i < length xs
    → p (f (get_or xs i d)) ≡ true → list_any p (map f xs) ≡ true
list_any-map_at p f xs i d within passes = whole p f xs ∙ list_any_at (λ x. p (f x)) xs i d within passes
  where
    whole : {A B : Type 0} (p : B → Bool) (f : A → B) (ys : List A) → list_any p (map f ys) ≡ list_any (λ x. p (f x)) ys
    whole p f [] = refl
    whole p f (y ∷ ys) = ap (λ (b : Bool). p (f y) || b) (whole p f ys)

pub values_of-step : {A : Type 0} (f : A → Named) (name : List ℕ) (fields : List A) (i : ℕ) (d : A) (limit : ℕ) (buf : List ℕ) (found : Values) → i < length fields
    → IsValues limit buf (values_of name (map f (take i fields)) ++ values_of name (f (get_or fields i d) ∷ [])) found
    → IsValues limit buf (values_of name (map f (take (i + 1) fields))) found
values_of-step f name fields i d limit buf found within is =
    subst (λ (l : List (List ℕ)). IsValues limit buf l found) (sym (values_of-more f name fields i d within)) is
