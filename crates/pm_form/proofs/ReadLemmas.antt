-- Loops over keys and items, against what a form reads.
use Rattle.std.proofs.Common.{◌≡◌, ℕ, ◌<◌, ◌≤◌, ◌+◌, List, [], ◌∷◌, ◌++◌, length, map, drop, get_or, string_bytes, Option, Some, None, Bool, true, false, not, is_some, refl, sym, ap, append_assoc, append-nil, drop-cons, add-one, bytes_eq, MatchOption, Bor, Ok, Err, cond, IsTrue, ◌↔◌}
use Rattle.std.proofs.lemmas.Str.{is_utf8-from_IsUtf8, IsUtf8-from_is_utf8}
use Rattle.std.specs.Str.{IsUtf8, is_utf8}
use Rattle.serde_json.specs.Read.{read}
use Rattle.std.proofs.Math.ListN.{drop_of_length-le}
use Rattle.std.specs.Cmp.Lexicographic.{pointwise}
use Rattle.std.specs.Map.{keys_of as entry_keys, values_of as entry_values}
use Rattle.std.specs.declared.alloc.Global.{Global}
use Rattle.std.specs.Prelude.{String}
use Rattle.serde_json.specs.Data.{Data, null, boolean, number, string, array, object}
use Rattle.serde_json.specs.Find.{as_array, as_object}
use Rattle.serde_json.specs.View.{view, items_of, members_view}
use Rattle.serde_json.specs.declared.value.Value.{Value}
use Rattle.pm_form.specs.declared.refusal.Refusal.{Refusal}
use Rattle.pm_form.specs.declared.refusal.Refusal.TheVariants.{NotJson}
use Rattle.pm_form.specs.Form.{Read, then_read, tree_read, json_of}
use Rattle.pm_form.specs.Lists.{each_reads, list_data, items_at}
use Rattle.pm_form.specs.Objects.{keys_of, values_of, values_at}

-- ---- items

pub list_data-items_of : (ds : List Data) → list_data (items_of ds) ≡ ds
list_data-items_of [] = refl
list_data-items_of (d ∷ ds) = ap (λ (t : List Data). d ∷ t) (list_data-items_of ds)

-- what was read of the items before, and then of the rest
abbrev pub joined : {A : Type 0} → List A → Read (List A) → Read (List A)
joined xs rest = then_read rest (λ ys. Ok (xs ++ ys))

pub joined_none : {A : Type 0} (r : Read (List A)) → r ≡ joined [] r
joined_none (Ok xs) = refl
joined_none (Err e) = refl

joined_more : {A : Type 0} (xs : List A) (a : A) (r : Read (List A)) → joined xs (then_read r (λ ys. Ok (a ∷ ys))) ≡ joined (xs ++ a ∷ []) r
joined_more xs a (Ok ys) = ap Ok (sym (append_assoc xs (a ∷ []) ys))
joined_more xs a (Err e) = refl

-- one item is read
pub each_step : {A : Type 0} (reads : Data → Read A) (xs : List Value) (i : ℕ) (d : Value) (done : List A) (a : A) → i < length xs
    → reads (view (get_or xs i d)) ≡ Ok a
    → joined done (each_reads reads (map view (drop i xs))) ≡ joined (done ++ a ∷ []) (each_reads reads (map view (drop (i + 1) xs)))
each_step reads xs i d done a lt is = rw (drop-cons xs i d lt, add-one i, is) (joined_more done a _)

-- one is refused
pub each_stop : {A : Type 0} (reads : Data → Read A) (xs : List Value) (i : ℕ) (d : Value) (done : List A) (e : Refusal) → i < length xs
    → reads (view (get_or xs i d)) ≡ Err e
    → joined done (each_reads reads (map view (drop i xs))) ≡ Err e
each_stop reads xs i d done e lt is = rw (drop-cons xs i d lt, is) refl

pub each_end : {A : Type 0} (reads : Data → Read A) (xs : List Value) (i : ℕ) (done : List A) → length xs ≤ i
    → joined done (each_reads reads (map view (drop i xs))) ≡ Ok done
each_end reads xs i done le = rw (drop_of_length-le xs le, append-nil done) refl

pub items_found : (d : Data) (vs : List Value) → Some (items_of (map view vs)) ≡ as_array d → items_at d ≡ Ok (map view vs)
items_found null vs is = cc
items_found (boolean b) vs is = cc
items_found (number n) vs is = cc
items_found (string s) vs is = cc
items_found (array ds) vs is = let e : items_of (map view vs) ≡ ds = cc is in rw (← e, list_data-items_of (map view vs)) refl
items_found (object ms) vs is = cc

pub values_view : (es : List (String Global × Value)) → values_of (members_view es) ≡ map view (entry_values es)
values_view [] = refl
values_view (e ∷ es) = ap (λ (t : List Data). view e.1 ∷ t) (values_view es)

pub values_found : (d : Data) (es : List (String Global × Value)) (keys : List (List ℕ)) → Some (members_view es) ≡ as_object d
    → true ≡ pointwise bytes_eq (keys_of (members_view es)) keys → values_at keys d ≡ Ok (map view (entry_values es))
values_found null es keys is same = cc
values_found (boolean b) es keys is same = cc
values_found (number n) es keys is same = cc
values_found (string s) es keys is same = cc
values_found (array ds) es keys is same = cc
values_found (object ms) es keys is same = let e : members_view es ≡ ms = cc is in rw (← e, ← same) (ap Ok (values_view es))

-- ---- keys

pub keys_view : (es : List (String Global × Value)) → keys_of (members_view es) ≡ map string_bytes (entry_keys es)
keys_view [] = refl
keys_view (e ∷ es) = ap (λ (t : List (List ℕ)). string_bytes e.0 ∷ t) (keys_view es)

-- ---- keys, one after another

pub keys_stop : (ks : List (Bor (List ℕ))) (i : ℕ) (d : Bor (List ℕ)) (names rest : List (String Global)) (n : String Global) (x : List ℕ)
    → i < length ks → names ≡ n ∷ rest → x ≡ string_bytes n → false ≡ bytes_eq x (get_or ks i d).now
    → pointwise bytes_eq (map string_bytes names) (map (λ k. k.now) (drop i ks)) ≡ false
keys_stop ks i d names rest n x lt is text differ =
    rw (is, drop-cons ks i d lt) (let e : bytes_eq (string_bytes n) (get_or ks i d).now ≡ false = rw (← text) (sym differ) in rw e refl)

pub keys_short : (ks : List (Bor (List ℕ))) (i : ℕ) (names : List (String Global)) → i < length ks → names ≡ []
    → pointwise bytes_eq (map string_bytes names) (map (λ k. k.now) (drop i ks)) ≡ false
keys_short ks i names lt is = rw (is, drop-cons ks i (record { ref_ptr = (0, 0); now = [] }) lt) refl

drop_past : (ks : List (Bor (List ℕ))) (i : ℕ) → length ks ≤ i → drop i ks ≡ []
drop_past ks i le = drop_of_length-le ks le

pub keys_end : (ks : List (Bor (List ℕ))) (i : ℕ) (names : List (String Global)) (r : Option (Bor (String Global))) (after : List (String Global)) (b : Bool)
    → length ks ≤ i → MatchOption r ((names ≡ []) × (after ≡ [])) (λ x. names ≡ x.now ∷ after) → is_some r ≡ not b
    → pointwise bytes_eq (map string_bytes names) (map (λ k. k.now) (drop i ks)) ≡ b
keys_end ks i names None after b le is e = rw (drop_past ks i le, is.0) (by b e)
  where
    by : (b : Bool) → false ≡ not b → true ≡ b
    by true e = refl
    by false e = cc
keys_end ks i names (Some x) after b le is e = rw (drop_past ks i le, is) (by b e)
  where
    by : (b : Bool) → true ≡ not b → false ≡ b
    by true e = cc
    by false e = refl

-- ---- texts

pub json_of_read : (bytes : List ℕ) (d : Data) → IsUtf8 bytes → read bytes ≡ Some d → json_of bytes ≡ Ok d
json_of_read bytes d utf8 is = rw (is_utf8-from_IsUtf8 bytes utf8, is) refl

pub json_of_none : (bytes : List ℕ) → (IsUtf8 bytes → read bytes ≡ None) → json_of bytes ≡ Err NotJson
json_of_none bytes none = by (is_utf8 bytes) refl
  where
    by : (b : Bool) → is_utf8 bytes ≡ b → cond b (tree_read (read bytes)) (Err NotJson) ≡ Err NotJson
    by true e = rw (none (IsUtf8-from_is_utf8 bytes e)) refl
    by false e = refl

pub not_memory : {A : Type 0} (b : Bool) → (IsTrue b ↔ A) → b ≡ false → ¬ A
not_memory true iff e = absurd (not_true e)
  where
    not_true : true ≡ false → ⊥
    not_true e = cc
not_memory false iff e = λ a. not_false (iff.1 a)
  where
    not_false : IsTrue false → ⊥
    not_false e = cc
