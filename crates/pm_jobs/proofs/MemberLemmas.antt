-- The members of an object, as the definitions walk them.
use Rattle.std.proofs.Common.{◌≡◌, ℕ, ◌&&◌, true, false, List, [], ◌∷◌, ap, refl, string_bytes, bytes_eq, String, Bor, map, drop, get_or, length, ◌<◌, ◌+◌, drop-cons, add-one}
use Rattle.std.specs.declared.alloc.Global.{Global}
use Rattle.std.specs.List.{list_any, list_all}
use Rattle.std.specs.Map.{keys_of}
use Rattle.serde_json.specs.View.{members_view}
use Rattle.serde_json.specs.declared.value.Value.{Value}
use Rattle.pm_asked.specs.BodyReading.{has_only}

pub has_only-keys : (known : List (List ℕ)) (es : List (String Global × Value))
    → has_only known (members_view es) ≡ list_all (λ (k : String Global). list_any (bytes_eq (string_bytes k)) known) (keys_of es)
has_only-keys known [] = refl
has_only-keys known (e ∷ es) = ap (λ b. list_any (bytes_eq (string_bytes e.0)) known && b) (has_only-keys known es)

-- ---- one of the keys known

pub among_here : (name : List ℕ) (ks : List (Bor (List ℕ))) (i : ℕ) (d : Bor (List ℕ)) → i < length ks → true ≡ bytes_eq name (get_or ks i d).now
    → list_any (bytes_eq name) (map (λ k. k.now) (drop i ks)) ≡ true
among_here name ks i d lt is = rw (drop-cons ks i d lt, ← is) refl

pub among_later : (name : List ℕ) (ks : List (Bor (List ℕ))) (i : ℕ) (d : Bor (List ℕ)) → i < length ks → false ≡ bytes_eq name (get_or ks i d).now
    → list_any (bytes_eq name) (map (λ k. k.now) (drop i ks)) ≡ list_any (bytes_eq name) (map (λ k. k.now) (drop (i + 1) ks))
among_later name ks i d lt is = rw (drop-cons ks i d lt, ← is, add-one i) refl
