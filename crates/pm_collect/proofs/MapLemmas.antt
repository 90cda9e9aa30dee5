-- A map whose keys are bytes, read by any bytes.
use Rattle.std.proofs.Common.{◌≡◌, ℕ, Bool, true, false, inl, inr, List, [], ◌∷◌, Ordering, refl, sym, ap, subst, ◌∙◌}
use Rattle.std.specs.Prelude.{Vec, Option, Some, is_some, cond, bytes_eq}
use Rattle.std.specs.declared.alloc.Global.{Global}
use Rattle.std.specs.List.{All, AllZip}
use Rattle.std.specs.Ordering.{is_eq, is_gt, nat_cmp}
use Rattle.std.specs.Cmp.{eq_by_cmp_equiv}
use Rattle.std.specs.Cmp.Lexicographic.{slice_cmp, bytes_decides}
use Rattle.std.specs.Map.{lookup, keys_of, IsKeyTest, AreApart, KeepsOthers}
use Rattle.std.specs.BTreeMap.{BTreeMap, get_by, is_at, keys, UpdatesBy}
use Rattle.std.specs.BTreeMap.Range.{IsLeBy}
use Rattle.std.proofs.lemmas.Bool.{false≢true, cases_Bool, cond-true, cond-false}
use Rattle.std.proofs.lemmas.Cmp.{nat_list_cmp_total, nat_list_eq_equiv}
use Rattle.std.proofs.lemmas.List.Elements.{All-head, All-tail}
use Rattle.std.proofs.lemmas.Map.Text.{is_eq-slice_cmp}
use Rattle.pm_collect.specs.Maps.{has}

-- The order of the keys.
abbrev pub key_cmp : Vec ℕ Global → Vec ℕ Global → Ordering
key_cmp x y = slice_cmp nat_cmp x.items y.items

-- How some bytes compare to a key.
abbrev pub query : List ℕ → Vec ℕ Global → Ordering
query bytes key = slice_cmp nat_cmp bytes key.items

apart : (bs cs ks : List ℕ) → bytes_eq bs cs ≡ false → is_eq (slice_cmp nat_cmp bs ks) ≡ true → is_eq (slice_cmp nat_cmp cs ks) ≡ false
apart bs cs ks n y =
    is_eq-slice_cmp cs ks ∙ nat_list_eq_equiv.symm cs ks ∙ sym (nat_list_eq_equiv.congr bs ks cs (sym (is_eq-slice_cmp bs ks) ∙ y)) ∙ n

other_entries : {K X : Type 0} (eq : K → K → Bool) (test : K → Bool) (old new : List (K × X)) → KeepsOthers eq test old new
    → (other : K → Bool) → IsKeyTest eq other → AreApart test other → lookup other new ≡ lookup other old
unfolding KeepsOthers
other_entries eq test old new h = h

-- After a change at the one bytes, the map has at the others what it had.
pub get_updated : {X : Type 0} (bs : List ℕ) (m n : BTreeMap (Vec ℕ Global) X) (w : Option X) → UpdatesBy key_cmp (query bs) m n w
    → (cs : List ℕ) → get_by (query cs) n ≡ cond (bytes_eq bs cs) w (get_by (query cs) m)
get_updated bs m n w h cs = elim (cases_Bool (bytes_eq bs cs)) [
  | inl same ↦
      subst (λ (l : List ℕ). get_by (query l) n ≡ w) ((bytes_decides bs cs).0 same) h.1
      ∙ sym (cond-true (bytes_eq bs cs) w (get_by (query cs) m) same)
  | inr differs ↦
      other_entries _ _ _ _ h.3 (is_at (query cs)) (λ x y. (eq_by_cmp_equiv nat_list_cmp_total).congr cs x.items y.items)
      (λ k. apart bs cs k.items differs)
      ∙ sym (cond-false (bytes_eq bs cs) w (get_by (query cs) m) differs)
]

some_of : {X : Type 0} (t : Bool) (w x : Option X) → is_some (cond t w x) ≡ cond t (is_some w) (is_some x)
some_of true w x = refl
some_of false w x = refl

pub has_updated : {X : Type 0} (bs : List ℕ) (m n : BTreeMap (Vec ℕ Global) X) (w : Option X) → UpdatesBy key_cmp (query bs) m n w
    → (cs : List ℕ) → has n cs ≡ cond (bytes_eq bs cs) (is_some w) (has m cs)
has_updated bs m n w h cs = ap is_some (get_updated bs m n w h cs) ∙ some_of (bytes_eq bs cs) w (get_by (query cs) m)

-- The bytes that a map has are not below a key that no key is below.
found_above : {X : Type 0} (least : Vec ℕ Global) (es : List (Vec ℕ Global × X)) (name : List ℕ) → All (IsLeBy key_cmp least) (keys_of es)
    → is_some (lookup (is_at (query name)) es) ≡ true → is_gt (slice_cmp nat_cmp least.items name) ≡ false
found_above least [] name all found = absurd (false≢true found)
found_above least (e ∷ es) name all found = elim (cases_Bool (is_eq (query name e.0))) [
  | inl here ↦
      subst (λ (l : List ℕ). is_gt (slice_cmp nat_cmp least.items l) ≡ false)
      (sym ((bytes_decides name e.0.items).0 (sym (is_eq-slice_cmp name e.0.items) ∙ here)))
      (All-head (IsLeBy key_cmp least) e.0 (keys_of es) all)
  | inr after ↦
      found_above least es name (All-tail (IsLeBy key_cmp least) e.0 (keys_of es) all)
      (sym (ap is_some (cond-false (is_eq (query name e.0)) (Some e.1) (lookup (is_at (query name)) es) after)) ∙ found)
]

pub first_in : {X : Type 0} (m : BTreeMap (Vec ℕ Global) X) (least : Vec ℕ Global) → All (IsLeBy key_cmp least) (keys m)
    → (name : List ℕ) → has m name ≡ true → is_gt (slice_cmp nat_cmp least.items name) ≡ false
first_in m least all name found = found_above least m.entries name all found

some_at : {X : Type 0} (t : Bool) (a b : X) (x y : Option X) → is_some x ≡ is_some y → is_some (cond t (Some a) x) ≡ is_some (cond t (Some b) y)
some_at true a b x y same = refl
some_at false a b x y same = same

-- A copy with the same bytes in its keys has the same.
pub found_in_copy : {X : Type 0} (P : Vec ℕ Global × X → Vec ℕ Global × X → Type 0) → ((p q : Vec ℕ Global × X) → P p q → q.0.items ≡ p.0.items)
    → (es fs : List (Vec ℕ Global × X)) → AllZip P es fs → (name : List ℕ)
    → is_some (lookup (is_at (query name)) fs) ≡ is_some (lookup (is_at (query name)) es)
found_in_copy P same [] [] all name = refl
found_in_copy P same [] (f ∷ fs) all name = absurd all
found_in_copy P same (e ∷ es) [] all name = absurd all
found_in_copy P same (e ∷ es) (f ∷ fs) all name =
    ap (λ (l : List ℕ). is_some (cond (is_eq (slice_cmp nat_cmp name l)) (Some f.1) (lookup (is_at (query name)) fs))) (same e f all.0)
    ∙ some_at (is_eq (query name e.0)) f.1 e.1 (lookup (is_at (query name)) fs) (lookup (is_at (query name)) es) (found_in_copy P same es fs all.1 name)
