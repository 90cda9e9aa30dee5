-- The order of keys, and a map of keys read by what a key says.
use Rattle.std.proofs.Common.{◌≡◌, ℕ, Bool, true, false, inl, inr, List, [], ◌∷◌, Ordering, refl, sym, ap, subst, ◌∙◌}
use Rattle.std.specs.Prelude.{◌&&◌, ◌==◌, Option, Some, None, is_some, cond, bytes_eq, nat_eq}
use Rattle.std.specs.Ordering.{is_eq, nat_cmp, ordering_then, eq_by_cmp}
use Rattle.std.specs.Cmp.{IsTotalOrder, IsEquivalence, on_total, then_total, nat_cmp_total, both_tied, eq_by_cmp_equiv, unsigned_ties}
use Rattle.std.specs.Cmp.Lexicographic.{slice_cmp, bytes_decides, on_texts}
use Rattle.std.specs.Map.{lookup, IsKeyTest, AreApart, KeepsOthers}
use Rattle.std.specs.BTreeMap.{BTreeMap, get_by, is_at, UpdatesBy, Updates}
use Rattle.std.proofs.lemmas.Bool.{false≢true, cases_Bool, cond-true, cond-false}
use Rattle.std.proofs.lemmas.Map.Text.{is_eq-slice_cmp}
use Rattle.std.proofs.lemmas.Map.Views.{exact_unsigned_eq}
use Rattle.pm_kpi.specs.Key.{KeyContent, key_content, key_eq, key_cmp}
use Rattle.pm_kpi.specs.declared.key.Key.{Key}

-- ---- the order

abbrev job_of : KeyContent → List ℕ
job_of k = k.job

abbrev begin_of : KeyContent → ℕ
begin_of k = k.begin

abbrev end_of : KeyContent → ℕ
end_of k = k.end

abbrev object_of : KeyContent → List ℕ
object_of k = k.object

abbrev ratio_of : KeyContent → ℕ
ratio_of k = k.ratio

pub key_cmp_total : IsTotalOrder key_cmp
key_cmp_total =
    then_total (on_texts job_of) (then_total (on_total begin_of nat_cmp_total) (then_total (on_total end_of nat_cmp_total)
    (then_total (on_texts object_of) (on_total ratio_of nat_cmp_total))))

-- Two keys are the same where neither is before the other.
pub key_eq-key_cmp : (a b : KeyContent) → key_eq a b ≡ is_eq (key_cmp a b)
key_eq-key_cmp a b =
    both_tied _ _ _ _ (sym (is_eq-slice_cmp a.job b.job))
    (both_tied _ _ _ _ (unsigned_ties a.begin b.begin)
    (both_tied _ _ _ _ (unsigned_ties a.end b.end)
    (both_tied _ _ _ _ (sym (is_eq-slice_cmp a.object b.object)) (unsigned_ties a.ratio b.ratio))))

both_first : (s t : Bool) → s && t ≡ true → s ≡ true
both_first true t h = refl
both_first false t h = h

both_second : (s t : Bool) → s && t ≡ true → t ≡ true
both_second true t h = h
both_second false t h = absurd (false≢true h)

pub key_eq-same : (a b : KeyContent) → key_eq a b ≡ true → a ≡ b
key_eq-same a b h =
    let h1 = both_second (bytes_eq a.job b.job) _ h in
    let h2 = both_second (a.begin == b.begin) _ h1 in
    let h3 = both_second (a.end == b.end) _ h2 in
    let job : a.job ≡ b.job = (bytes_decides a.job b.job).0 (both_first (bytes_eq a.job b.job) _ h) in
    let begin : a.begin ≡ b.begin = exact_unsigned_eq a.begin b.begin (both_first (a.begin == b.begin) _ h1) in
    let end : a.end ≡ b.end = exact_unsigned_eq a.end b.end (both_first (a.end == b.end) _ h2) in
    let object : a.object ≡ b.object = (bytes_decides a.object b.object).0 (both_first (bytes_eq a.object b.object) _ h3) in
    let ratio : a.ratio ≡ b.ratio = exact_unsigned_eq a.ratio b.ratio (both_second (bytes_eq a.object b.object) _ h3) in
    λ i. record { job = job i; begin = begin i; end = end i; object = object i; ratio = ratio i }

pub key_equiv : IsEquivalence key_eq
key_equiv = subst IsEquivalence (λ i a b. sym (key_eq-key_cmp a b) i) (eq_by_cmp_equiv key_cmp_total)

-- ---- a map

-- How a key of the map compares to what is looked for.
abbrev pub query : KeyContent → Key → Ordering
query q k = key_cmp q (key_content k)

abbrev pub order : Key → Key → Ordering
order a b = key_cmp (key_content a) (key_content b)

apart : (a q k : KeyContent) → key_eq a q ≡ false → is_eq (key_cmp a k) ≡ true → is_eq (key_cmp q k) ≡ false
apart a q k differs same =
    let at : key_eq a k ≡ true = key_eq-key_cmp a k ∙ same in
    sym (key_eq-key_cmp q k) ∙ key_equiv.symm q k ∙ sym (key_equiv.congr a k q at) ∙ differs

other_entries : {K X : Type 0} (eq : K → K → Bool) (test : K → Bool) (old new : List (K × X)) → KeepsOthers eq test old new
    → (other : K → Bool) → IsKeyTest eq other → AreApart test other → lookup other new ≡ lookup other old
unfolding KeepsOthers
other_entries eq test old new h = h

-- After a change at one key, the map has at the others what it had.
pub get_updated : {X : Type 0} (k : Key) (m n : BTreeMap Key X) (w : Option X) → UpdatesBy order (order k) m n w
    → (q : KeyContent) → get_by (query q) n ≡ cond (key_eq (key_content k) q) w (get_by (query q) m)
get_updated k m n w h q = elim (cases_Bool (key_eq (key_content k) q)) [
  | inl same ↦
      subst (λ (l : KeyContent). get_by (query l) n ≡ w) (key_eq-same (key_content k) q same) h.1
      ∙ sym (cond-true (key_eq (key_content k) q) w (get_by (query q) m) same)
  | inr differs ↦
      other_entries _ _ _ _ h.3 (is_at (query q)) (λ x y. (eq_by_cmp_equiv key_cmp_total).congr q (key_content x) (key_content y))
      (λ x. apart (key_content k) q (key_content x) differs)
      ∙ sym (cond-false (key_eq (key_content k) q) w (get_by (query q) m) differs)
]
