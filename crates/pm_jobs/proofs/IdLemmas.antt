-- Ids in byte order: one more goes to its place, and one less is all that have this id.
use Rattle.std.proofs.Common.{◌≡◌, ℕ, zero, suc, ◌+◌, ◌<◌, ◌≤◌, true, false, List, [], ◌∷◌, length, get_or, refl, ap, ◌∙◌, arith, add-one}
use Rattle.std.specs.List.{insert, remove, list_any}
use Rattle.std.specs.Str.{bytes_eq}
use Rattle.std.specs.declared.cmp.Ordering.{Ordering}
use Rattle.std.specs.declared.cmp.Ordering.TheVariants.{Less, Equal, Greater}
use Rattle.std.specs.Ordering.{nat_cmp, is_eq, match_ordering}
use Rattle.std.specs.Cmp.Lexicographic.{slice_cmp}
use Rattle.std.proofs.lemmas.Map.Text.{is_eq-slice_cmp}
use Rattle.std.proofs.lemmas.Slice.Eq.{bytes_eq-Decides}
use Rattle.pm_history.specs.Standing.{with_id, without_id}
use Rattle.pm_jobs.specs.State.{AreApart}
use Rattle.pm_jobs.specs.Plan.{place_of}
use Rattle.pm_jobs.proofs.ItemLemmas.{neither, sym_eq}

pub own_id : (i : List ℕ) → bytes_eq i i ≡ true
own_id i = (bytes_eq-Decides i i).1 refl

one_more : (id i : List ℕ) (is : List (List ℕ)) (o : Ordering) → is_eq o ≡ false → with_id id is ≡ insert is (place_of id is) id
    → match_ordering o (id ∷ (i ∷ is)) (i ∷ is) (i ∷ with_id id is) ≡ insert (i ∷ is) (match_ordering o 0 0 (place_of id is + 1)) id
one_more id i is Less e rest = refl
one_more id i is Equal e rest = cc
one_more id i is Greater e rest = rw add-one (ap (λ l. i ∷ l) rest)

pub with-place : (id : List ℕ) (is : List (List ℕ)) → list_any (bytes_eq id) is ≡ false → with_id id is ≡ insert is (place_of id is) id
with-place id [] fresh = refl
with-place id (i ∷ is) fresh =
    let both = neither (bytes_eq id i) (list_any (bytes_eq id) is) fresh in
    one_more id i is (slice_cmp nat_cmp id i) (is_eq-slice_cmp id i ∙ both.0) (with-place id is both.1)

pub place-within : (id : List ℕ) (is : List (List ℕ)) → place_of id is ≤ length is
place-within id [] = omega arith
place-within id (i ∷ is) = by (slice_cmp nat_cmp id i) (place-within id is)
  where
    by : (o : Ordering) → place_of id is ≤ length is → match_ordering o 0 0 (place_of id is + 1) ≤ suc (length is)
    by Less le = omega arith
    by Equal le = omega arith
    by Greater le = omega (arith, le)

pub any_at : (j : List ℕ) (is : List (List ℕ)) (place : ℕ) → place < length is → list_any (bytes_eq j) is ≡ false → bytes_eq j (get_or is place []) ≡ false
any_at j [] place lt none = absurd (omega arith)
any_at j (k ∷ ks) zero lt none = (neither (bytes_eq j k) _ none).0
any_at j (k ∷ ks) (suc place) lt none = any_at j ks place (omega (arith, lt)) (neither (bytes_eq j k) _ none).1

without-none : (id : List ℕ) (is : List (List ℕ)) → list_any (bytes_eq id) is ≡ false → without_id id is ≡ is
without-none id [] none = refl
without-none id (i ∷ is) none =
    let both = neither (bytes_eq id i) (list_any (bytes_eq id) is) none in
    rw (sym_eq i id ∙ both.0) (ap (λ l. i ∷ l) (without-none id is both.1))

pub without-place : (is : List (List ℕ)) (place : ℕ) → AreApart is → place < length is → without_id (get_or is place []) is ≡ remove is place
without-place [] place all lt = absurd (omega arith)
without-place (i ∷ is) zero all lt = rw (own_id i) (without-none i is all.0)
without-place (i ∷ is) (suc place) all lt =
    rw (any_at i is place (omega (arith, lt)) all.0) (ap (λ l. i ∷ l) (without-place is place all.1 (omega (arith, lt))))
