-- Marks of objects, one name and one subtree after the other.
use Rattle.std.proofs.Common.{◌≡◌, ℕ, zero, suc, ◌+◌, ◌<◌, ◌||◌, ◌==◌, Bool, true, false, cond, List, [], ◌∷◌, length, map, get_or, refl, sym, ◌∙◌, arith, add-zero, zero-add, eq-eqb}
use Rattle.std.specs.List.{list_any, filter, enumerate_from}
use Rattle.std.specs.Str.{bytes_eq}
use Rattle.std.proofs.lemmas.Bool.{false_from_ne_true}
use Rattle.std.proofs.lemmas.Bool.Decides.{nat_tests, same_from_decides, Decides-eqb}
use Rattle.std.proofs.lemmas.Slice.Eq.{bytes_eq-Decides}
use Rattle.pm_dn.specs.Tree.{StandsAt, numbers_where}
use Rattle.pm_jobs.specs.Marks.{AreMarks}

pub or_assoc : (a b c : Bool) → ((a || b) || c) ≡ (a || (b || c))
or_assoc true b c = refl
or_assoc false b c = refl

pub or_none : (a : Bool) → (a || false) ≡ a
or_none true = refl
or_none false = refl

-- The same marks, by a test that says the same of each name.
pub same_marks : (tree : List (List ℕ)) (p q : List ℕ → Bool) (marks : List Bool) → ((k : ℕ) → k < length tree → p (get_or tree k []) ≡ q (get_or tree k []))
    → AreMarks tree p marks → AreMarks tree q marks
same_marks tree p q marks same are = record { long = are.long; each = λ k lt. are.each k lt ∙ same k lt }

-- More marks, by the numbers of what passes a second test.
pub more_marks : (tree : List (List ℕ)) (p q : List ℕ → Bool) (old new : List Bool) (numbers : List ℕ) → length new ≡ length old
    → ((k : ℕ) → k < length old → get_or new k false ≡ (get_or old k false || list_any (λ n. n == k) numbers))
    → ((k : ℕ) → k < length tree → list_any (λ n. n == k) numbers ≡ q (get_or tree k []))
    → AreMarks tree p old → AreMarks tree (λ n. p n || q n) new
more_marks tree p q old new numbers long each pass are = record {
  long = omega (arith, long, are.long);
  each = λ k lt.
      let within : k < length old = omega (arith, lt, are.long) in
      each k within ∙ rw (are.each k lt, pass k lt) refl;
}

-- ---- the numbers of what passes

same_number : (n : ℕ) → (n == n) ≡ true
same_number n = eq-eqb n n refl

other_number : (m n : ℕ) → m < n → (n == m) ≡ false
other_number m n lt = grind (arith, nat_tests)

-- no number below the first
below : (passes : List ℕ → Bool) (tree : List (List ℕ)) (from k : ℕ) → k < from
    → list_any (λ n. n == k) (map (λ (o : ℕ × List ℕ). o.0) (filter (λ o. passes o.1) (enumerate_from from tree))) ≡ false
below passes [] from k lt = refl
below passes (t ∷ ts) from k lt = by (passes t) (below passes ts (from + 1) k (omega (arith, lt)))
  where
    by : (b : Bool)
        → list_any (λ n. n == k) (map (λ (o : ℕ × List ℕ). o.0) (filter (λ o. passes o.1) (enumerate_from (from + 1) ts))) ≡ false
        → list_any (λ n. n == k) (map (λ (o : ℕ × List ℕ). o.0) (cond b ((from, t) ∷ filter (λ o. passes o.1) (enumerate_from (from + 1) ts)) (filter (λ o. passes o.1) (enumerate_from (from + 1) ts)))) ≡ false
    by true rest = rw (other_number k from lt) rest
    by false rest = rest

numbers_from : (passes : List ℕ → Bool) (tree : List (List ℕ)) (from k : ℕ) → k < length tree
    → list_any (λ n. n == from + k) (map (λ (o : ℕ × List ℕ). o.0) (filter (λ o. passes o.1) (enumerate_from from tree))) ≡ passes (get_or tree k [])
numbers_from passes [] from k lt = absurd (omega arith)
numbers_from passes (t ∷ ts) from zero lt = by (passes t) refl
  where
    by : (b : Bool) → passes t ≡ b
        → list_any (λ n. n == from + 0) (map (λ (o : ℕ × List ℕ). o.0) (cond b ((from, t) ∷ filter (λ o. passes o.1) (enumerate_from (from + 1) ts)) (filter (λ o. passes o.1) (enumerate_from (from + 1) ts)))) ≡ b
    by true is = rw (add-zero, same_number from) refl
    by false is = below passes ts (from + 1) (from + 0) (omega arith)
numbers_from passes (t ∷ ts) from (suc k) lt =
    let at : from + suc k ≡ from + 1 + k = omega arith in
    let other : (from == from + 1 + k) ≡ false = grind (arith, nat_tests) in
    let rest = numbers_from passes ts (from + 1) k (omega (arith, lt)) in
    rw at (by (passes t) other rest)
  where
    by : (b : Bool) → (from == from + 1 + k) ≡ false
        → list_any (λ n. n == from + 1 + k) (map (λ (o : ℕ × List ℕ). o.0) (filter (λ o. passes o.1) (enumerate_from (from + 1) ts))) ≡ passes (get_or ts k [])
        → list_any (λ n. n == from + 1 + k) (map (λ (o : ℕ × List ℕ). o.0) (cond b ((from, t) ∷ filter (λ o. passes o.1) (enumerate_from (from + 1) ts)) (filter (λ o. passes o.1) (enumerate_from (from + 1) ts)))) ≡ passes (get_or ts k [])
    by true other rest = rw other rest
    by false other rest = rest

-- A number is among those of the objects that pass where its object passes.
pub among_numbers : (passes : List ℕ → Bool) (tree : List (List ℕ)) (k : ℕ) → k < length tree → list_any (λ n. n == k) (numbers_where passes tree) ≡ passes (get_or tree k [])
among_numbers passes tree k lt = rw (zero-add k) at (numbers_from passes tree 0 k lt)

-- The number of the one object of a name.
pub among_one : (tree : List (List ℕ)) (name : List ℕ) (object k : ℕ) → k < length tree → StandsAt tree name object
    → ((other : ℕ) → StandsAt tree name other → other ≡ object) → list_any (λ n. n == k) (object ∷ []) ≡ bytes_eq (get_or tree k []) name
among_one tree name object k lt at alone = or_none (object == k) ∙ same_from_decides (object == k) (bytes_eq (get_or tree k []) name) (Decides-eqb object k) (there, back)
  where
    there : bytes_eq (get_or tree k []) name ≡ true → object ≡ k
    there is = sym (alone k (lt, (bytes_eq-Decides (get_or tree k []) name).0 is))

    back : object ≡ k → bytes_eq (get_or tree k []) name ≡ true
    back is = (bytes_eq-Decides (get_or tree k []) name).1 (rw is at at.1)

pub among_none : (tree : List (List ℕ)) (name : List ℕ) (k : ℕ) → k < length tree → ((object : ℕ) → StandsAt tree name object → ⊥)
    → false ≡ bytes_eq (get_or tree k []) name
among_none tree name k lt none = sym (false_from_ne_true (bytes_eq (get_or tree k []) name) (λ is. none k (lt, (bytes_eq-Decides (get_or tree k []) name).0 is)))
