-- Merging a number of each view, by an operation with 0 for its unit.
use Rattle.std.proofs.Common.{◌≡◌, ◌≢◌, ℕ, zero, suc, List, [], ◌∷◌, ◌++◌, set, refl, sym, ap, ◌∙◌, arith}
use mathlib.Core.Option.{some, some-ne-none, some-injective}
use lib.ListN.{get_elem?}
use Rattle.atomic_table.proofs.Lists.{set_else}
use Rattle.pm_bank.specs.declared.view.View.{View}
use Rattle.pm_bank.specs.Rule.{merge}

set_set : {A : Type 0} (xs : List A) (i : ℕ) (a b : A) → set (set xs i a) i b ≡ set xs i b
set_set [] i a b = refl
set_set (x ∷ xs) zero a b = refl
set_set (x ∷ xs) (suc i) a b = λ k. x ∷ set_set xs i a b k

set_comm : {A : Type 0} (xs : List A) (i j : ℕ) (a b : A) → i ≢ j → set (set xs i a) j b ≡ set (set xs j b) i a
set_comm [] i j a b n = refl
set_comm (x ∷ xs) zero zero a b n = absurd (n refl)
set_comm (x ∷ xs) zero (suc j) a b n = refl
set_comm (x ∷ xs) (suc i) zero a b n = refl
set_comm (x ∷ xs) (suc i) (suc j) a b n = λ k. x ∷ set_comm xs i j a b (λ e. n (ap suc e)) k

module _ (op : ℕ → ℕ → ℕ) (unit : (a : ℕ) → op a 0 ≡ a) (comm : (a b : ℕ) → op a b ≡ op b a) (assoc : (a b c : ℕ) → op (op a b) c ≡ op a (op b c)) where
  turn : (a b c : ℕ) → op (op a b) c ≡ op (op a c) b
  turn a b c = assoc a b c ∙ ap (op a) (comm b c) ∙ sym (assoc a c b)

  pub changes : (f : View → ℕ) (vs : List View) (i : ℕ) (v w : View) (x : ℕ) → get_elem? vs i ≡ some v → f w ≡ op (f v) x → merge op f (set vs i w) ≡ op (merge op f vs) x
  changes f [] i v w x e is = absurd (some-ne-none v (sym e))
  changes f (u ∷ us) zero v w x e is =
      let same : f v ≡ f u = ap f (sym (some-injective u v e)) in
      ap (λ a. op a (merge op f us)) (is ∙ ap (λ a. op a x) same) ∙ turn (f u) x (merge op f us)
  changes f (u ∷ us) (suc i) v w x e is = ap (op (f u)) (changes f us i v w x e is) ∙ sym (assoc (f u) (merge op f us) x)

  pub stays : (f : View → ℕ) (vs : List View) (i : ℕ) (v w : View) → get_elem? vs i ≡ some v → f w ≡ f v → merge op f (set vs i w) ≡ merge op f vs
  stays f vs i v w e is = changes f vs i v w 0 e (is ∙ sym (unit (f v))) ∙ unit (merge op f vs)

  -- one view taken out, at a view u that has nothing
  pub out_of : (f : View → ℕ) (vs : List View) (i : ℕ) (v u : View) → get_elem? vs i ≡ some v → f u ≡ 0 → merge op f vs ≡ op (merge op f (set vs i u)) (f v)
  out_of f [] i v u e is = absurd (some-ne-none v (sym e))
  out_of f (x ∷ xs) zero v u e is =
      let same : f x ≡ f v = ap f (some-injective x v e) in
      ap (λ a. op a (merge op f xs)) same ∙ comm (f v) (merge op f xs) ∙ ap (λ a. op a (f v)) (sym (ap (λ a. op a (merge op f xs)) is ∙ comm 0 (merge op f xs) ∙ unit (merge op f xs)))
  out_of f (x ∷ xs) (suc i) v u e is = ap (op (f x)) (out_of f xs i v u e is) ∙ sym (assoc (f x) (merge op f (set xs i u)) (f v))

  -- what one view had, another has besides its own
  pub moves : (f : View → ℕ) (vs : List View) (i j : ℕ) (v w p u : View) → get_elem? vs i ≡ some v → j ≢ i → get_elem? vs j ≡ some p → f w ≡ op (f v) (f p) → f u ≡ 0 → merge op f (set (set vs i w) j u) ≡ merge op f vs
  moves f vs i j v w p u at_i apart at_j is none =
      let base : List View = set (set vs i u) j u in
      let there : get_elem? (set vs i u) j ≡ some p = set_else vs i j u apart ∙ at_j in
      let before : merge op f vs ≡ op (op (merge op f base) (f p)) (f v) = out_of f vs i v u at_i none ∙ ap (λ a. op a (f v)) (out_of f (set vs i u) j p u there none) in
      let bare : List View = set vs j u in
      let at_i' : get_elem? bare i ≡ some v = set_else vs j i u (λ e. apart (sym e)) ∙ at_i in
      let same_base : set bare i u ≡ base = set_comm vs j i u u apart in
      let swapped : set (set vs i w) j u ≡ set bare i w = set_comm vs i j w u (λ e. apart (sym e)) in
      let after : merge op f (set bare i w) ≡ op (merge op f bare) (f p) = changes f bare i v w (f p) at_i' is in
      let bare_is : merge op f bare ≡ op (merge op f base) (f v) = out_of f bare i v u at_i' none ∙ ap (λ l. op (merge op f l) (f v)) same_base in
      ap (merge op f) swapped ∙ after ∙ ap (λ a. op a (f p)) bare_is ∙ turn (merge op f base) (f v) (f p) ∙ sym before

  pub adds_one : (f : View → ℕ) (vs : List View) (w : View) → merge op f (vs ++ w ∷ []) ≡ op (merge op f vs) (f w)
  adds_one f [] w = comm (f w) 0
  adds_one f (x ∷ xs) w = ap (op (f x)) (adds_one f xs w) ∙ sym (assoc (f x) (merge op f xs) (f w))

  pub none_has : (f : View → ℕ) (vs : List View) → ((i : ℕ) (v : View) → get_elem? vs i ≡ some v → f v ≡ 0) → merge op f vs ≡ 0
  none_has f [] each = refl
  none_has f (x ∷ xs) each = ap (λ a. op a (merge op f xs)) (each 0 x refl) ∙ ap (op 0) (none_has f xs (λ i v e. each (suc i) v e)) ∙ unit 0

  pub alone : (f : View → ℕ) (vs : List View) (k : ℕ) (v : View) → get_elem? vs k ≡ some v → ((i : ℕ) (u : View) → i ≢ k → get_elem? vs i ≡ some u → f u ≡ 0) → merge op f vs ≡ f v
  alone f [] k v e each = absurd (some-ne-none v (sym e))
  alone f (x ∷ xs) zero v e each = ap (op (f x)) (none_has f xs (λ i u h. each (suc i) u (λ z. omega arith) h)) ∙ unit (f x) ∙ ap f (some-injective x v e)
  alone f (x ∷ xs) (suc k) v e each =
      ap (λ a. op a (merge op f xs)) (each 0 x (λ z. omega arith) refl) ∙ comm 0 (merge op f xs) ∙ unit (merge op f xs) ∙ alone f xs k v e (λ i u n h. each (suc i) u (λ z. n (omega arith)) h)
