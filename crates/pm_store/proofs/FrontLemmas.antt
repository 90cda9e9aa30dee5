-- What is taken from the front of bytes, and what it is that a format is exact.
use Rattle.std.proofs.Common.{◌≡◌, ℕ, zero, suc, ◌+◌, ◌<◌, Bool, true, false, cond, List, [], ◌∷◌, ◌++◌, get_or, take, drop, Option, Some, None, refl, sym, ap, subst, ◌∙◌, append_assoc, arith, inl, inr}
use Rattle.std.proofs.lemmas.Bool.{cases_lt}
use Rattle.std.proofs.lemmas.Option.{same_Some}
use Rattle.std.proofs.lemmas.List.{length-take, get_or-drop, get_or-take, get_or_past}
use Rattle.pm_store.specs.Format.{Format, ◌>>=◌, first, byte, first_flag, flag}

abbrev pub IsBytes : List ℕ → Type 0
IsBytes bytes = (i : ℕ) → get_or bytes i 0 < 256

pub IsBytes-drop : (n : ℕ) (bytes : List ℕ) → IsBytes bytes → IsBytes (drop n bytes)
IsBytes-drop n bytes h i = rw get_or-drop (h (n + i))

pub IsBytes-take : (n : ℕ) (bytes : List ℕ) → IsBytes bytes → IsBytes (take n bytes)
IsBytes-take n bytes h i =
    elim (cases_lt i n) [
      | inl lt ↦ rw (get_or-take n bytes i 0 lt) (h i)
      | inr le ↦ rw (get_or_past (take n bytes) i 0 (omega (arith, length-take n bytes))) (omega arith)
    ]

-- The value of a step that gave one, and of a test that let one through.
pub bind_some : {A B : Type 0} (r : Option A) (f : A → Option B) (y : B) → (r >>= f) ≡ Some y
    → (x : A) × (r ≡ Some x) × (f x ≡ Some y)
bind_some None f y e = absurd cc
bind_some (Some x) f y e = (x, refl, e)

pub guard_some : {A : Type 0} (b : Bool) (x y : A) → cond b None (Some x) ≡ Some y → (b ≡ false) × (x ≡ y)
guard_some true x y e = absurd cc
guard_some false x y e = (refl, same_Some x y e)

-- What was taken from the front.
pub record Takes (bytes text rest : List ℕ) : Type 0 where
  pub parts : bytes ≡ text ++ rest
  pub rest_fits : IsBytes rest

pub Takes-then : (a x b y c : List ℕ) → Takes a x b → Takes b y c → Takes a (x ++ y) c
Takes-then a x b y c p q =
    record { parts = p.parts ∙ ap (λ (t : List ℕ). x ++ t) q.parts ∙ sym (append_assoc x y c); rest_fits = q.rest_fits }

pub record IsExact {A : Type 0} (f : Format A) : Type 0 where
  pub back : (a : A) (rest : List ℕ) → f.Fits a → f.read (f.bytes a ++ rest) ≡ Some (a, rest)
  pub only : (bs : List ℕ) (a : A) (rest : List ℕ) → IsBytes bs → f.read bs ≡ Some (a, rest)
      → Takes bs (f.bytes a) rest × f.Fits a

pub byte_exact : IsExact byte
byte_exact = record { back = λ a rest fits. refl; only = only }
  where
    only : (bs : List ℕ) (a : ℕ) (rest : List ℕ) → IsBytes bs → first bs ≡ Some (a, rest) → Takes bs (a ∷ []) rest × (a < 256)
    only [] a rest fits e = absurd cc
    only (b ∷ bs) a rest fits e =
        subst (λ (p : ℕ × List ℕ). Takes (b ∷ bs) (p.0 ∷ []) p.1 × (p.0 < 256)) (same_Some (b, bs) (a, rest) e)
        (record { parts = refl; rest_fits = λ i. fits (suc i) }, fits 0)

pub flag_exact : IsExact flag
flag_exact = record { back = back; only = only }
  where
    back : (a : Bool) (rest : List ℕ) → Unit {0} → first_flag (cond a 1 0 ∷ rest) ≡ Some (a, rest)
    back true rest fits = refl
    back false rest fits = refl

    only : (bs : List ℕ) (a : Bool) (rest : List ℕ) → IsBytes bs → first_flag bs ≡ Some (a, rest)
        → Takes bs (cond a 1 0 ∷ []) rest × Unit {0}
    only [] a rest fits e = absurd cc
    only (zero ∷ bs) a rest fits e =
        subst (λ (p : Bool × List ℕ). Takes (0 ∷ bs) (cond p.0 1 0 ∷ []) p.1 × Unit {0}) (same_Some (false, bs) (a, rest) e)
        (record { parts = refl; rest_fits = λ i. fits (suc i) }, tt)
    only (suc zero ∷ bs) a rest fits e =
        subst (λ (p : Bool × List ℕ). Takes (1 ∷ bs) (cond p.0 1 0 ∷ []) p.1 × Unit {0}) (same_Some (true, bs) (a, rest) e)
        (record { parts = refl; rest_fits = λ i. fits (suc i) }, tt)
    only (suc (suc b) ∷ bs) a rest fits e = absurd cc
