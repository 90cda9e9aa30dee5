-- Texts, two values in a row and tested values are exact.
use Rattle.std.proofs.Common.{◌≡◌, ℕ, ◌≤◌, Bool, true, false, cond, ltb, eqb, List, [], ◌++◌, length, take, drop, Some, None, refl, sym, ap, subst, ◌∙◌, append_assoc, arith}
use Rattle.std.proofs.lemmas.Bool.{ltb-false, le-ltb, eqb-true}
use Rattle.std.proofs.lemmas.Option.{same_Some, cond_some}
use Rattle.std.proofs.lemmas.List.{take_at, drop_at, take-append-drop, length-append, length-take, append-nil, nil_from_length}
use Rattle.pm_store.specs.Format.{Format, ◌>>=◌, first, byte, number32, counted, short, long, both, tested, whole}
use Rattle.pm_store.proofs.FrontLemmas.{IsBytes, IsBytes-drop, bind_some, guard_some, Takes, Takes-then, IsExact, byte_exact}
use Rattle.pm_store.proofs.NumberLemmas.{number32_exact}

pub counted_exact : (count : Format ℕ) → IsExact count → IsExact (counted count)
counted_exact count exact = record { back = back; only = only }
  where
    back : (text rest : List ℕ) → count.Fits (length text)
        → (counted count).read ((count.bytes (length text) ++ text) ++ rest) ≡ Some (text, rest)
    back text rest fits =
        let long : ltb (length (text ++ rest)) (length text) ≡ false = le-ltb _ _ (omega (arith, length-append text rest)) in
        rw (
          append_assoc (count.bytes (length text)) text rest,
          exact.back (length text) (text ++ rest) fits,
          long,
          take_at text rest (length text) refl,
          drop_at text rest (length text) refl,
        ) refl

    only : (bs text rest : List ℕ) → IsBytes bs → (counted count).read bs ≡ Some (text, rest)
        → Takes bs (count.bytes (length text) ++ text) rest × count.Fits (length text)
    only bs text rest fits e =
        let b = bind_some (count.read bs) (λ n. cond (ltb (length n.1) n.0) None (Some (take n.0 n.1, drop n.0 n.1))) (
          text,
          rest,
        ) e in
        let n = b.0 in
        let t = exact.only bs n.0 n.1 fits b.1 in
        let g = guard_some (ltb (length n.1) n.0) (take n.0 n.1, drop n.0 n.1) (text, rest) b.2 in
        let long : n.0 ≤ length n.1 = ltb-false _ _ g.0 in
        let len : length (take n.0 n.1) ≡ n.0 = omega (arith, length-take n.0 n.1) in
        let second : Takes n.1 (take n.0 n.1) (drop n.0 n.1) = record {
          parts = sym (take-append-drop n.0 n.1);
          rest_fits =
              IsBytes-drop n.0 n.1 t.0.rest_fits;
        } in
        let all = Takes-then bs (count.bytes n.0) n.1 (take n.0 n.1) (drop n.0 n.1) t.0 second in
        subst (λ (p : List ℕ × List ℕ). Takes bs (count.bytes (length p.0) ++ p.0) p.1 × count.Fits (length p.0)) g.1
        (subst (λ (k : ℕ). Takes bs (count.bytes k ++ take n.0 n.1) (drop n.0 n.1) × count.Fits k) (sym len) (all, t.1))

pub short_exact : IsExact short
short_exact = counted_exact byte byte_exact

pub long_exact : IsExact long
long_exact = counted_exact number32 number32_exact

pub both_exact : {A B : Type 0} (f : Format A) (g : Format B) → IsExact f → IsExact g → IsExact (both f g)
both_exact {A} {B} f g first second = record { back = back; only = only }
  where
    back : (x : A × B) (rest : List ℕ) → f.Fits x.0 × g.Fits x.1
        → (both f g).read ((f.bytes x.0 ++ g.bytes x.1) ++ rest) ≡ Some (x, rest)
    back x rest fits =
        rw (
          append_assoc (f.bytes x.0) (g.bytes x.1) rest,
          first.back x.0 (g.bytes x.1 ++ rest) fits.0,
          second.back x.1 rest fits.1,
        ) refl

    only : (bs : List ℕ) (x : A × B) (rest : List ℕ) → IsBytes bs → (both f g).read bs ≡ Some (x, rest)
        → Takes bs (f.bytes x.0 ++ g.bytes x.1) rest × (f.Fits x.0 × g.Fits x.1)
    only bs x rest fits e =
        let a = bind_some (f.read bs) (λ a. g.read a.1 >>= λ b. Some ((a.0, b.0), b.1)) (x, rest) e in
        let b = bind_some (g.read a.0.1) (λ b. Some ((a.0.0, b.0), b.1)) (x, rest) a.2 in
        let one = first.only bs a.0.0 a.0.1 fits a.1 in
        let two = second.only a.0.1 b.0.0 b.0.1 one.0.rest_fits b.1 in
        subst (λ (p : (A × B) × List ℕ). Takes bs (f.bytes p.0.0 ++ g.bytes p.0.1) p.1 × (f.Fits p.0.0 × g.Fits p.0.1))
        (same_Some ((a.0.0, b.0.0), b.0.1) (x, rest) b.2)
        (Takes-then bs (f.bytes a.0.0) a.0.1 (g.bytes b.0.0) b.0.1 one.0 two.0, (one.1, two.1))

pub tested_exact : {A : Type 0} (test : A → Bool) (f : Format A) → IsExact f → IsExact (tested test f)
tested_exact {A} test f exact = record { back = back; only = only }
  where
    back : (x : A) (rest : List ℕ) → f.Fits x × (test x ≡ true) → (tested test f).read (f.bytes x ++ rest) ≡ Some (x, rest)
    back x rest fits = rw (exact.back x rest fits.0, fits.1) refl

    only : (bs : List ℕ) (x : A) (rest : List ℕ) → IsBytes bs → (tested test f).read bs ≡ Some (x, rest)
        → Takes bs (f.bytes x) rest × (f.Fits x × (test x ≡ true))
    only bs x rest fits e =
        let a = bind_some (f.read bs) (λ a. cond (test a.0) (Some a) None) (x, rest) e in
        let g = cond_some (test a.0.0) a.0 (x, rest) a.2 in
        let one = exact.only bs a.0.0 a.0.1 fits a.1 in
        subst (λ (p : A × List ℕ). Takes bs (f.bytes p.0) p.1 × (f.Fits p.0 × (test p.0 ≡ true))) g.1 (one.0, (one.1, g.0))

-- The same of all of the bytes.
pub whole_back : {A : Type 0} (f : Format A) → IsExact f → (a : A) → f.Fits a → whole f (f.bytes a) ≡ Some a
whole_back f exact a fits =
    let read : f.read (f.bytes a) ≡ Some (a, []) = ap f.read (sym (append-nil (f.bytes a))) ∙ exact.back a [] fits in
    rw read refl

pub whole_only : {A : Type 0} (f : Format A) → IsExact f → (bs : List ℕ) (a : A) → IsBytes bs → whole f bs ≡ Some a
    → (bs ≡ f.bytes a) × f.Fits a
whole_only {A} f exact bs a fits e =
    let b = bind_some (f.read bs) (λ r. cond (eqb (length r.1) 0) (Some r.0) None) a e in
    let g = cond_some (eqb (length b.0.1) 0) b.0.0 a b.2 in
    let one = exact.only bs b.0.0 b.0.1 fits b.1 in
    let none : b.0.1 ≡ [] = nil_from_length b.0.1 (eqb-true _ _ g.0) in
    let parts : bs ≡ f.bytes b.0.0 = one.0.parts ∙ ap (λ (r : List ℕ). f.bytes b.0.0 ++ r) none ∙ append-nil (f.bytes b.0.0) in
    subst (λ (x : A). (bs ≡ f.bytes x) × f.Fits x) g.1 (parts, one.1)
