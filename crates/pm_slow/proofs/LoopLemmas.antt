-- One step more of a loop.
use Rattle.std.proofs.Common.{◌≡◌, ℕ, suc, ◌+◌, ◌*◌, ◌<◌, ◌≤◌, Bool, true, false, ◌&&◌, ◌||◌, cond, List, [], ◌∷◌, ◌++◌, refl, ap, ◌∙◌, arith, add-one, suc-mul, mul-le-mul_right}
use Rattle.pm_history.specs.declared.entry.Side.{Side}
use Rattle.pm_history.specs.History.{History}
use Rattle.pm_history.specs.Terms.{Terms}
use Rattle.pm_history.specs.Ticks.{at_some, at_each, behind}
use Rattle.pm_history.specs.Standing.{Making}
use Rattle.pm_history.specs.Files.{part_of, parts_of}

pub at_some-more : (n : ℕ) (p : ℕ → Bool) → at_some (n + 1) p ≡ (at_some n p || p n)
at_some-more n p = rw add-one refl

pub at_each-more : (n : ℕ) (p : ℕ → Bool) → at_each (n + 1) p ≡ (at_each n p && p n)
at_each-more n p = rw add-one refl

pub cond_at : {X Y : Type 0} (f : X → Y) (b : Bool) (x y : X) → f (cond b x y) ≡ cond b (f x) (f y)
cond_at f true x y = refl
cond_at f false x y = refl

pub cond-le : (b : Bool) (x y z : ℕ) → x ≤ z → y ≤ z → cond b x y ≤ z
cond-le true x y z xs ys = xs
cond-le false x y z xs ys = ys

pub behind-more : {A : Type 0} (said : ℕ → List A) (t n : ℕ) → behind said t (n + 1) ≡ behind said t n ++ said (t + n + 1)
behind-more said t n =
    let at : suc (t + n) ≡ t + n + 1 = omega arith in
    let next : n + 1 ≡ suc n = omega arith in
    ap (behind said t) next ∙ ap (λ k. behind said t n ++ said k) at

-- a part of a period ends within it
pub part-within : (k n first g : ℕ) → k < n → first + k * g + g ≤ first + n * g
part-within k n first g lt =
    let product = suc-mul k g in
    let step : suc k ≤ n = omega arith in
    let le = mul-le-mul_right g step in
    omega (arith, product, le)

module _ (terms : Side → List ℕ → Terms) where
  pub parts_of-more : (h : History) (w : Making) (t : Terms) (first n : ℕ)
      → parts_of terms h w t first (n + 1) ≡ parts_of terms h w t first n ++ part_of terms h w t (first + n * t.granularity) ∷ []
  parts_of-more h w t first n = rw add-one refl

pub next-product : (k g : ℕ) → (k + 1) * g ≡ k * g + g
next-product k g = rw add-one (suc-mul k g)
