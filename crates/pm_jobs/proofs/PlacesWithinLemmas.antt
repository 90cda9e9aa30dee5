-- The places of what passes a test are within the list, and give back what passes.
use Rattle.std.proofs.Common.{◌≡◌, ℕ, zero, suc, ◌+◌, ◌<◌, ◌≤◌, Bool, true, false, cond, List, [], ◌∷◌, ◌++◌, length, map, get_or, refl, sym, ap, ◌∙◌, arith, append_assoc, length-append}
use Rattle.std.specs.List.{filter, enumerate_from}
use Rattle.pm_meas.specs.declared.def.Def.{Def}
use Rattle.pm_inventory.specs.Slot.{def_at}
use Rattle.pm_asked.specs.Asked.{Numbered}
use Rattle.pm_jobs.specs.Numbered.{AreBelow}
use Rattle.pm_jobs.specs.Places.{places_where}

abbrev from_where : {A : Type 0} → (A → Bool) → ℕ → List A → List ℕ
from_where {A} p from xs = map (λ (item : ℕ × A). item.0) (filter (λ (item : ℕ × A). p item.1) (enumerate_from from xs))

below_from : {A : Type 0} (p : A → Bool) (xs : List A) (from i : ℕ) → i < length (from_where p from xs) → get_or (from_where p from xs) i 0 < from + length xs
below_from p [] from i lt = absurd (omega arith)
below_from {A} p (x ∷ xs) from i lt = by (p x) i lt (λ k h. below_from p xs (from + 1) k h)
  where
    rest : List (ℕ × A)
    rest = filter (λ (item : ℕ × A). p item.1) (enumerate_from (from + 1) xs)

    by : (b : Bool) (i : ℕ) → i < length (map (λ (item : ℕ × A). item.0) (cond b ((from, x) ∷ rest) rest))
        → ((k : ℕ) → k < length (from_where p (from + 1) xs) → get_or (from_where p (from + 1) xs) k 0 < from + 1 + length xs)
        → get_or (map (λ (item : ℕ × A). item.0) (cond b ((from, x) ∷ rest) rest)) i 0 < from + suc (length xs)
    by true zero lt more = omega arith
    by true (suc i) lt more = let h = more i (omega (arith, lt)) in omega (arith, h)
    by false i lt more = let h = more i lt in omega (arith, h)

pub places_below : {A : Type 0} (p : A → Bool) (xs : List A) → AreBelow (length xs) (places_where p xs)
places_below p xs i lt = let h = below_from p xs 0 i lt in omega (arith, h)

few_from : {A : Type 0} (p : A → Bool) (xs : List A) (from : ℕ) → length (from_where p from xs) ≤ length xs
few_from p [] from = omega arith
few_from {A} p (x ∷ xs) from = by (p x) (few_from p xs (from + 1))
  where
    rest : List (ℕ × A)
    rest = filter (λ (item : ℕ × A). p item.1) (enumerate_from (from + 1) xs)

    by : (b : Bool) → length (from_where p (from + 1) xs) ≤ length xs
        → length (map (λ (item : ℕ × A). item.0) (cond b ((from, x) ∷ rest) rest)) ≤ suc (length xs)
    by true le = omega (arith, le)
    by false le = omega (arith, le)

pub places_few : {A : Type 0} (p : A → Bool) (xs : List A) → length (places_where p xs) ≤ length xs
places_few p xs = few_from p xs 0

at_end : (pre : List Def) (x : Def) (xs : List Def) (d : Def) → get_or (pre ++ x ∷ xs) (length pre) d ≡ x
at_end [] x xs d = refl
at_end (y ∷ ys) x xs d = at_end ys x xs d

back_from : (p : Def → Bool) (measures pre xs : List Def) (from : ℕ) → measures ≡ pre ++ xs → from ≡ length pre
    → map (λ metric. (metric, def_at measures metric)) (from_where p from xs) ≡ filter (λ (m : Numbered). p m.1) (enumerate_from from xs)
back_from p measures pre [] from is at = refl
back_from p measures pre (x ∷ xs) from is at =
    let next : from + 1 ≡ length (pre ++ x ∷ []) = omega (arith, at, length-append pre (x ∷ [])) in
    let own : def_at measures from ≡ x = rw (is, at) (at_end pre x xs _) in
    by (p x) own (back_from p measures (pre ++ x ∷ []) xs (from + 1) (is ∙ sym (append_assoc pre (x ∷ []) xs)) next)
  where
    rest : List Numbered
    rest = filter (λ (m : Numbered). p m.1) (enumerate_from (from + 1) xs)

    by : (b : Bool) → def_at measures from ≡ x → map (λ metric. (metric, def_at measures metric)) (from_where p (from + 1) xs) ≡ rest
        → map (λ metric. (metric, def_at measures metric)) (map (λ (m : Numbered). m.0) (cond b ((from, x) ∷ rest) rest)) ≡ cond b ((from, x) ∷ rest) rest
    by true own more = rw own (ap (λ l. (from, x) ∷ l) more)
    by false own more = more

pub numbered_back : (p : Def → Bool) (measures : List Def) → map (λ metric. (metric, def_at measures metric)) (places_where p measures) ≡ filter (λ (m : Numbered). p m.1) (enumerate_from 0 measures)
numbered_back p measures = back_from p measures [] measures 0 refl refl
