-- A router's search over patterns with at most one parameter, which is at their end: it finds a pattern exactly where one
-- fits the path.
use Rattle.std.proofs.Common.{◌≡◌, ◌≢◌, ℕ, zero, suc, ◌-◌, ◌<◌, ◌⊎◌, inl, inr, List, [], ◌∷◌, length, Option, Some, None, Bool, true, false, cond, refl, sym, ap, ◌∙◌, subst, arith, ◌==◌}
use Rattle.std.proofs.lemmas.Bool.Decides.{nat_tests}
use Rattle.matchit.specs.Rows.{RowsOf}
use Rattle.matchit.specs.Seek.{segment, has_slash, own, step, or_else, longest_from, param_step, seek}

-- The path has the pattern.
pub data Fits : List ℕ → List ℕ → Type 0 where
  ends : Fits [] []
  byte : (x : ℕ) (t p : List ℕ) → x < 256 → Fits t p → Fits (x ∷ t) (x ∷ p)
  part : (b : ℕ) (p : List ℕ) → has_slash (b ∷ p) ≡ false → Fits (256 ∷ []) (b ∷ p)

-- A pattern: bytes, or bytes and then one parameter.
abbrev pub IsSimple : List ℕ → Type 0
IsSimple [] = Unit {0}
IsSimple (x ∷ t) = ((x < 256) × IsSimple t) ⊎ ((x ≡ 256) × (t ≡ []))

abbrev pub AllBytes : List ℕ → Type 0
AllBytes [] = Unit {0}
AllBytes (b ∷ p) = (b < 256) × AllBytes p

module _ {K : Type 0} where
  abbrev pub AllSimple : RowsOf K → Type 0
  AllSimple [] = Unit {0}
  AllSimple ((t, k) ∷ rs) = IsSimple t × AllSimple rs

  -- No row has anything left.
  abbrev pub AllEnd : RowsOf K → Type 0
  AllEnd [] = Unit {0}
  AllEnd ((t, k) ∷ rs) = (t ≡ []) × AllEnd rs

  -- The row is one of these.
  abbrev pub In : List ℕ → K → RowsOf K → Type 0
  In t k [] = ⊥
  In t k ((u, l) ∷ rs) = ((t ≡ u) × (k ≡ l)) ⊎ In t k rs

  pub own_in : (rs : RowsOf K) (k : K) → own rs ≡ Some k → In [] k rs
  own_in [] k e = cc
  own_in (([], l) ∷ rs) k e = inl (refl, cc)
  own_in ((x ∷ t, l) ∷ rs) k e = inr (own_in rs k e)

  pub in_own : (rs : RowsOf K) (k : K) → In [] k rs → own rs ≢ None
  in_own [] k h e = h
  in_own (([], l) ∷ rs) k h e = cc
  in_own ((x ∷ t, l) ∷ rs) k h e = elim h [
    | inl same ↦ cc (same.0)
    | inr there ↦ in_own rs k there e
  ]

  pub step_in : (b : ℕ) (rs : RowsOf K) (t : List ℕ) (k : K) → In t k (step b rs) → In (b ∷ t) k rs
  step_in b [] t k h = h
  step_in b (([], l) ∷ rs) t k h = inr (step_in b rs t k h)
  step_in b ((x ∷ u, l) ∷ rs) t k h = by (step_in b rs t k) (x == b) refl h
    where
      by : (In t k (step b rs) → In (b ∷ t) k rs) → (v : Bool) → (x == b) ≡ v
          → In t k (cond v ((u, l) ∷ step b rs) (step b rs)) → In (b ∷ t) k ((x ∷ u, l) ∷ rs)
      by ih true e h =
          let same : x ≡ b = grind (arith, nat_tests) in
          elim h [
            | inl here ↦ inl (cc (same, here.0), here.1)
            | inr there ↦ inr (ih there)
          ]
      by ih false e h = inr (ih h)

  pub in_step : (b : ℕ) (rs : RowsOf K) (t : List ℕ) (k : K) → In (b ∷ t) k rs → In t k (step b rs)
  in_step b [] t k h = h
  in_step b (([], l) ∷ rs) t k h = elim h [
    | inl same ↦ cc (same.0)
    | inr there ↦ in_step b rs t k there
  ]
  in_step b ((x ∷ u, l) ∷ rs) t k h = by (in_step b rs t k) (x == b) refl h
    where
      by : (In (b ∷ t) k rs → In t k (step b rs)) → (v : Bool) → (x == b) ≡ v
          → In (b ∷ t) k ((x ∷ u, l) ∷ rs) → In t k (cond v ((u, l) ∷ step b rs) (step b rs))
      by ih true e h = elim h [
        | inl same ↦ inl (cc (same.0), same.1)
        | inr there ↦ inr (ih there)
      ]
      by ih false e h =
          let differ : x ≢ b = grind (arith, nat_tests) in
          elim h [
            | inl same ↦ (let eq : x ≡ b = cc (same.0) in absurd (differ eq))
            | inr there ↦ ih there
          ]

  pub simple_step : (b : ℕ) (rs : RowsOf K) → b < 256 → AllSimple rs → AllSimple (step b rs)
  simple_step b [] lt h = tt
  simple_step b (([], l) ∷ rs) lt h = simple_step b rs lt h.1
  simple_step b ((x ∷ u, l) ∷ rs) lt h = by (simple_step b rs lt h.1) (x == b) refl
    where
      by : AllSimple (step b rs) → (v : Bool) → (x == b) ≡ v → AllSimple (cond v ((u, l) ∷ step b rs) (step b rs))
      by ih true e =
          let same : x ≡ b = grind (arith, nat_tests) in
          elim h.0 [
            | inl more ↦ (more.1, ih)
            | inr last ↦ (let eq : x ≡ 256 = last.0 in absurd (omega arith))
          ]
      by ih false e = ih

  -- after the parameter nothing is left
  pub param_end : (rs : RowsOf K) → AllSimple rs → AllEnd (step 256 rs)
  param_end [] h = tt
  param_end (([], l) ∷ rs) h = param_end rs h.1
  param_end ((x ∷ u, l) ∷ rs) h = by (param_end rs h.1) (x == 256) refl
    where
      by : AllEnd (step 256 rs) → (v : Bool) → (x == 256) ≡ v → AllEnd (cond v ((u, l) ∷ step 256 rs) (step 256 rs))
      by ih true e =
          let same : x ≡ 256 = grind (arith, nat_tests) in
          elim h.0 [
            | inl more ↦ (let lt : x < 256 = more.0 in absurd (omega arith))
            | inr last ↦ (last.1, ih)
          ]
      by ih false e = ih

  -- and there is no catch-all
  pub no_catch_all : (rs : RowsOf K) → AllSimple rs → step 257 rs ≡ []
  no_catch_all [] h = refl
  no_catch_all (([], l) ∷ rs) h = no_catch_all rs h.1
  no_catch_all ((x ∷ u, l) ∷ rs) h = by (no_catch_all rs h.1) (x == 257) refl
    where
      by : step 257 rs ≡ [] → (v : Bool) → (x == 257) ≡ v → cond v ((u, l) ∷ step 257 rs) (step 257 rs) ≡ []
      by ih true e =
          let same : x ≡ 257 = grind (arith, nat_tests) in
          elim h.0 [
            | inl more ↦ (let lt : x < 256 = more.0 in absurd (omega arith))
            | inr last ↦ (let eq : x ≡ 256 = last.0 in absurd (omega arith))
          ]
      by ih false e = ih

  pub end_longest : (seg : List ℕ) (rs : RowsOf K) → AllEnd rs → longest_from seg [] rs ≡ []
  end_longest seg [] h = refl
  end_longest seg ((t, l) ∷ rs) h = rw h.0 (end_longest seg rs h.1)

  -- how many bytes a parameter takes that runs to the path's end, and the rows after it
  abbrev pub taken : Bool → ℕ → RowsOf K → ℕ × RowsOf K
  taken v n rs = cond v (0, []) (n, rs)

  pub param_taken : (rs : RowsOf K) (p : List ℕ) → AllEnd rs → param_step rs p ≡ taken (has_slash p) (length p) rs
  unfolding param_step
  param_taken rs p h = rw (end_longest (segment p) rs h) refl

  pub param_none : (p : List ℕ) → (param_step {K = K} [] p).1 ≡ []
  param_none p = rw (param_taken [] p tt) (by (has_slash p))
    where
      by : (v : Bool) → (taken v (length p) []).1 ≡ []
      by true = refl
      by false = refl

  pub seek_none : (n : ℕ) (p : List ℕ) → seek {K = K} n [] p ≡ None
  unfolding seek
  seek_none zero [] = refl
  seek_none (suc n) [] = refl
  seek_none (suc n) (b ∷ p) = seek_none n p
  seek_none zero (b ∷ p) = rw (seek_none zero p, param_none (b ∷ p), seek_none ((param_step {K = K} [] (b ∷ p)).0 - 1) p) refl

  -- a parameter that takes the rest of the path
  pub seek_all : (p : List ℕ) (rs : RowsOf K) → seek (length p) rs p ≡ own rs
  unfolding seek
  seek_all [] rs = refl
  seek_all (b ∷ p) rs = seek_all p rs

  pub param_seek : (rs : RowsOf K) (b : ℕ) (p : List ℕ) → AllEnd rs
      → seek ((param_step rs (b ∷ p)).0 - 1) (param_step rs (b ∷ p)).1 p ≡ cond (has_slash (b ∷ p)) None (own rs)
  param_seek rs b p h = rw (param_taken rs (b ∷ p) h) (by (has_slash (b ∷ p)))
    where
      by : (v : Bool) → seek ((taken v (length (b ∷ p)) rs).0 - 1) (taken v (length (b ∷ p)) rs).1 p ≡ cond v None (own rs)
      by true = seek_none 0 p
      by false =
          let less : length (b ∷ p) - 1 ≡ length p = omega arith in
          rw less (seek_all p rs)

  pub or_none : (a : Option K) → or_else a None ≡ a
  or_none None = refl
  or_none (Some k) = refl

  pub seek_simple : (b : ℕ) (p : List ℕ) (rs : RowsOf K) → AllSimple rs
      → seek 0 rs (b ∷ p) ≡ or_else (seek 0 (step b rs) p) (cond (has_slash (b ∷ p)) None (own (step 256 rs)))
  unfolding seek
  seek_simple b p rs h =
      let last : own (step 257 rs) ≡ None = rw (no_catch_all rs h) refl in
      ap (or_else (seek 0 (step b rs) p))
      (ap (λ (o : Option K). or_else o (own (step 257 rs))) (param_seek (step 256 rs) b p (param_end rs h))
      ∙ (ap (or_else (cond (has_slash (b ∷ p)) None (own (step 256 rs)))) last ∙ or_none _))

  -- what the search finds is a row whose pattern the path has
  pub seek_sound : (p : List ℕ) (rs : RowsOf K) (k : K) → AllBytes p → AllSimple rs → seek 0 rs p ≡ Some k
      → (t : List ℕ) × In t k rs × Fits t p
  unfolding seek
  seek_sound [] rs k bytes h e = ([], own_in rs k e, ends)
  seek_sound (b ∷ p) rs k bytes h e =
      by (λ l was. seek_sound p (step b rs) l bytes.1 (simple_step b rs bytes.0 h) was)
      (seek 0 (step b rs) p) refl (has_slash (b ∷ p)) refl (sym (seek_simple b p rs h) ∙ e)
    where
      by : ((l : K) → seek 0 (step b rs) p ≡ Some l → (t : List ℕ) × In t l (step b rs) × Fits t p)
          → (o : Option K) → seek 0 (step b rs) p ≡ o → (v : Bool) → has_slash (b ∷ p) ≡ v
          → or_else o (cond v None (own (step 256 rs))) ≡ Some k → (t : List ℕ) × In t k rs × Fits t (b ∷ p)
      by ih (Some l) was v slash found =
          let deeper = ih l was in
          let same : l ≡ k = cc (found) in
          (b ∷ deeper.0, subst (λ (m : K). In (b ∷ deeper.0) m rs) same (step_in b rs deeper.0 l deeper.1), byte b deeper.0 p bytes.0 deeper.2)
      by ih None was true slash found = cc (found)
      by ih None was false slash found = (256 ∷ [], step_in 256 rs [] k (own_in (step 256 rs) k found), part b p slash)

  -- where a pattern fits, something is found
  pub seek_complete : (t p : List ℕ) → Fits t p → (rs : RowsOf K) (k : K) → AllSimple rs → AllBytes p → In t k rs → seek 0 rs p ≢ None
  unfolding seek
  seek_complete _ _ ends rs k h bytes there e = in_own rs k there e
  seek_complete _ _ (byte x t p lt fits) rs k h bytes there e =
      by (seek_complete t p fits (step x rs) k (simple_step x rs lt h) bytes.1 (in_step x rs t k there))
      (seek 0 (step x rs) p) refl (sym (seek_simple x p rs h) ∙ e)
    where
      by : seek 0 (step x rs) p ≢ None → (o : Option K) → seek 0 (step x rs) p ≡ o
          → or_else o (cond (has_slash (x ∷ p)) None (own (step 256 rs))) ≡ None → ⊥
      by some (Some l) was found = cc (found)
      by some None was found = some was
  seek_complete _ _ (part b p slash) rs k h bytes there e =
      let some = in_own (step 256 rs) k (in_step 256 rs [] k there) in
      let whole = sym (seek_simple b p rs h) ∙ e in
      let plain = subst (λ (v : Bool). or_else (seek 0 (step b rs) p) (cond v None (own (step 256 rs))) ≡ None) slash whole in
      by (seek 0 (step b rs) p) some plain
    where
      by : (o : Option K) → own (step 256 rs) ≢ None → or_else o (own (step 256 rs)) ≡ None → ⊥
      by (Some l) some found = cc (found)
      by None some found = some found
