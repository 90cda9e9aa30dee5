use Rattle.std.proofs.Common.{◌≡◌, ◌∙◌, ℕ, ◌+◌, ◌<◌, List, [], ◌∷◌, ◌++◌, length, length-append, slice_index_or, Option, None, subst, sym, ap, arith, below_more}
use Rattle.std.proofs.Math.ListN.{get_or-append}
use Rattle.std.proofs.Math.Seq.{get_or-append_seam}
use Rattle.pm_thresh.specs.declared.direction.Direction.{Direction}
use Rattle.pm_thresh.specs.Watch.{IsCrossing}
use Rattle.pm_thresh.proofs.plain.crossings.Goals as goal

-- what holds of each answer, and of one more at the next place, holds of each of the longer list
each-push : (P : ℕ → Option Direction → Type 0) (xs : List (Option Direction)) (x : Option Direction) (n : ℕ) → length xs ≡ n
    → ((k : ℕ) → k < n → P k (slice_index_or xs k None)) → P n x → (k : ℕ) → k < n + 1 → P k (slice_index_or (xs ++ x ∷ []) k None)
each-push P xs x n is each last =
    below_more _ _
    (λ k lt. subst (P k) (sym (get_or-append xs (x ∷ []) None k (omega arith))) (each k lt))
    (subst (P n) (sym (ap (λ m. slice_index_or (xs ++ x ∷ []) m None) (sym is) ∙ get_or-append_seam xs x [] None)) last)

pub loop-place-preserved : goal.loop-place-preserved
loop-place-preserved c =
    rw c.in_ok-push.ensures.items (
      omega (arith, length-append c.loop-place.answers.items (c.crossing.result ∷ []), c.loop-place.invariant.0),
      each-push (λ k answer. IsCrossing c.args.high c.args.low c.args.up c.args.down c.args.values.now k answer)
          c.loop-place.answers.items c.crossing.result c.loop-place.place c.loop-place.invariant.0 c.loop-place.invariant.1 c.crossing.ensures,
    )
