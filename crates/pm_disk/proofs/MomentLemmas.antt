-- Laws of moments: how calls of a disk follow one another. Crates above import them.
use Rattle.std.proofs.Common.{◌≡◌, inl, inr, List, [], ◌∷◌, ◌++◌, refl, sym, ◌∙◌, ap, subst, append_assoc}
use Rattle.pm_disk.specs.declared.area.Area.{Area}
use Rattle.pm_disk.specs.Area.{AreaState}
use Rattle.pm_disk.specs.Moments.{DiskState, Told, IsStep, Each, Throughout}

-- No call was made.
pub at_rest : (P : DiskState → Type 0) (old : Told) → P old.now → Throughout P old old
at_rest P old here = record { later = []; moments = refl; before = here; each = tt }

-- One call more.
pub step_on : (P : DiskState → Type 0) (area : Area) (step : AreaState → AreaState → Type 0) (old mid new : Told)
    → Throughout P old mid → IsStep area step mid new → P new.now → Throughout P old new
step_on P area step old mid new run one here = elim one.past [
  | inl moved ↦ record {
    later = new.now ∷ run.later;
    moments = ap (λ (past : List DiskState). new.now ∷ past) (moved ∙ run.moments);
    before = run.before;
    each = (here, run.each);
  }
  | inr stays ↦ subst (λ (told : Told). Throughout P old told) (sym stays) run
]

-- A call that tells nothing new.
pub look_on : (P : DiskState → Type 0) (old mid new : Told) → new ≡ mid → Throughout P old mid → Throughout P old new
look_on P old mid new is run = subst (λ (told : Told). Throughout P old told) (sym is) run

each_append : (P : DiskState → Type 0) (xs ys : List DiskState) → Each P xs → Each P ys → Each P (xs ++ ys)
each_append P [] ys left right = right
each_append P (x ∷ xs) ys left right = (left.0, each_append P xs ys left.1 right)

-- More calls, of which the same is known.
pub run_on : (P : DiskState → Type 0) (old mid new : Told) → Throughout P old mid → Throughout P mid new → Throughout P old new
run_on P old mid new run more = record {
  later = more.later ++ run.later;
  moments = more.moments ∙ ap (λ (past : List DiskState). more.later ++ past) run.moments ∙ sym (append_assoc more.later run.later (old.now ∷ old.past));
  before = run.before;
  each = each_append P more.later run.later more.each run.each;
}

each_weaken : (P Q : DiskState → Type 0) → ((state : DiskState) → P state → Q state) → (states : List DiskState) → Each P states
    → Each Q states
each_weaken P Q to [] all = tt
each_weaken P Q to (state ∷ states) all = (to state all.0, each_weaken P Q to states all.1)

-- What follows from P holds at each moment too.
pub weaken : (P Q : DiskState → Type 0) (old new : Told) → ((state : DiskState) → P state → Q state) → Throughout P old new
    → Throughout Q old new
weaken P Q old new to run = record { later = run.later; moments = run.moments; before = to old.now run.before; each = each_weaken P Q to run.later run.each }

newest : (P : DiskState → Type 0) (later : List DiskState) (now old : DiskState) (rest past : List DiskState)
    → now ∷ rest ≡ later ++ old ∷ past → P old → Each P later → P now
newest P [] now old rest past is before all = let same : old ≡ now = cc in subst P same before
newest P (state ∷ later) now old rest past is before all = let same : state ≡ now = cc in subst P same all.0

-- It holds at the last of the moments.
pub at_end : (P : DiskState → Type 0) (old new : Told) → Throughout P old new → P new.now
at_end P old new run = newest P run.later new.now old.now new.past old.past run.moments run.before run.each
