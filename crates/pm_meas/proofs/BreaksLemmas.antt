-- A line breaks one rule first.
use Rattle.std.proofs.Common.{◌≡◌, ◌≢◌, ℕ, ◌<◌, ◌≤◌, List, ◌∷◌, length, Result, Err, refl, ap, subst, arith, inl, inr}
use Rattle.pm_meas.specs.declared.def.Def.{Def}
use Rattle.pm_meas.specs.declared.error.MeasError.{MeasError}
use Rattle.pm_meas.specs.declared.error.MeasError.TheVariants.{I1, M1, M2, M3, M4, Memory}
use Rattle.pm_base.specs.Class.{class_name}
use Rattle.pm_meas.specs.declared.kind.Kind.{Kind}
use Rattle.pm_meas.specs.declared.kind.Kind.TheVariants.{Cc, Gauge, Der, Si}
use Rattle.pm_meas.specs.Def.{ReadAs, AreFourOrFive, AreNamed, HaveMethod, name_word, method_words}
use Rattle.pm_meas.specs.Catalogue.{Breaks, Stands}

pub Breaks-one : (defs : List Def) (words : List (List ℕ)) (e f : MeasError) → Breaks defs words e → Breaks defs words f → e ≡ f
Breaks-one defs words I1 I1 a b = refl
Breaks-one defs words I1 _ a b = absurd (a b.0)
Breaks-one defs words _ I1 a b = absurd (b a.0)
Breaks-one defs words M1 M1 a b = refl
Breaks-one defs words M1 _ a b = absurd (a.1 b.1)
Breaks-one defs words _ M1 a b = absurd (b.1 a.1)
Breaks-one defs words M2 M2 a b = refl
Breaks-one defs words M2 _ a b = absurd (a.2 b.2)
Breaks-one defs words _ M2 a b = absurd (b.2 a.2)
Breaks-one defs words M3 M3 a b = refl
Breaks-one defs words M3 _ a b = absurd (b.3 a.3)
Breaks-one defs words _ M3 a b = absurd (a.3 b.3)
Breaks-one defs words M4 M4 a b = refl
Breaks-one defs words M4 Memory a b = absurd (omega (arith, a.4, b.4))
Breaks-one defs words Memory M4 a b = absurd (omega (arith, a.4, b.4))
Breaks-one defs words Memory Memory a b = refl

-- so where one is the answer, no other is due
pub Breaks-exact : (defs : List Def) (words : List (List ℕ)) (e : MeasError) → Breaks defs words e → (f : MeasError) → f ≢ Memory → Breaks defs words f → ◌≡◌ {A = Result ℕ MeasError} (Err e) (Err f)
Breaks-exact defs words e this f other that = ap Err (Breaks-one defs words e f this that)

pub Breaks-none : (defs : List Def) (words : List (List ℕ)) → Breaks defs words Memory → (f : MeasError) → f ≢ Memory → ¬ Breaks defs words f
Breaks-none defs words none f other that = other (Breaks-one defs words f Memory that none)

-- the words of a permitted definition break no rule of their own
pub ReadAs-name : (words : List (List ℕ)) (d : Def) → ReadAs words d → d.name ≡ name_word words
ReadAs-name words d read = ap name_word read.words_are

ReadAs-count : (words : List (List ℕ)) (d : Def) → ReadAs words d → AreFourOrFive words
ReadAs-count words d read = subst AreFourOrFive read.words_are (by d.kind)
  where
    by : (k : Kind) → AreFourOrFive (d.name ∷ class_name d.class ∷ method_words k d.reduce)
    by Cc = inl refl
    by Gauge = inl refl
    by (Der n) = inr refl
    by Si = inl refl

ReadAs-named : (words : List (List ℕ)) (d : Def) → ReadAs words d → AreNamed words
ReadAs-named words d read = subst AreNamed read.words_are (record { name_is = read.def_is.name_is; class = d.class; class_is = refl })

ReadAs-method : (words : List (List ℕ)) (d : Def) → ReadAs words d → HaveMethod words
ReadAs-method words d read =
    subst HaveMethod read.words_are (record { kind = d.kind; reduce = d.reduce; method_is = read.def_is.method_is; words_are = refl })

-- so what is left to break is that the name stands, or that there is no room
pub Breaks-M3 : (defs : List Def) (words : List (List ℕ)) (d : Def) → ReadAs words d → Stands defs d.name → Breaks defs words M3
Breaks-M3 defs words d read stands =
    (ReadAs-count words d read, ReadAs-named words d read, ReadAs-method words d read, subst (Stands defs) (ReadAs-name words d read) stands)

pub Breaks-M4 : (defs : List Def) (words : List (List ℕ)) (d : Def) → ReadAs words d → ¬ Stands defs d.name → 64 ≤ length defs → Breaks defs words M4
Breaks-M4 defs words d read fresh full =
    (ReadAs-count words d read, ReadAs-named words d read, ReadAs-method words d read, subst (λ n. ¬ Stands defs n) (ReadAs-name words d read) fresh, full)

pub Breaks-Memory : (defs : List Def) (words : List (List ℕ)) (d : Def) → ReadAs words d → ¬ Stands defs d.name → length defs < 64 → Breaks defs words Memory
Breaks-Memory defs words d read fresh room =
    (ReadAs-count words d read, ReadAs-named words d read, ReadAs-method words d read, subst (λ n. ¬ Stands defs n) (ReadAs-name words d read) fresh, room)
