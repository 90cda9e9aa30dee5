-- No tick before its making is counted for a job or a monitor.
use Rattle.std.proofs.Common.{◌≡◌, ℕ, ◌+◌, ◌*◌, ◌<◌, ◌≤◌, Bool, true, false, ◌&&◌, not, cond, ltb, List, Option, Some, None, refl, ap, ◌∙◌, arith}
use Rattle.std.proofs.lemmas.Bool.{ne_eqb}
use Rattle.pm_history.specs.declared.entry.Side.{Side}
use Rattle.pm_history.specs.declared.entry.Entry.{Entry}
use Rattle.pm_history.specs.Entry.{moment_of}
use Rattle.pm_history.specs.History.{History, Start, ◌▷◌, size, before, is_over, is_cut}
use Rattle.pm_history.specs.Terms.{Terms}
use Rattle.pm_history.specs.Standing.{Making, Standing, runs, standing_after}
use Rattle.pm_history.specs.Counted.{is_counted, is_touched}
use Rattle.pm_history.proofs.HistoryLemmas.{before-stays}
use Rattle.pm_history.proofs.StandingLemmas.{place-lt}

size-before : (m : ℕ) (h : History) → size (before m h) ≤ size h
size-before m Start = omega arith
size-before m (h ▷ e) = by (ltb (moment_of e) m) (size-before m h)
  where
    by : (b : Bool) → size (before m h) ≤ size h → size (cond b (h ▷ e) (before m h)) ≤ size h + 1
    by true le = omega arith
    by false le = omega (arith, le)

runs-unmade : (place : ℕ) (o : Option Standing) → ((s : Standing) → o ≡ Some s → s.place < place) → runs place o ≡ false
runs-unmade place None less = refl
runs-unmade place (Some s) less =
    let lt = less s refl in
    ap (λ b. b && s.unlocked) (ne_eqb s.place place (λ same. omega (arith, lt, same)))

third-false : (x y z b : Bool) → b ≡ false → (x && y && b && z) ≡ false
third-false true true z b is = rw is refl
third-false true false z b is = refl
third-false false y z b is = refl

pub uncounted-before : (terms : Side → List ℕ → Terms) (h : History) (e : Entry) (w : Making) (t : ℕ) → w.place ≡ size h
    → 60 * t ≤ moment_of e → is_counted terms (h ▷ e) w t ≡ false
uncounted-before terms h e w t is le =
    let begun = before-stays h e (60 * t) le in
    let small = size-before (60 * t) h in
    third-false (is_over (h ▷ e) t) (not (is_cut (h ▷ e) t)) (not (is_touched terms (h ▷ e) w t)) _
    (ap (λ (g : History). runs w.place (standing_after terms w.side g w.id)) begun
    ∙ runs-unmade w.place (standing_after terms w.side (before (60 * t) h) w.id)
    (λ s there. let lt = place-lt terms w.side (before (60 * t) h) w.id s there in omega (arith, lt, small, is)))
