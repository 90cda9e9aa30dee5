-- What the definitions become when one entry joins a history. Of ticks that are over nothing changes: `StayLemmas`. Which ticks are
-- counted that end with it: `StandingLemmas`. Here: files and notices, what an entry in the tick of the last moment leaves, and what changes nothing that stands.
use Rattle.std.proofs.Common.{◌≡◌, ℕ, ◌-◌, ◌≤◌, Bool, List, [], ◌++◌, ap, ◌∙◌, arith, refl}
use Rattle.std.proofs.lemmas.List.{append-nil}
use Rattle.pm_base.specs.Moment.{tick_of}
use Rattle.pm_history.specs.declared.entry.Side.{Side}
use Rattle.pm_history.specs.declared.entry.Side.TheVariants.{Job, Monitor}
use Rattle.pm_history.specs.declared.entry.Entry.{Entry}
use Rattle.pm_history.specs.declared.entry.Entry.TheVariants.{Boot, Now, Event}
use Rattle.pm_history.specs.Entry.{moment_of}
use Rattle.pm_history.specs.History.{History, ◌▷◌, last_moment}
use Rattle.pm_history.specs.Terms.{Terms}
use Rattle.pm_history.specs.Ticks.{behind}
use Rattle.pm_history.specs.Standing.{standing_after, ids_after}
use Rattle.pm_history.specs.Value.{values_where}
use Rattle.pm_history.specs.Files.{files_at, files_of}
use Rattle.pm_history.specs.Notices.{notices_at, notices_of}
use Rattle.pm_history.proofs.StayLemmas.{files_of-next, notices_of-next}

behind-zero : {A : Type 0} (said : ℕ → List A) (t n : ℕ) → n ≡ 0 → behind said t n ≡ []
behind-zero said t n is = ap (behind said t) is

-- a Now or a Boot has no value
pub values_where-now : (o m : ℕ) (p : ℕ → Bool) (h : History) (k : ℕ) → values_where o m p (h ▷ Now k) ≡ values_where o m p h
values_where-now o m p h k = append-nil (values_where o m p h)

pub values_where-boot : (o m : ℕ) (p : ℕ → Bool) (h : History) (k : ℕ) → values_where o m p (h ▷ Boot k) ≡ values_where o m p h
values_where-boot o m p h k = append-nil (values_where o m p h)

-- ---- what stands, after entries that change nothing of it

pub ids_after-now : (side : Side) (h : History) (m : ℕ) → ids_after side (h ▷ Now m) ≡ ids_after side h
ids_after-now Job h m = refl
ids_after-now Monitor h m = refl

pub ids_after-boot : (side : Side) (h : History) (m : ℕ) → ids_after side (h ▷ Boot m) ≡ ids_after side h
ids_after-boot Job h m = refl
ids_after-boot Monitor h m = refl

pub ids_after-event : (side : Side) (h : History) (m o k v : ℕ) (r : Bool) → ids_after side (h ▷ Event m o k v r) ≡ ids_after side h
ids_after-event Job h m o k v r = refl
ids_after-event Monitor h m o k v r = refl

module _ (terms : Side → List ℕ → Terms) where
  -- an entry in the tick of the last moment brings no file and no notice
  pub files_of-same_tick : (h : History) (e : Entry) → last_moment h ≤ moment_of e → tick_of (moment_of e) ≡ tick_of (last_moment h)
      → files_of terms (h ▷ e) ≡ files_of terms h
  files_of-same_tick h e le same =
      let none : tick_of (moment_of e) - tick_of (last_moment h) ≡ 0 = omega (arith, same) in
      files_of-next terms h e le
      ∙ (ap (λ fs. files_of terms h ++ fs) (behind-zero (files_at terms (h ▷ e)) (tick_of (last_moment h)) _ none) ∙ append-nil (files_of terms h))

  pub notices_of-same_tick : (h : History) (e : Entry) → last_moment h ≤ moment_of e → tick_of (moment_of e) ≡ tick_of (last_moment h)
      → notices_of terms (h ▷ e) ≡ notices_of terms h
  notices_of-same_tick h e le same =
      let none : tick_of (moment_of e) - tick_of (last_moment h) ≡ 0 = omega (arith, same) in
      notices_of-next terms h e le
      ∙ (ap (λ ns. notices_of terms h ++ ns) (behind-zero (notices_at terms (h ▷ e)) (tick_of (last_moment h)) _ none) ∙ append-nil (notices_of terms h))

  -- a Now, a Boot or an event changes nothing that stands
  pub standing_after-now : (side : Side) (h : History) (id : List ℕ) (m : ℕ) → standing_after terms side (h ▷ Now m) id ≡ standing_after terms side h id
  standing_after-now Job h id m = refl
  standing_after-now Monitor h id m = refl

  pub standing_after-boot : (side : Side) (h : History) (id : List ℕ) (m : ℕ) → standing_after terms side (h ▷ Boot m) id ≡ standing_after terms side h id
  standing_after-boot Job h id m = refl
  standing_after-boot Monitor h id m = refl

  pub standing_after-event : (side : Side) (h : History) (id : List ℕ) (m o k v : ℕ) (r : Bool) → standing_after terms side (h ▷ Event m o k v r) id ≡ standing_after terms side h id
  standing_after-event Job h id m o k v r = refl
  standing_after-event Monitor h id m o k v r = refl
