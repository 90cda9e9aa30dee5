-- Two histories with the same items and other places: a Boot and a job, and in one a Now of the Boot's tick between them.
use Rattle.std.proofs.Common.{◌≡◌, ◌<◌, true, ℕ, List, [], Option, Some, None, refl, sym, ap, ◌∙◌, arith}
use Rattle.pm_history.specs.declared.entry.Side.{Side}
use Rattle.pm_history.specs.declared.entry.Side.TheVariants.{Job}
use Rattle.pm_history.specs.declared.entry.Entry.{Entry}
use Rattle.pm_history.specs.declared.entry.Entry.TheVariants.{Boot, Now, JobMade}
use Rattle.pm_history.specs.History.{History, Start, ◌▷◌, MayFollow, last_moment, size}
use Rattle.pm_history.specs.Entry.{moment_of, value_of, is_opening}
use Rattle.pm_history.specs.Terms.{Terms}
use Rattle.pm_history.specs.Standing.{Standing}
use Rattle.pm_items.specs.Places.{PlacesDiffer}

abbrev place_or : Option Standing → ℕ
place_or None = 0
place_or (Some s) = s.place

opens : (h : History) (e : Entry) → last_moment h ≡ 0 → moment_of e ≡ 0 → value_of e ≡ 0 → is_opening e ≡ true → MayFollow h e
opens h e last moment value is =
    record { moment = omega arith; value = omega arith; later = omega arith; beside = λ no. absurd cc }

follows : (h : History) (e : Entry) → 0 < size h → last_moment h ≡ 0 → moment_of e ≡ 0 → value_of e ≡ 0 → MayFollow h e
follows h e some last moment value =
    record { moment = omega arith; value = omega arith; later = omega arith; beside = λ is. (some, moment ∙ sym last) }

pub places_untold : (terms : Side → List ℕ → Terms) → PlacesDiffer terms
places_untold terms = record {
  g = Start ▷ Boot 0 ▷ JobMade 0 [] [];
  h = Start ▷ Boot 0 ▷ Now 0 ▷ JobMade 0 [] [];
  histories = (
    ((tt, opens _ _ refl refl refl refl), follows _ _ (omega arith) refl refl refl),
    (((tt, opens _ _ refl refl refl refl), opens _ _ refl refl refl refl), follows _ _ (omega arith) refl refl refl),
  );
  kept_are = (refl, refl);
  same = refl;
  side = Job;
  id = [];
  other = λ same. let places = ap place_or same in absurd (omega (arith, places));
}
