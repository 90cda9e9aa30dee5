-- What stands for a history stands for it with one more entry, once the change that the entry is was made.
use Rattle.std.proofs.Common.{◌≡◌, ℕ, zero, suc, ◌<◌, Bool, true, false, List, [], ◌∷◌, length, get_or, Option, Some, None, sym, ap, ◌∙◌, arith}
use Rattle.std.proofs.lemmas.List.{length-map}
use Rattle.std.specs.List.{insert, remove, list_any, AllByRecursion}
use Rattle.std.specs.Option.{option_map}
use Rattle.std.specs.Str.{bytes_eq}
use Rattle.std.proofs.lemmas.Option.{same_Some}
use Rattle.pm_history.specs.declared.entry.Side.{Side}
use Rattle.pm_history.specs.declared.entry.Side.TheVariants.{Job, Monitor}
use Rattle.pm_history.specs.declared.entry.Entry.{Entry}
use Rattle.pm_history.specs.Entry.{Change, Made, Moved, Deleted, moment_of, change_of}
use Rattle.pm_history.specs.History.{History, ◌▷◌}
use Rattle.pm_history.specs.Standing as history
use Rattle.pm_inventory.specs.Inventory.{InventoryState}
use Rattle.pm_asked.specs.Asked.{terms_of, or_no_terms, job_terms, monitor_terms}
use Rattle.pm_asked.specs.Body.{JobBody, MonitorBody}
use Rattle.pm_asked.specs.BodyReading.{job_body, monitor_body}
use Rattle.pm_jobs.specs.declared.standing.Standing.{Standing}
use Rattle.pm_jobs.specs.Asked.{Asked, asked_of, job_asked, monitor_asked}
use Rattle.pm_jobs.specs.State.{ids, AreApart}
use Rattle.pm_jobs.specs.Stands.{Keeps, Told, told, told_of, StandsFor}
use Rattle.pm_jobs.specs.Plan.{with_state, moved_at, IsNew}
use Rattle.pm_jobs.proofs.ItemLemmas.{neither, sym_eq}
use Rattle.pm_jobs.proofs.IdLemmas.{any_at}

-- An entry that does this to what stands under an id of a side, and nothing under another id.
pub record Does (side : Side) (id : List ℕ) (change : Change) (e : Entry) : Type 0 where
  pub here : change_of side id e ≡ Some change
  pub elsewhere : (other : List ℕ) → bytes_eq id other ≡ false → change_of side other e ≡ None

-- What an item keeps in another state.
pub moved-keeps : (inventory : InventoryState) (side : Side) (s : Standing) (moment : ℕ) (unlocked : Bool) → Keeps inventory side s
    → Keeps inventory side (with_state moment unlocked s)
moved-keeps inventory side s moment unlocked keeps = record {
  named = keeps.named;
  asked = keeps.asked;
  says = keeps.says;
  permitted = keeps.permitted;
  fits = record {
    granularity = keeps.fits.granularity;
    period = keeps.fits.period;
    reporting = keeps.fits.reporting;
    metrics = keeps.fits.metrics;
    objects = keeps.fits.objects;
    limits = keeps.fits.limits;
    load = keeps.fits.load;
  };
}

module _ (inventory : InventoryState) (side : Side) (h : History) (e : Entry) where
  -- ---- items that the entry doesn't change

  pub stays : (s : Standing) → change_of side s.id e ≡ None → StandsFor inventory side h s → StandsFor inventory side (h ▷ e) s
  stays s none is = record { told = rw none is.told; keeps = is.keeps }

  pub all_stay : (items : List Standing) → ((id : List ℕ) → change_of side id e ≡ None) → AllByRecursion (StandsFor inventory side h) items
      → AllByRecursion (StandsFor inventory side (h ▷ e)) items
  all_stay [] none all = all
  all_stay (s ∷ ss) none all = (stays s (none s.id) all.0, all_stay ss none all.1)

  pub others_stay : (items : List Standing) (id : List ℕ) (change : Change) → Does side id change e → list_any (bytes_eq id) (ids items) ≡ false
      → AllByRecursion (StandsFor inventory side h) items → AllByRecursion (StandsFor inventory side (h ▷ e)) items
  others_stay [] id change does other all = all
  others_stay (s ∷ ss) id change does other all =
      let both = neither (bytes_eq id s.id) (list_any (bytes_eq id) (ids ss)) other in
      (stays s (does.elsewhere s.id both.0) all.0, others_stay ss id change does both.1 all.1)

  -- ---- another state

  told-moved : (o : Option history.Standing) (s : Standing) (moment : ℕ) (unlocked : Bool) → option_map told o ≡ Some (told_of s)
      → option_map told (option_map (history.moved moment unlocked) o) ≡ Some (told_of (with_state moment unlocked s))
  told-moved None s moment unlocked is = cc
  told-moved (Some d) s moment true is =
      ap (λ (t : Told). Some (record { body = t.body; unlocked = true; changed = moment; armed = moment })) (same_Some (told d) (told_of s) is)
  told-moved (Some d) s moment false is =
      ap (λ (t : Told). Some (record { body = t.body; unlocked = false; changed = moment; armed = t.armed })) (same_Some (told d) (told_of s) is)

  pub moves : (s : Standing) (unlocked : Bool) → change_of side s.id e ≡ Some (Moved unlocked) → StandsFor inventory side h s
      → StandsFor inventory side (h ▷ e) (with_state (moment_of e) unlocked s)
  moves s unlocked does is = record {
    told = rw does (told-moved (history.standing_after (terms_of inventory) side h s.id) s (moment_of e) unlocked is.told);
    keeps = moved-keeps inventory side s (moment_of e) unlocked is.keeps;
  }

  pub all_move : (items : List Standing) (place : ℕ) (unlocked : Bool) → AreApart (ids items) → place < length items
      → Does side (get_or (ids items) place []) (Moved unlocked) e → AllByRecursion (StandsFor inventory side h) items
      → AllByRecursion (StandsFor inventory side (h ▷ e)) (moved_at (moment_of e) unlocked place items)
  all_move [] place unlocked apart lt does all = absurd (omega arith)
  all_move (s ∷ ss) zero unlocked apart lt does all =
      (moves s unlocked does.here all.0, others_stay ss s.id (Moved unlocked) does apart.0 all.1)
  all_move (s ∷ ss) (suc place) unlocked apart lt does all =
      let within : place < length ss = omega (arith, lt) in
      let other = any_at s.id (ids ss) place (within_ids ss place within) apart.0 in
      (stays s (does.elsewhere s.id (sym_eq _ s.id ∙ other)) all.0, all_move ss place unlocked apart.1 within does all.1)
    where
      within_ids : (items : List Standing) (n : ℕ) → n < length items → n < length (ids items)
      within_ids items n lt = rw (length-map items (λ (t : Standing). t.id)) lt

  -- ---- one less

  pub all_but_one : (items : List Standing) (place : ℕ) → AreApart (ids items) → place < length items
      → Does side (get_or (ids items) place []) Deleted e → AllByRecursion (StandsFor inventory side h) items
      → AllByRecursion (StandsFor inventory side (h ▷ e)) (remove items place)
  all_but_one [] place apart lt does all = absurd (omega arith)
  all_but_one (s ∷ ss) zero apart lt does all = others_stay ss s.id Deleted does apart.0 all.1
  all_but_one (s ∷ ss) (suc place) apart lt does all =
      let within : place < length ss = omega (arith, lt) in
      let other = any_at s.id (ids ss) place (rw (length-map ss (λ (t : Standing). t.id)) within) apart.0 in
      (stays s (does.elsewhere s.id (sym_eq _ s.id ∙ other)) all.0, all_but_one ss place apart.1 within does all.1)

  -- ---- one more

  job-unlocked : (o : Option JobBody) (asked : Asked) → option_map job_asked o ≡ Some asked → (or_no_terms (job_terms inventory) o).unlocked ≡ asked.unlocked
  job-unlocked None asked is = cc
  job-unlocked (Some body) asked is = ap (λ (a : Asked). a.unlocked) (same_Some (job_asked body) asked is)

  monitor-unlocked : (o : Option MonitorBody) (asked : Asked) → option_map monitor_asked o ≡ Some asked → (or_no_terms (monitor_terms inventory) o).unlocked ≡ asked.unlocked
  monitor-unlocked None asked is = cc
  monitor-unlocked (Some body) asked is = ap (λ (a : Asked). a.unlocked) (same_Some (monitor_asked body) asked is)

  unlocked_as_made : (of : Side) (text : List ℕ) (asked : Asked) → asked_of of text ≡ Some asked → (terms_of inventory of text).unlocked ≡ asked.unlocked
  unfolding terms_of
  unlocked_as_made Job text asked is = job-unlocked (job_body text) asked is
  unlocked_as_made Monitor text asked is = monitor-unlocked (monitor_body text) asked is

  pub makes : (s : Standing) → change_of side s.id e ≡ Some (Made s.body) → moment_of e ≡ s.changed → IsNew inventory side s → StandsFor inventory side (h ▷ e) s
  makes s does at new = record {
    told = rw (does, at, unlocked_as_made side s.body new.keeps.asked new.keeps.says, ← new.unlocked)
        (ap (λ n. Some (record { body = s.body; unlocked = s.unlocked; changed = s.changed; armed = n })) (sym new.armed));
    keeps = new.keeps;
  }

  all-insert : (items : List Standing) (place : ℕ) (s : Standing) → AllByRecursion (StandsFor inventory side (h ▷ e)) items → StandsFor inventory side (h ▷ e) s
      → AllByRecursion (StandsFor inventory side (h ▷ e)) (insert items place s)
  all-insert items zero s all own = (own, all)
  all-insert [] (suc place) s all own = (own, all)
  all-insert (t ∷ ts) (suc place) s all own = (all.0, all-insert ts place s all.1 own)

  pub one_more : (items : List Standing) (place : ℕ) (s : Standing) → Does side s.id (Made s.body) e → moment_of e ≡ s.changed → IsNew inventory side s
      → list_any (bytes_eq s.id) (ids items) ≡ false → AllByRecursion (StandsFor inventory side h) items
      → AllByRecursion (StandsFor inventory side (h ▷ e)) (insert items place s)
  one_more items place s does at new fresh all =
      all-insert items place s (others_stay items s.id (Made s.body) does fresh all) (makes s does.here at new)
