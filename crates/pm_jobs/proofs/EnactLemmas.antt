-- The jobs and monitors that stand for a history, once a plan is enacted.
use Rattle.std.proofs.Common.{◌≡◌, ℕ, ◌<◌, Bool, List, [], length, get_or, refl, sym, ap, ◌∙◌}
use Rattle.std.specs.List.{insert, remove}
use Rattle.std.proofs.lemmas.List.{length-map}
use Rattle.pm_history.specs.declared.entry.Side.{Side}
use Rattle.pm_history.specs.declared.entry.Side.TheVariants.{Job, Monitor}
use Rattle.pm_history.specs.Entry.{Made, Moved, Deleted}
use Rattle.pm_history.specs.History.{History, ◌▷◌}
use Rattle.pm_history.specs.Standing as history
use Rattle.pm_inventory.specs.Inventory.{InventoryState}
use Rattle.pm_jobs.specs.declared.standing.Standing.{Standing}
use Rattle.pm_jobs.specs.State.{JobsState, on, with_on, ids, ids_on, AreApart}
use Rattle.pm_jobs.specs.Stands.{Stands}
use Rattle.pm_jobs.specs.Plan.{HasRoom, IsNew, moved_at, id_at, made_entry, state_entry, deleted_entry}
use Rattle.pm_jobs.proofs.ItemLemmas.{ids-insert, ids-remove, ids-moved_at}
use Rattle.pm_jobs.proofs.IdLemmas.{own_id, with-place, without-place}
use Rattle.pm_jobs.proofs.StandsLemmas.{Does, all_stay, one_more, all_move, all_but_one}

-- ---- the entries

made_does : (side : Side) (moment : ℕ) (id body : List ℕ) → Does side id (Made body) (made_entry side moment id body)
made_does Job moment id body = record { here = rw (own_id id) refl; elsewhere = λ other ne. rw ne refl }
made_does Monitor moment id body = record { here = rw (own_id id) refl; elsewhere = λ other ne. rw ne refl }

state_does : (side : Side) (moment : ℕ) (id : List ℕ) (unlocked : Bool) → Does side id (Moved unlocked) (state_entry side moment id unlocked)
state_does Job moment id unlocked = record { here = rw (own_id id) refl; elsewhere = λ other ne. rw ne refl }
state_does Monitor moment id unlocked = record { here = rw (own_id id) refl; elsewhere = λ other ne. rw ne refl }

deleted_does : (side : Side) (moment : ℕ) (id : List ℕ) → Does side id Deleted (deleted_entry side moment id)
deleted_does Job moment id = record { here = rw (own_id id) refl; elsewhere = λ other ne. rw ne refl }
deleted_does Monitor moment id = record { here = rw (own_id id) refl; elsewhere = λ other ne. rw ne refl }

-- ---- what stands

pub makes : (inventory : InventoryState) (jobs : JobsState) (h : History) (side : Side) (place : ℕ) (s : Standing)
    → HasRoom jobs side place s → IsNew inventory side s → Stands inventory jobs h
    → Stands inventory (with_on side (insert (on side jobs) place s) jobs) (h ▷ made_entry side s.changed s.id s.body)
makes inventory jobs h Job place s room new is =
    let e = made_entry Job s.changed s.id s.body in
    record {
      of_jobs = record {
        listed = ids-insert jobs.jobs place s ∙ ap (λ n. insert (ids jobs.jobs) n s.id) room.at ∙ sym (with-place s.id (ids jobs.jobs) room.fresh)
            ∙ ap (history.with_id s.id) is.of_jobs.listed;
        each = one_more inventory Job h e jobs.jobs place s (made_does Job s.changed s.id s.body) refl new room.fresh is.of_jobs.each;
      };
      of_monitors = record {
        listed = is.of_monitors.listed;
        each = all_stay inventory Monitor h e jobs.monitors (λ id. refl) is.of_monitors.each;
      };
    }
makes inventory jobs h Monitor place s room new is =
    let e = made_entry Monitor s.changed s.id s.body in
    record {
      of_jobs = record {
        listed = is.of_jobs.listed;
        each = all_stay inventory Job h e jobs.jobs (λ id. refl) is.of_jobs.each;
      };
      of_monitors = record {
        listed = ids-insert jobs.monitors place s ∙ ap (λ n. insert (ids jobs.monitors) n s.id) room.at
            ∙ sym (with-place s.id (ids jobs.monitors) room.fresh) ∙ ap (history.with_id s.id) is.of_monitors.listed;
        each = one_more inventory Monitor h e jobs.monitors place s (made_does Monitor s.changed s.id s.body) refl new room.fresh is.of_monitors.each;
      };
    }

pub moves : (inventory : InventoryState) (jobs : JobsState) (h : History) (side : Side) (place moment : ℕ) (unlocked : Bool)
    → AreApart (ids_on side jobs) → place < length (on side jobs) → Stands inventory jobs h
    → Stands inventory (with_on side (moved_at moment unlocked place (on side jobs)) jobs) (h ▷ state_entry side moment (id_at jobs side place) unlocked)
moves inventory jobs h Job place moment unlocked apart within is =
    let id = id_at jobs Job place in
    let e = state_entry Job moment id unlocked in
    record {
      of_jobs = record {
        listed = ids-moved_at moment unlocked place jobs.jobs ∙ is.of_jobs.listed;
        each = all_move inventory Job h e jobs.jobs place unlocked apart within (state_does Job moment id unlocked) is.of_jobs.each;
      };
      of_monitors = record {
        listed = is.of_monitors.listed;
        each = all_stay inventory Monitor h e jobs.monitors (λ other. refl) is.of_monitors.each;
      };
    }
moves inventory jobs h Monitor place moment unlocked apart within is =
    let id = id_at jobs Monitor place in
    let e = state_entry Monitor moment id unlocked in
    record {
      of_jobs = record {
        listed = is.of_jobs.listed;
        each = all_stay inventory Job h e jobs.jobs (λ other. refl) is.of_jobs.each;
      };
      of_monitors = record {
        listed = ids-moved_at moment unlocked place jobs.monitors ∙ is.of_monitors.listed;
        each = all_move inventory Monitor h e jobs.monitors place unlocked apart within (state_does Monitor moment id unlocked) is.of_monitors.each;
      };
    }

within_ids : (items : List Standing) (place : ℕ) → place < length items → place < length (ids items)
within_ids items place lt = rw (length-map items (λ (t : Standing). t.id)) lt

one_less : (items : List Standing) (place : ℕ) (all : List (List ℕ)) → AreApart (ids items) → place < length items → ids items ≡ all
    → ids (remove items place) ≡ history.without_id (get_or (ids items) place []) all
one_less items place all apart within is =
    ids-remove items place ∙ sym (without-place (ids items) place apart (within_ids items place within))
    ∙ ap (history.without_id (get_or (ids items) place [])) is

pub deletes : (inventory : InventoryState) (jobs : JobsState) (h : History) (side : Side) (place moment : ℕ)
    → AreApart (ids_on side jobs) → place < length (on side jobs) → Stands inventory jobs h
    → Stands inventory (with_on side (remove (on side jobs) place) jobs) (h ▷ deleted_entry side moment (id_at jobs side place))
deletes inventory jobs h Job place moment apart within is =
    let id = id_at jobs Job place in
    let e = deleted_entry Job moment id in
    record {
      of_jobs = record {
        listed = one_less jobs.jobs place _ apart within is.of_jobs.listed;
        each = all_but_one inventory Job h e jobs.jobs place apart within (deleted_does Job moment id) is.of_jobs.each;
      };
      of_monitors = record {
        listed = is.of_monitors.listed;
        each = all_stay inventory Monitor h e jobs.monitors (λ other. refl) is.of_monitors.each;
      };
    }
deletes inventory jobs h Monitor place moment apart within is =
    let id = id_at jobs Monitor place in
    let e = deleted_entry Monitor moment id in
    record {
      of_jobs = record {
        listed = is.of_jobs.listed;
        each = all_stay inventory Job h e jobs.jobs (λ other. refl) is.of_jobs.each;
      };
      of_monitors = record {
        listed = one_less jobs.monitors place _ apart within is.of_monitors.listed;
        each = all_but_one inventory Monitor h e jobs.monitors place apart within (deleted_does Monitor moment id) is.of_monitors.each;
      };
    }
