-- What a plan gives is what the request is given.
use Rattle.pm_jobs.specs.declared.error.JobError.{JobError}
use Rattle.pm_jobs.specs.declared.error.JobError.TheVariants.{J1, J2, J3, J4, J5, J6, J7, J8, J9, J10, J11, J12, Memory}
use Rattle.std.proofs.Common.{◌≡◌, ℕ, Bool, true, false, List, [], ◌∷◌, Option, Some, None, Err, inl, inr, refl, sym, ap, ◌∙◌, subst}
use Rattle.std.specs.Prelude.{slice_get}
use Rattle.std.proofs.lemmas.Option.{get_or_from_slice_get}
use Rattle.pm_history.specs.declared.entry.Side.{Side}
use Rattle.pm_history.specs.declared.entry.Side.TheVariants.{Job, Monitor}
use Rattle.pm_inventory.specs.Inventory.{InventoryState}
use Rattle.pm_jobs.specs.declared.ask.Ask.{Ask}
use Rattle.pm_jobs.specs.declared.ask.Ask.TheVariants as ask
use Rattle.pm_jobs.specs.declared.plan.Plan.{Plan}
use Rattle.pm_jobs.specs.declared.plan.Plan.TheVariants.{Make, Same, Move, Already, Delete}
use Rattle.pm_jobs.specs.Asked.{Asked, asked_of}
use Rattle.pm_jobs.specs.JobCode.{job_code}
use Rattle.pm_jobs.specs.Plan.{Answers, IsPlan, Creates, Moves, Deletes, IsAt, state_under, id_at, entries_of, made_entry, state_entry, deleted_entry, Suits, IsOver}
use Rattle.pm_jobs.specs.Reading.{state_body}
use Rattle.pm_jobs.specs.Rules.{refusal}
use Rattle.pm_jobs.specs.Shown.{shown_text, shown_in}
use Rattle.pm_jobs.specs.State.{JobsState, ids_on}
use Rattle.pm_close.specs.declared.closer.Closer.{Closer}
use Rattle.pm_close.specs.Closer.{IsPrepared}
use Rattle.pm_state.specs.declared.change.Change.{Change}
use Rattle.pm_state.specs.Given.{Given, ok, or_empty, refused}
use Rattle.pm_state.specs.ChangeItem.{AreItemsOf, IsChangeAt, AreChangesAt}
use Rattle.pm_state.specs.Changes.{change_given, by_rule, created, moved_from, deleted}
use Rattle.pm_state.specs.Planned.{planned, planned_entries, id_of, IsPlanned, IsChange, IsLook}

-- What a plan gives, and its entries by the id and by the place.
record IsOne (jobs : JobsState) (moment : ℕ) (side : Side) (id : List ℕ) (given : Given) (plan : Plan) : Type 0 where
  given_is : given ≡ planned jobs side id plan
  entries_are : planned_entries id plan ≡ entries_of jobs plan
  at : AreChangesAt moment (planned_entries id plan)

by_place : (jobs : JobsState) (s side : Side) (id : List ℕ) (place : ℕ) → s ≡ side → IsAt jobs side id place → id_at jobs s place ≡ id
by_place jobs s side id place same at =
    get_or_from_slice_get (ids_on s jobs) place id [] (subst (λ (x : Side). slice_get (ids_on x jobs) place ≡ Some id) (sym same) at)

-- The entries are changes at the moment of the request.
made_at : (side : Side) (at moment : ℕ) (id body : List ℕ) → at ≡ moment → IsChangeAt moment (made_entry side at id body)
made_at Job at moment id body is = record { moment_is = is; beside = refl; value = refl; no_event = refl; goes_on = λ h. refl }
made_at Monitor at moment id body is = record { moment_is = is; beside = refl; value = refl; no_event = refl; goes_on = λ h. refl }

state_at : (side : Side) (at moment : ℕ) (id : List ℕ) (unlocked : Bool) → at ≡ moment → IsChangeAt moment (state_entry side at id unlocked)
state_at Job at moment id unlocked is = record { moment_is = is; beside = refl; value = refl; no_event = refl; goes_on = λ h. refl }
state_at Monitor at moment id unlocked is = record { moment_is = is; beside = refl; value = refl; no_event = refl; goes_on = λ h. refl }

deleted_at : (side : Side) (at moment : ℕ) (id : List ℕ) → at ≡ moment → IsChangeAt moment (deleted_entry side at id)
deleted_at Job at moment id is = record { moment_is = is; beside = refl; value = refl; no_event = refl; goes_on = λ h. refl }
deleted_at Monitor at moment id is = record { moment_is = is; beside = refl; value = refl; no_event = refl; goes_on = λ h. refl }

created_is : (inventory : InventoryState) (jobs : JobsState) (moment : ℕ) (side : Side) (id : List ℕ) (o : Option Asked) (plan : Plan)
    → Creates inventory jobs moment side id o plan → IsOne jobs moment side id (created jobs moment side id o) plan
created_is inventory jobs moment side id (Some asked) (Make s place st) is =
    let same = sym is.0 in
    let made = is.3 in
    record {
      given_is = rw is.2 (λ i. record {
        reply = ok 201 (or_empty (shown_text (same i) (sym made.named i) (sym made.body i) (sym made.unlocked i)));
        entries = made_entry (same i) (sym made.changed i) (sym made.named i) (sym made.body i) ∷ [];
      });
      entries_are = refl;
      at = (made_at s st.changed moment st.id st.body made.changed, tt);
    }
created_is inventory jobs moment side id (Some asked) Same is = record { given_is = rw is refl; entries_are = refl; at = tt }
created_is inventory jobs moment side id (Some asked) (Move s place unlocked at) is = absurd is
created_is inventory jobs moment side id (Some asked) Already is = absurd is
created_is inventory jobs moment side id (Some asked) (Delete s place at) is = absurd is
created_is inventory jobs moment side id None plan is = absurd is

moved_is : (jobs : JobsState) (moment : ℕ) (side : Side) (id : List ℕ) (o : Option Bool) (plan : Plan) → Moves jobs moment side id o plan
    → IsOne jobs moment side id (moved_from jobs moment side id o (state_under jobs side id)) plan
moved_is jobs moment side id (Some true) (Move s place to at) is = record {
  given_is = rw is.4 (λ i. record { reply = ok 200 (or_empty (shown_in jobs side id (sym is.1 i))); entries = state_entry (sym is.0 i) (sym is.2 i) id (sym is.1 i) ∷ [] });
  entries_are = λ i. state_entry s at (sym (by_place jobs s side id place is.0 is.3) i) to ∷ [];
  at = (state_at s at moment id to is.2, tt);
}
moved_is jobs moment side id (Some false) (Move s place to at) is = record {
  given_is = rw is.4 (λ i. record { reply = ok 200 (or_empty (shown_in jobs side id (sym is.1 i))); entries = state_entry (sym is.0 i) (sym is.2 i) id (sym is.1 i) ∷ [] });
  entries_are = λ i. state_entry s at (sym (by_place jobs s side id place is.0 is.3) i) to ∷ [];
  at = (state_at s at moment id to is.2, tt);
}
moved_is jobs moment side id (Some true) Already is = record { given_is = rw is refl; entries_are = refl; at = tt }
moved_is jobs moment side id (Some false) Already is = record { given_is = rw is refl; entries_are = refl; at = tt }
moved_is jobs moment side id (Some u) (Make s place st) is = absurd is
moved_is jobs moment side id (Some u) Same is = absurd is
moved_is jobs moment side id (Some u) (Delete s place at) is = absurd is
moved_is jobs moment side id None plan is = absurd is

deleted_is : (jobs : JobsState) (moment : ℕ) (side : Side) (id : List ℕ) (plan : Plan) → Deletes jobs moment side id plan
    → IsOne jobs moment side id (deleted moment side id) plan
deleted_is jobs moment side id (Delete s place at) is = record {
  given_is = λ i. record { reply = ok 204 []; entries = deleted_entry (sym is.0 i) (sym is.1 i) id ∷ [] };
  entries_are = λ i. deleted_entry s at (sym (by_place jobs s side id place is.0 is.2) i) ∷ [];
  at = (deleted_at s at moment id is.1, tt);
}
deleted_is jobs moment side id (Make s place st) is = absurd is
deleted_is jobs moment side id Same is = absurd is
deleted_is jobs moment side id (Move s place unlocked at) is = absurd is
deleted_is jobs moment side id Already is = absurd is

-- What is given where no rule is broken.
abbrev change_allowed : JobsState → ℕ → Side → Ask → Given
change_allowed jobs moment side (ask.Create id body) = created jobs moment side id.now (asked_of side body.now)
change_allowed jobs moment side (ask.State id body) = moved_from jobs moment side id.now (state_body body.now) (state_under jobs side id.now)
change_allowed jobs moment side (ask.Delete id) = deleted moment side id.now

by_rules : (inventory : InventoryState) (jobs : JobsState) (moment : ℕ) (side : Side) (a : Ask)
    → change_given inventory jobs moment side a ≡ by_rule (refusal inventory jobs side a) (change_allowed jobs moment side a)
by_rules inventory jobs moment side (ask.Create id body) = refl
by_rules inventory jobs moment side (ask.State id body) = refl
by_rules inventory jobs moment side (ask.Delete id) = refl

allowed_is : (inventory : InventoryState) (jobs : JobsState) (moment : ℕ) (side : Side) (a : Ask) (plan : Plan)
    → IsPlan inventory jobs moment side a plan → IsOne jobs moment side (id_of a) (change_allowed jobs moment side a) plan
allowed_is inventory jobs moment side (ask.Create id body) plan is = created_is inventory jobs moment side id.now (asked_of side body.now) plan is
allowed_is inventory jobs moment side (ask.State id body) plan is = moved_is jobs moment side id.now (state_body body.now) plan is
allowed_is inventory jobs moment side (ask.Delete id) plan is = deleted_is jobs moment side id.now plan is

-- A plan of what a request comes to, with what it gives, is the change that the request is given.
pub is_change : (inventory : InventoryState) (jobs : JobsState) (closer : Closer) (moment : ℕ) (side : Side) (a : Ask) (plan : Plan) (change : Change)
    → refusal inventory jobs side a ≡ None → IsPlan inventory jobs moment side a plan → Suits jobs plan → IsOver inventory plan
    → IsPlanned jobs side (id_of a) plan change → IsPrepared inventory closer plan change.made
    → IsChange inventory jobs closer moment (change_given inventory jobs moment side a) change
is_change inventory jobs closer moment side a plan change none is suits over planned made =
    let one = allowed_is inventory jobs moment side a plan is in
    let given_is = by_rules inventory jobs moment side a ∙ (ap (λ o. by_rule o (change_allowed jobs moment side a)) none ∙ one.given_is) in
    record {
      suits = subst (Suits jobs) (sym planned.plan_is) suits;
      made = subst (λ (p : Plan). IsPrepared inventory closer p change.made) (sym planned.plan_is) made;
      over = subst (IsOver inventory) (sym planned.plan_is) over;
      reply = ap (λ (g : Given). g.reply) given_is ∙ sym planned.reply;
      entries = ap (λ (g : Given). g.entries) given_is ∙ (one.entries_are ∙ ap (entries_of jobs) (sym planned.plan_is));
      item = subst (AreItemsOf inventory change.item) (sym (ap (λ (g : Given). g.entries) given_is)) (planned.item inventory);
      at = subst (AreChangesAt moment) (sym (ap (λ (g : Given). g.entries) given_is)) one.at;
    }

-- A rule that is broken is told, or there is no memory to say.
pub is_refused : (inventory : InventoryState) (jobs : JobsState) (moment : ℕ) (side : Side) (a : Ask) (is : Plan → Type 0) (e : JobError)
    → Answers (Err e) (refusal inventory jobs side a) is → IsLook (change_given inventory jobs moment side a) (refused (job_code e))
is_refused inventory jobs moment side a is Memory answers = inl refl
is_refused inventory jobs moment side a is J1 answers = inr (by_rules inventory jobs moment side a ∙ ap (λ o. by_rule o (change_allowed jobs moment side a)) answers)
is_refused inventory jobs moment side a is J2 answers = inr (by_rules inventory jobs moment side a ∙ ap (λ o. by_rule o (change_allowed jobs moment side a)) answers)
is_refused inventory jobs moment side a is J3 answers = inr (by_rules inventory jobs moment side a ∙ ap (λ o. by_rule o (change_allowed jobs moment side a)) answers)
is_refused inventory jobs moment side a is J4 answers = inr (by_rules inventory jobs moment side a ∙ ap (λ o. by_rule o (change_allowed jobs moment side a)) answers)
is_refused inventory jobs moment side a is J5 answers = inr (by_rules inventory jobs moment side a ∙ ap (λ o. by_rule o (change_allowed jobs moment side a)) answers)
is_refused inventory jobs moment side a is J6 answers = inr (by_rules inventory jobs moment side a ∙ ap (λ o. by_rule o (change_allowed jobs moment side a)) answers)
is_refused inventory jobs moment side a is J7 answers = inr (by_rules inventory jobs moment side a ∙ ap (λ o. by_rule o (change_allowed jobs moment side a)) answers)
is_refused inventory jobs moment side a is J8 answers = inr (by_rules inventory jobs moment side a ∙ ap (λ o. by_rule o (change_allowed jobs moment side a)) answers)
is_refused inventory jobs moment side a is J9 answers = inr (by_rules inventory jobs moment side a ∙ ap (λ o. by_rule o (change_allowed jobs moment side a)) answers)
is_refused inventory jobs moment side a is J10 answers = inr (by_rules inventory jobs moment side a ∙ ap (λ o. by_rule o (change_allowed jobs moment side a)) answers)
is_refused inventory jobs moment side a is J11 answers = inr (by_rules inventory jobs moment side a ∙ ap (λ o. by_rule o (change_allowed jobs moment side a)) answers)
is_refused inventory jobs moment side a is J12 answers = inr (by_rules inventory jobs moment side a ∙ ap (λ o. by_rule o (change_allowed jobs moment side a)) answers)
