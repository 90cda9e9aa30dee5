-- Subscriptions after each entry, and what their changes leave.
use Rattle.std.proofs.Common.{◌≡◌, ℕ, zero, suc, ◌+◌, Bool, true, false, cond, ltb, List, [], ◌∷◌, drop, slice_get, Some, None, option_map, refl, sym, ap, ◌∙◌}
use Rattle.std.specs.Prelude.{unwrap_or}
use Rattle.pm_inventory.specs.Inventory.{InventoryState}
use Rattle.pm_history.specs.declared.entry.Side.{Side}
use Rattle.pm_history.specs.declared.entry.Side.TheVariants.{Job, Monitor}
use Rattle.pm_history.specs.declared.entry.Entry.{Entry}
use Rattle.pm_history.specs.declared.entry.Entry.TheVariants.{Boot, Now, Event, JobMade, JobState, JobDeleted, MonitorMade, MonitorState, MonitorDeleted, Subscribed, Unsubscribed}
use Rattle.pm_history.specs.Entry.{change_of}
use Rattle.pm_history.specs.History.{History, ◌▷◌, grown, last_moment, IsHistory}
use Rattle.pm_history.specs.Standing.{ids_next}
use Rattle.pm_items.specs.Items.{item_of}
use Rattle.pm_items.specs.Unstored.{AreUnstored}
use Rattle.pm_jobs.specs.declared.plan.Plan.{Plan}
use Rattle.pm_jobs.specs.declared.plan.Plan.TheVariants.{Make, Same, Move, Already, Delete}
use Rattle.pm_jobs.specs.Plan.{made_entry, state_entry, deleted_entry, entries_of, id_at}
use Rattle.pm_jobs.specs.State.{JobsState}
use Rattle.pm_jobs.specs.Stands.{Stands}
use Rattle.pm_close.proofs.CloserLemmas.{closer-stays}
use Rattle.pm_notice.specs.declared.subscription.Subscription.{Subscription}
use Rattle.pm_notice.specs.declared.subscription.SubPlan.{SubPlan}
use Rattle.pm_notice.specs.declared.subscription.SubPlan.TheVariants as sub
use Rattle.pm_notice.specs.Plan.{has_id, subscription_under}
use Rattle.pm_notice.specs.StandFor.{StandFor, IsOfOthers, cursors_of, planned}
use Rattle.pm_notice.proofs.StandLemmas.{others_stay}
use Rattle.pm_state.specs.declared.closing.Closing.{Closing}
use Rattle.pm_state.specs.ChangeItem.{AreChangesAt}
use Rattle.pm_state.specs.Closing.{ClosingStands}
use Rattle.pm_state.specs.Opening.{opening_in}
use Rattle.pm_state.specs.SubsGiven.{sub_entries, cursor_under}
use Rattle.pm_state.proofs.ClosingLemmas.{files-changed, notices-changed}
use Rattle.pm_state.proofs.StateLemmas.{DoesNothing, jobs-stay}

-- ---- entries of something else

others-unstored : (h : History) (e : Entry) → item_of h e ≡ None → IsOfOthers e
others-unstored h (Boot moment) is = tt
others-unstored h (Now moment) is = tt
others-unstored h (Event moment object metric value registered) is = tt
others-unstored h (JobMade moment id body) is = tt
others-unstored h (JobState moment id unlocked) is = tt
others-unstored h (JobDeleted moment id) is = tt
others-unstored h (MonitorMade moment id body) is = tt
others-unstored h (MonitorState moment id unlocked) is = tt
others-unstored h (MonitorDeleted moment id) is = tt
others-unstored h (Subscribed moment id port path) is = absurd (cc (is))
others-unstored h (Unsubscribed moment id) is = absurd (cc (is))

pub subs-unstored : (subs : List Subscription) (h : History) (cursors : List ℕ) (es : List Entry) → AreUnstored h es → StandFor subs h cursors
    → StandFor subs (grown h es) cursors
subs-unstored subs h cursors [] are stand = stand
subs-unstored subs h cursors (e ∷ es) are stand =
    subs-unstored subs (h ▷ e) cursors es are.1 (others_stay subs h cursors e (others-unstored h e are.0.without) stand)

pub subs-opening : (subs : List Subscription) (h : History) (cursors : List ℕ) (last moment : ℕ) → StandFor subs h cursors
    → StandFor subs (h ▷ opening_in last moment) cursors
subs-opening subs h cursors last moment stand = by (ltb (last + 86400) moment)
  where
    by : (b : Bool) → StandFor subs (h ▷ cond b (Boot moment) (Now moment)) cursors
    by true = others_stay subs h cursors (Boot moment) tt stand
    by false = others_stay subs h cursors (Now moment) tt stand

-- ---- changes of jobs and monitors

made-others : (side : Side) (moment : ℕ) (id body : List ℕ) → IsOfOthers (made_entry side moment id body)
made-others Job moment id body = tt
made-others Monitor moment id body = tt

state-others : (side : Side) (moment : ℕ) (id : List ℕ) (unlocked : Bool) → IsOfOthers (state_entry side moment id unlocked)
state-others Job moment id unlocked = tt
state-others Monitor moment id unlocked = tt

deleted-others : (side : Side) (moment : ℕ) (id : List ℕ) → IsOfOthers (deleted_entry side moment id)
deleted-others Job moment id = tt
deleted-others Monitor moment id = tt

pub subs-changed : (subs : List Subscription) (h : History) (cursors : List ℕ) (jobs : JobsState) (plan : Plan) → StandFor subs h cursors
    → StandFor subs (grown h (entries_of jobs plan)) cursors
subs-changed subs h cursors jobs (Make side place s) stand =
    others_stay subs h cursors (made_entry side s.changed s.id s.body) (made-others side s.changed s.id s.body) stand
subs-changed subs h cursors jobs Same stand = stand
subs-changed subs h cursors jobs (Move side place unlocked moment) stand =
    others_stay subs h cursors (state_entry side moment (id_at jobs side place) unlocked) (state-others side moment (id_at jobs side place) unlocked) stand
subs-changed subs h cursors jobs Already stand = stand
subs-changed subs h cursors jobs (Delete side place moment) stand =
    others_stay subs h cursors (deleted_entry side moment (id_at jobs side place)) (deleted-others side moment (id_at jobs side place)) stand

-- ---- changes of subscriptions

pub served : (subs : List Subscription) (h : History) (cursors : List ℕ) → StandFor subs h cursors → StandFor subs h (cursors_of subs)
served subs h cursors stand = record { ids = stand.ids; destinations = stand.destinations; served = refl }

pub sub-grown : (subs : List Subscription) (plan : SubPlan) (moment : ℕ) (h : History) → planned subs plan moment h ≡ grown h (sub_entries subs moment plan)
sub-grown subs (sub.New s) moment h = refl
sub-grown subs sub.Same moment h = refl
sub-grown subs (sub.Deleted place) moment h = refl

pub sub-at : (subs : List Subscription) (plan : SubPlan) (moment : ℕ) → AreChangesAt moment (sub_entries subs moment plan)
sub-at subs (sub.New s) moment = (record { moment_is = refl; beside = refl; value = refl; no_event = refl; goes_on = λ h. refl }, tt)
sub-at subs sub.Same moment = tt
sub-at subs (sub.Deleted place) moment = (record { moment_is = refl; beside = refl; value = refl; no_event = refl; goes_on = λ h. refl }, tt)

subscribed-nothing : (moment : ℕ) (id : List ℕ) (port : ℕ) (path : List ℕ) → DoesNothing (Subscribed moment id port path)
subscribed-nothing moment id port path = record { none = none; ids = ids }
  where
    none : (side : Side) (i : List ℕ) → change_of side i (Subscribed moment id port path) ≡ None
    none Job i = refl
    none Monitor i = refl

    ids : (side : Side) (is : List (List ℕ)) → ids_next side is (Subscribed moment id port path) ≡ is
    ids Job is = refl
    ids Monitor is = refl

unsubscribed-nothing : (moment : ℕ) (id : List ℕ) → DoesNothing (Unsubscribed moment id)
unsubscribed-nothing moment id = record { none = none; ids = ids }
  where
    none : (side : Side) (i : List ℕ) → change_of side i (Unsubscribed moment id) ≡ None
    none Job i = refl
    none Monitor i = refl

    ids : (side : Side) (is : List (List ℕ)) → ids_next side is (Unsubscribed moment id) ≡ is
    ids Job is = refl
    ids Monitor is = refl

pub sub-jobs : (inventory : InventoryState) (jobs : JobsState) (h : History) (subs : List Subscription) (plan : SubPlan) (moment : ℕ)
    → Stands inventory jobs h → Stands inventory jobs (grown h (sub_entries subs moment plan))
sub-jobs inventory jobs h subs (sub.New s) moment stands = jobs-stay inventory jobs h _ (subscribed-nothing moment s.id s.port s.path) stands
sub-jobs inventory jobs h subs sub.Same moment stands = stands
sub-jobs inventory jobs h subs (sub.Deleted place) moment stands = jobs-stay inventory jobs h _ (unsubscribed-nothing moment _) stands

pub sub-closing : (inventory : InventoryState) (jobs : JobsState) (h : History) (subs : List Subscription) (plan : SubPlan) (moment : ℕ)
    (closing : Closing) → moment ≡ last_moment h → IsHistory (grown h (sub_entries subs moment plan)) → ClosingStands inventory jobs h closing
    → ClosingStands inventory jobs (grown h (sub_entries subs moment plan)) closing
sub-closing inventory jobs h subs (sub.New s) moment closing is history stand = record {
  closer = closer-stays.subscribed inventory jobs h moment s.id s.port s.path closing.closer history.1 stand.closer;
  files = files-changed inventory h moment (sub_entries subs moment (sub.New s)) closing.files.files is (sub-at subs (sub.New s) moment) stand.files;
  notices = notices-changed inventory h moment (sub_entries subs moment (sub.New s)) closing.notices is (sub-at subs (sub.New s) moment) stand.notices;
}
sub-closing inventory jobs h subs sub.Same moment closing is history stand = stand
sub-closing inventory jobs h subs (sub.Deleted place) moment closing is history stand = record {
  closer = closer-stays.unsubscribed inventory jobs h moment _ closing.closer history.1 stand.closer;
  files = files-changed inventory h moment (sub_entries subs moment (sub.Deleted place)) closing.files.files is (sub-at subs (sub.Deleted place) moment) stand.files;
  notices = notices-changed inventory h moment (sub_entries subs moment (sub.Deleted place)) closing.notices is (sub-at subs (sub.Deleted place) moment) stand.notices;
}

-- ---- the subscription under an id

some-is : {A : Type 0} (x y : A) → Some x ≡ Some y → x ≡ y
some-is x y is = cc (is)

find-here : (subs : List Subscription) (id : List ℕ) (place : ℕ) (s : Subscription) → slice_get subs place ≡ Some s → has_id id s ≡ true
    → subscription_under id (drop place subs) ≡ Some s
find-here [] id place s at holds = absurd (cc (at))
find-here (x ∷ xs) id zero s at holds = by (has_id id x) refl
  where
    same : x ≡ s
    same = some-is x s at

    by : (b : Bool) → has_id id x ≡ b → cond b (Some x) (subscription_under id xs) ≡ Some s
    by true is = ap (λ y. Some y) same
    by false is = absurd (cc (is, same, holds))
find-here (x ∷ xs) id (suc place) s at holds = find-here xs id place s at holds

pub cursor-here : (subs : List Subscription) (id : List ℕ) (place : ℕ) (s : Subscription) → slice_get subs place ≡ Some s → has_id id s ≡ true
    → subscription_under id (drop place subs) ≡ subscription_under id subs → s.cursor ≡ cursor_under subs id
cursor-here subs id place s at holds same =
    sym (ap (λ o. unwrap_or (option_map (λ (x : Subscription). x.cursor) o) 0) (sym same ∙ find-here subs id place s at holds))
