-- What an engine and its disk stand for, after each step.
use Rattle.std.proofs.Common.{◌≡◌, ◌≢◌, inl, inr, ℕ, ◌<◌, ◌≤◌, Bool, true, false, cond, if◌then◌else◌, List, [], ◌∷◌, Option, Some, None, Result, Ok, Err, IfOk, MatchOption, refl, sym, ap, ◌∙◌, subst, arith, le-ltb, lt-ltb}
use Rattle.pm_base.specs.Moment.{IsMoment}
use Rattle.pm_disk.specs.Moments.{DiskState, Told, Throughout}
use Rattle.pm_disk.proofs.MomentLemmas.{at_rest}
use Rattle.pm_inventory.specs.Inventory.{InventoryState}
use Rattle.pm_history.specs.declared.entry.Entry.{Entry}
use Rattle.pm_history.specs.History.{History, ◌▷◌, grown, size, last_moment, IsHistory}
use Rattle.pm_items.specs.Items.{kept, items_of}
use Rattle.pm_items.specs.Kept.{IsBeginning}
use Rattle.pm_items.proofs.KeptLemmas.{items-none, kept-none}
use Rattle.pm_items.proofs.PrefixLemmas.{kept_grows}
use Rattle.pm_jobs.specs.State.{JobsState}
use Rattle.pm_jobs.specs.Stands.{Stands}
use Rattle.pm_ledger.specs.declared.ledger.Ledger.{Ledger}
use Rattle.pm_ledger.specs.Between.{EachBetween}
use Rattle.pm_ledger.specs.Ledger.{IsLedgerOf, IsReady}
use Rattle.pm_ledger.proofs.StoreLemmas.{holds_at_rest}
use Rattle.pm_http.specs.declared.reply.Reply.{Reply}
use Rattle.pm_state.specs.ChangeItem.{AreItemsOf}
use Rattle.pm_state.specs.Given.{Given}
use Rattle.pm_state.specs.Opening.{AddsOpening, AddsAt, moment_after, opening, entered}
use Rattle.pm_state.specs.FilesGiven.{Shows, alone}
use Rattle.pm_state.specs.Planned.{IsLook, IsChange}
use Rattle.pm_state.specs.declared.change.Change.{Change}
use Rattle.pm_state.proofs.ClosingLemmas.{closing-unstored}
use Rattle.pm_state.proofs.StateLemmas.{changes-go-on, same-adds, adds-ends, opening-goes-on, opening-moment, opening-jobs}
use Rattle.pm_state.specs.Stands.{StateStands, GivesEvents}
use Rattle.pm_state.specs.Step.{OverJobs, events_given, events_by}
use Rattle.pm_state.specs.declared.state.State.{State}
use Rattle.pm_items.specs.Unstored.{AreUnstored}
use Rattle.pm_batch.specs.Answer.{batch_answer, batch_entries, entries_in}
use Rattle.pm_batch.proofs.LawLemmas.{batch-unstored}
use Rattle.pm_batch.specs.Reading.{Refusal}
use Rattle.pm_events.specs.declared.hit.Hit.{Hit}
use Rattle.pm_engine.specs.declared.engine.Engine.{Engine}
use Rattle.pm_engine.specs.Adding.{AddsStored}
use Rattle.pm_notice.specs.Planned.{subscriptions_of}
use Rattle.pm_state.specs.SubsGiven.{Leaves}
use Rattle.pm_state.proofs.SubsLemmas.{subs-opening}
use Rattle.pm_engine.specs.Bears.{Bears, cursors_in}
use Rattle.pm_engine.specs.Giving.{GivesBy, Meanwhile, Reaches}
use Rattle.pm_engine.specs.Turn.{reached}
use Rattle.pm_engine.proofs.BetweenLemmas.{itself, kept-begins, widened}

-- ---- what is stored

pub opening-stored : (inventory : InventoryState) (h : History) (e : Entry) (item : Option (List ℕ)) → AddsOpening inventory h e item
    → AddsStored inventory h (e ∷ []) item
opening-stored inventory h e None adds = record {
  before = adds.0.0;
  history = adds.0;
  items = items-none h e adds.1;
  kept_is = kept-none h e adds.1;
}
opening-stored inventory h e (Some bytes) adds = record { e = e; one = refl; adds = adds }

pub changes-stored : (inventory : InventoryState) (g : History) (es : List Entry) (item : Option (List ℕ)) → IsHistory g → IsHistory (grown g es)
    → AreItemsOf inventory item es → AddsStored inventory g es item
changes-stored inventory g [] None before history are = record { before = before; history = history; items = refl; kept_is = refl }
changes-stored inventory g (e ∷ []) (Some bytes) before history are = record {
  e = e;
  one = refl;
  adds = record { history = history; item = are.item; text = are.text; over = are.over; is = are.is g };
}
changes-stored inventory g (e ∷ es) None before history are = absurd are
changes-stored inventory g [] (Some bytes) before history are = absurd are
changes-stored inventory g (e ∷ f ∷ es) (Some bytes) before history are = absurd are

-- No call of the disk is made: each image holds what is kept, between any two histories that it lies between.
pub rests : (inventory : InventoryState) (ledger : Ledger) (told : Told) (h : History) (es : List Entry) → IsReady ledger
    → IsLedgerOf inventory ledger told.now h → IsHistory h → IsHistory (grown h es)
    → Throughout (EachBetween inventory (kept h) (kept (grown h es))) told told
rests inventory ledger told h es ready of history after =
    widened inventory (kept h) (kept h) (kept h) (kept (grown h es)) told told (itself (kept h)) (kept-begins h es after)
    (at_rest (EachBetween inventory (kept h) (kept h)) told (holds_at_rest inventory ledger told.now h ready of history))

-- The same of one entry, whether or not it may come next.
pub rests-one : (inventory : InventoryState) (ledger : Ledger) (told : Told) (h : History) (e : Entry) → IsReady ledger
    → IsLedgerOf inventory ledger told.now h → IsHistory h → Throughout (EachBetween inventory (kept h) (kept (h ▷ e))) told told
rests-one inventory ledger told h e ready of history =
    widened inventory (kept h) (kept h) (kept h) (kept (h ▷ e)) told told (itself (kept h)) (kept_grows h e history)
    (at_rest (EachBetween inventory (kept h) (kept h)) told (holds_at_rest inventory ledger told.now h ready of history))

-- ---- what is given

pub gives-map : (P Q : Given → List ℕ → Type 0) (IsTold : Type 0) (engine : Engine) (told : Told) (g : History) (cursors : List ℕ) (o : Option Reply)
    → ((given : Given) (next : List ℕ) → P given next → Q given next) → GivesBy P IsTold engine told g cursors o → GivesBy Q IsTold engine told g cursors o
gives-map P Q IsTold engine told g cursors None to gives = gives
gives-map P Q IsTold engine told g cursors (Some reply) to gives = record {
  given = gives.given;
  next = gives.next;
  is = to gives.given gives.next gives.is;
  reply_is = gives.reply_is;
  bears = gives.bears;
}

pub meanwhile-map : (P Q : Given → List ℕ → Type 0) (inventory : InventoryState) (old new : Told) (g : History)
    → ((given : Given) (next : List ℕ) → P given next → Q given next) → Meanwhile P inventory old new g → Meanwhile Q inventory old new g
meanwhile-map P Q inventory old new g to during = record {
  most = during.most;
  is = elim during.is [ inl same ↦ inl same | inr more ↦ inr (more.0, more.1, to more.0 more.1 more.2, more.3) ];
  begins = during.begins;
  moments = during.moments;
}

-- Nothing was stored.
pub meanwhile-rests : (P : Given → List ℕ → Type 0) (inventory : InventoryState) (ledger : Ledger) (told : Told) (g : History) → IsReady ledger
    → IsLedgerOf inventory ledger told.now g → IsHistory g → Meanwhile P inventory told told g
meanwhile-rests P inventory ledger told g ready of history = record {
  most = g;
  is = inl refl;
  begins = itself (kept g);
  moments = rests inventory ledger told g [] ready of history history;
}

-- Over the jobs and monitors that stand, at the last moment.
pub over-jobs : (inventory : InventoryState) (g : History) (f : JobsState → ℕ → Given) (jobs : JobsState) (last : ℕ) → Stands inventory jobs g
    → last ≡ last_moment g → (given : Given) → given ≡ f jobs last → OverJobs inventory g (λ j. f j (last_moment g)) given
over-jobs inventory g f jobs last stands is given given-is = (jobs, stands, given-is ∙ ap (f jobs) is)

-- A look.
pub look-gives : (P : Given → Type 0) (IsTold : Type 0) (engine : Engine) (told : Told) (g : History) (cursors : List ℕ) (given : Given)
    (reply : Reply) (o : Option Reply) → P given → IsLook given reply
    → MatchOption o (reply.status ≡ 503) (λ other. (other ≡ reply) × (reply.status ≢ 503)) → Bears IsTold engine told g cursors
    → GivesBy (λ x next. Leaves cursors next (P x)) IsTold engine told g cursors o
look-gives P IsTold engine told g cursors given reply None is look match bears = bears
look-gives P IsTold engine told g cursors given reply (Some other) is look match bears = elim look [
  | inl none ↦ absurd (match.1 (ap (λ (r : Reply). r.status) none))
  | inr same ↦ record {
    given = given;
    next = cursors;
    is = (is, refl);
    reply_is = match.0 ∙ sym (ap (λ (x : Given). x.reply) same);
    bears = subst (λ es. Bears IsTold engine told (grown g es) cursors) (sym (ap (λ (x : Given). x.entries) same)) bears;
  }
]

-- A look at files.
pub shows-gives : (P : Given → Type 0) (IsTold : Type 0) (engine : Engine) (told : Told) (g : History) (cursors : List ℕ) (reply : Reply)
    (o : Option Reply) → Shows P reply → MatchOption o (reply.status ≡ 503) (λ other. (other ≡ reply) × (reply.status ≢ 503))
    → Bears IsTold engine told g cursors → GivesBy (λ x next. Leaves cursors next (P x)) IsTold engine told g cursors o
shows-gives P IsTold engine told g cursors reply None shows match bears = bears
shows-gives P IsTold engine told g cursors reply (Some other) shows match bears = elim shows [
  | inl none ↦ absurd (match.1 (ap (λ (r : Reply). r.status) none))
  | inr is ↦ record { given = alone reply; next = cursors; is = (is, refl); reply_is = match.0; bears = bears }
]

-- A batch of events that was taken, or refused, or for which there was no memory.
nothing-taken : (inventory : InventoryState) (g : History) (body : List ℕ) (state : State) (r : Result (List Hit) Refusal)
    → (events_by inventory g body r).reply.status ≡ 503 → StateStands (grown g (events_by inventory g body r).entries) state → StateStands g state
nothing-taken inventory g body state (Ok hits) is stands = absurd (omega (arith, is))
nothing-taken inventory g body state (Err refusal) is stands = stands

pub events-none : (inventory : InventoryState) (g : History) (body : List ℕ) (reply : Reply) (state : State) → GivesEvents inventory g body reply state
    → reply.status ≡ 503 → StateStands g state
events-none inventory g body reply state gives is = elim gives [
  | inl none ↦ none.1
  | inr given ↦ nothing-taken inventory g body state (batch_answer inventory g (last_moment g) body) (sym (ap (λ (r : Reply). r.status) given.0) ∙ is) given.1
]

pub events-some : (inventory : InventoryState) (g : History) (body : List ℕ) (reply : Reply) (state : State) → GivesEvents inventory g body reply state
    → reply.status ≢ 503 → (reply ≡ (events_given inventory g body).reply) × StateStands (grown g (events_given inventory g body).entries) state
events-some inventory g body reply state gives not = elim gives [
  | inl none ↦ absurd (not (ap (λ (r : Reply). r.status) none.0))
  | inr given ↦ given
]

-- ---- changes

pub change-begins : (g : History) (state : State) (given : Given) (change : Change) → StateStands g state
    → IsChange state.inventory state.jobs state.closing.closer state.last given change → IsBeginning (kept g) (kept (grown g given.entries))
change-begins g state given change stands is =
    let on = changes-go-on state.inventory g state.last state.events given.entries state.in_range is.at
    (record { history = stands.history; begun = stands.begun; last = stands.last; events_stand = stands.events; only = stands.only }) in
    kept-begins g given.entries on.history

pub change-stored : (g : History) (state : State) (given : Given) (change : Change) → StateStands g state
    → IsChange state.inventory state.jobs state.closing.closer state.last given change → AddsStored state.inventory g given.entries change.item
change-stored g state given change stands is =
    let on = changes-go-on state.inventory g state.last state.events given.entries state.in_range is.at
    (record { history = stands.history; begun = stands.begun; last = stands.last; events_stand = stands.events; only = stands.only }) in
    changes-stored state.inventory g given.entries change.item stands.history on.history is.item

pub if-ok : {T E : Type 0} (P Q : T → Type 0) (r : Result T E) → ((t : T) → P t → Q t) → IfOk r P → IfOk r Q
if-ok P Q (Ok t) to is = to t is
if-ok P Q (Err e) to is = tt

-- ---- events

unstored-items : (h : History) (es : List Entry) → AreUnstored h es → items_of (grown h es) ≡ items_of h
unstored-items h [] are = refl
unstored-items h (e ∷ es) are = unstored-items (h ▷ e) es are.1 ∙ items-none h e are.0.without

-- A ledger of a history is one of it with entries that have no items.
pub ledger-stays : (inventory : InventoryState) (ledger : Ledger) (disk : DiskState) (h : History) (es : List Entry)
    → items_of (grown h es) ≡ items_of h → IsLedgerOf inventory ledger disk h → IsLedgerOf inventory ledger disk (grown h es)
ledger-stays inventory ledger disk h es same of = record {
  texts = of.texts;
  at = of.at;
  has = record { items = of.has.items; stored = of.has.stored; are = of.has.are ∙ sym same };
}

events-items : (inventory : InventoryState) (g : History) (body : List ℕ) → IsHistory g → 0 < size g
    → items_of (grown g (events_given inventory g body).entries) ≡ items_of g
events-items inventory g body history begun =
    by (batch_answer inventory g (last_moment g) body) refl (batch-unstored inventory g (last_moment g) body (record { history = history; some = begun; moment_is = refl }))
  where
    by : (r : Result (List Hit) Refusal) → batch_answer inventory g (last_moment g) body ≡ r → AreUnstored g (batch_entries inventory g (last_moment g) body)
        → items_of (grown g (events_given inventory g body).entries) ≡ items_of g
    by (Ok hits) is are =
        let same = ap (entries_in inventory g (last_moment g)) is in
        let given = ap (λ a. (events_by inventory g body a).entries) is in
        ap (λ es. items_of (grown g es)) given ∙ unstored-items g (entries_in inventory g (last_moment g) (Ok hits)) (subst (AreUnstored g) same are)
    by (Err refusal) is are = ap (λ a. items_of (grown g (events_by inventory g body a).entries)) is

pub events-gives : (IsTold : Type 0) (inventory : InventoryState) (engine : Engine) (told : Told) (g : History) (cursors body : List ℕ) (reply : Reply)
    (o : Option Reply) → IsHistory g → 0 < size g → (IsTold → IsLedgerOf inventory engine.ledger told.now g) → engine.state.inventory ≡ inventory
    → cursors_in engine ≡ cursors
    → GivesEvents inventory g body reply engine.state → MatchOption o (reply.status ≡ 503) (λ other. (other ≡ reply) × (reply.status ≢ 503))
    → GivesBy (λ given next. Leaves cursors next (given ≡ events_given inventory g body)) IsTold engine told g cursors o
events-gives IsTold inventory engine told g cursors body reply None history begun store same served gives match = record {
  stands = events-none inventory g body reply engine.state gives match;
  served = served;
  store = λ t. subst (λ i. IsLedgerOf i engine.ledger told.now g) (sym same) (store t);
}
events-gives IsTold inventory engine told g cursors body reply (Some other) history begun store same served gives match =
    let some = events-some inventory g body reply engine.state gives match.1 in
    let es = (events_given inventory g body).entries in
    record {
      given = events_given inventory g body;
      next = cursors;
      is = (refl, refl);
      reply_is = match.0 ∙ some.0;
      bears = record {
        stands = some.1;
        served = served;
        store = λ t.
            subst (λ i. IsLedgerOf i engine.ledger told.now (grown g es)) (sym same)
            (ledger-stays inventory engine.ledger told.now g es (events-items inventory g body history begun) (store t));
      };
    }

-- ---- a moment that isn't later than the last one

pub passes : (IsTold : Type 0) (engine : Engine) (told : Told) (h : History) (cursors : List ℕ) (moment : ℕ) → moment ≤ engine.state.last
    → IsMoment moment → Bears IsTold engine told h cursors → Bears IsTold engine told (entered h moment) cursors
passes IsTold engine told h cursors moment le range bears =
    let state = engine.state in
    let at-is : moment_after (last_moment h) moment ≡ state.last = omega (arith, le, bears.stands.last) in
    let adds = same-adds state.inventory h state.last state.last bears.stands.history bears.stands.begun bears.stands.last state.in_range (omega arith) (omega arith) (omega arith) in
    let here : AddsOpening state.inventory h (opening h moment) None = subst (λ m. AddsAt state.inventory h m None) (sym at-is) adds in
    let goes_on = adds-ends state.inventory h (last_moment h) (moment_after (last_moment h) moment) None here in
    let on = opening-goes-on state.inventory h (last_moment h) (moment_after (last_moment h) moment) state.events goes_on bears.stands.events bears.stands.only in
    record {
      stands = record {
        history = here.0;
        begun = omega arith;
        last = sym at-is ∙ sym (opening-moment (last_moment h) (moment_after (last_moment h) moment));
        jobs = opening-jobs state.inventory state.jobs h (last_moment h) (moment_after (last_moment h) moment) bears.stands.jobs;
        subs = subs-opening (subscriptions_of state.subs) h _ (last_moment h) (moment_after (last_moment h) moment) bears.stands.subs;
        events = on.0;
        only = on.1;
        closing = closing-unstored state.inventory state.jobs h (opening h moment) state.closing (record { follows = here.0.1; without = here.1 }) bears.stands.closing;
      };
      served = bears.served;
      store = λ t. ledger-stays state.inventory engine.ledger told.now h (opening h moment ∷ []) (items-none h (opening h moment) here.1) (bears.store t);
    }

pub reached-before : (h : History) (moment last : ℕ) → last ≡ last_moment h → moment ≤ last → reached h moment ≡ h
reached-before h moment last is le = ap (λ b. cond b (entered h moment) h) (le-ltb (last_moment h) moment (omega (arith, is, le)))

pub reached-after : (h : History) (moment last : ℕ) → last ≡ last_moment h → last < moment → reached h moment ≡ entered h moment
reached-after h moment last is lt = ap (λ b. cond b (entered h moment) h) (lt-ltb (last_moment h) moment (omega (arith, is, lt)))

pub reaches : (IsTold : Type 0) (engine : Engine) (told : Told) (h : History) (cursors : List ℕ) (moment last : ℕ) (done : Bool)
    → last ≡ last_moment h → last < moment → Bears IsTold engine told (if done then entered h moment else h) cursors
    → Reaches IsTold engine told h cursors moment done
reaches IsTold engine told h cursors moment last true is lt bears =
    (bears, subst (λ g. Bears IsTold engine told g cursors) (sym (reached-after h moment last is lt)) bears)
reaches IsTold engine told h cursors moment last false is lt bears = bears
