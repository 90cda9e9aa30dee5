-- What was acknowledged stays.
use Rattle.std.proofs.Common.{◌≡◌, inl, inr, ℕ, Bool, true, false, List, [], ◌∷◌, ◌++◌, Option, Some, None, nat_lt, if◌then◌else◌, refl, sym, ap, ◌∙◌, subst}
use Rattle.pm_inventory.specs.Inventory.{InventoryState}
use Rattle.pm_history.specs.declared.entry.Entry.{Entry}
use Rattle.pm_history.specs.History.{History, ◌▷◌, grown, last_moment, IsHistory}
use Rattle.pm_items.specs.Items.{kept}
use Rattle.pm_items.specs.Kept.{IsBeginning}
use Rattle.pm_items.proofs.PrefixLemmas.{kept_grows}
use Rattle.pm_http.specs.declared.reply.Reply.{Reply}
use Rattle.pm_http.specs.declared.request.Request.{Request}
use Rattle.pm_state.specs.Opening.{opening, entered}
use Rattle.pm_engine.specs.Bears.{Run, settled_at}
use Rattle.pm_notice.specs.StandFor.{cursors_of}
use Rattle.pm_top.specs.SessionTurn.{Turned, Runs, IsTurned, IsAnswered, moment_asked}

grown-grown : (h : History) (xs ys : List Entry) → grown (grown h xs) ys ≡ grown h (xs ++ ys)
grown-grown h [] ys = refl
grown-grown h (x ∷ xs) ys = grown-grown (h ▷ x) xs ys

begins : (a b c : History) → IsBeginning a b → IsBeginning b c → IsBeginning a c
begins a b c ab bc = record { more = ab.more ++ bc.more; is = bc.is ∙ (ap (λ h. grown h bc.more) ab.is ∙ grown-grown a ab.more bc.more) }

before : (h : History) (es : List Entry) → IsHistory (grown h es) → IsHistory h
before h [] is = is
before h (e ∷ es) is = (before (h ▷ e) es is).0

kept-begins : (h : History) (es : List Entry) → IsHistory (grown h es) → IsBeginning (kept h) (kept (grown h es))
kept-begins h [] is = record { more = []; is = refl }
kept-begins h (e ∷ es) is =
    begins (kept h) (kept (h ▷ e)) (kept (grown (h ▷ e) es)) (kept_grows h e (before h (e ∷ es) is)) (kept-begins (h ▷ e) es is)

-- The run grew by entries, all of which are settled.
record Grew (old new : Run) : Type 0 where
  settled : old.settled ≡ old.history
  es : List Entry
  cursors : List ℕ
  is : new ≡ settled_at (grown old.history es) cursors

reached-grows : (h : History) (moment : ℕ) (b : Bool) → (es : List Entry) × ((if b then entered h moment else h) ≡ grown h es)
reached-grows h moment true = (opening h moment ∷ [], refl)
reached-grows h moment false = ([], refl)

answered-grows : (inventory : InventoryState) (o : Option ℕ) (request : Request) (run : Run) (reply : Reply) (next : Run) → run.settled ≡ run.history
    → IsAnswered inventory o request run reply next → Grew run next
answered-grows inventory None request run reply next settled is =
    record { settled = settled; es = []; cursors = run.cursors; is = is.1 ∙ same run settled }
  where
    same : (run : Run) → run.settled ≡ run.history → run ≡ settled_at run.history run.cursors
    same run settled = ap (λ s. record { history = run.history; settled = s; cursors = run.cursors }) settled
answered-grows inventory (Some moment) request run reply next settled (inl given) =
    record { settled = settled; es = opening run.history moment ∷ given.given.entries; cursors = given.cursors; is = given.next_is }
answered-grows inventory (Some moment) request run reply next settled (inr none) = elim none.next_is [
  | inl same ↦ record { settled = settled; es = []; cursors = run.cursors; is = same }
  | inr more ↦
      let by = reached-grows run.history moment (nat_lt (last_moment run.history) moment) in
      record { settled = settled; es = by.0; cursors = run.cursors; is = more ∙ ap (λ h. settled_at h run.cursors) by.1 }
]

turned-grows : (inventory : InventoryState) (run : Run) (turned : Turned) (next : Run) → run.settled ≡ run.history → IsTurned inventory run turned next
    → Grew run next
turned-grows inventory run turned next settled is =
    let grew = answered-grows inventory (moment_asked turned.request.moment (last_moment run.history)) turned.request run turned.reply is.mid settled
    is.replied.answered in
    let cursors = cursors_of is.served.news in
    record {
      settled = settled;
      es = grew.es;
      cursors = cursors;
      is = is.served.next_is ∙ ap (λ (r : Run). record { history = r.history; settled = r.settled; cursors = cursors }) grew.is;
    }

settles : (old new : Run) → Grew old new → new.settled ≡ new.history
settles old new grew = ap (λ r. r.settled) grew.is ∙ sym (ap (λ r. r.history) grew.is)

grew-history : (old new : Run) → Grew old new → IsHistory new.history → IsHistory old.history
grew-history old new grew history = before old.history grew.es (subst (λ r. IsHistory r.history) grew.is history)

grew-begins : (old new : Run) → Grew old new → IsHistory new.history → IsBeginning (kept old.settled) (kept new.settled)
grew-begins old new grew history =
    let after : IsHistory (grown old.history grew.es) = subst (λ r. IsHistory r.history) grew.is history in
    let begun = kept-begins old.history grew.es after in
    subst (λ r. IsBeginning (kept old.settled) (kept r.settled)) (sym grew.is)
    (subst (λ s. IsBeginning (kept s) (kept (grown old.history grew.es))) (sym grew.settled) begun)

settled-on : (inventory : InventoryState) (old new : Run) (turns : List Turned) → old.settled ≡ old.history → Runs inventory old turns new
    → new.settled ≡ new.history
settled-on inventory old new [] settled runs = subst (λ r. r.settled ≡ r.history) (sym runs) settled
settled-on inventory old new (turned ∷ turns) settled runs =
    settles runs.0 new (turned-grows inventory runs.0 turned new (settled-on inventory old runs.0 turns settled runs.1) runs.2)

pub turns-stay : (inventory : InventoryState) (old new : Run) (turns : List Turned) → old.settled ≡ old.history → IsHistory new.history
    → Runs inventory old turns new → IsBeginning (kept old.settled) (kept new.settled)
turns-stay inventory old new [] settled history runs = subst (λ r. IsBeginning (kept old.settled) (kept r.settled)) (sym runs) (record { more = []; is = refl })
turns-stay inventory old new (turned ∷ turns) settled history runs =
    let grew = turned-grows inventory runs.0 turned new (settled-on inventory old runs.0 turns settled runs.1) runs.2 in
    begins (kept old.settled) (kept runs.0.settled) (kept new.settled)
    (turns-stay inventory old runs.0 turns settled (grew-history runs.0 new grew history) runs.1) (grew-begins runs.0 new grew history)
