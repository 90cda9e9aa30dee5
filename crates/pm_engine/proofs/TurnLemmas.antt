-- A turn, from its parts.
use Rattle.std.proofs.Common.{◌≡◌, inl, inr, ℕ, List, Bool, true, false, Option, Some, None, MatchOption, refl, sym, ap, ◌∙◌, subst}
use Rattle.pm_disk.specs.Moments.{Told, Throughout}
use Rattle.pm_inventory.specs.Inventory.{InventoryState}
use Rattle.pm_history.specs.History.{History, grown, IsHistory}
use Rattle.pm_items.specs.Items.{kept}
use Rattle.pm_items.proofs.PrefixLemmas.{kept_grows}
use Rattle.pm_ledger.specs.Between.{EachBetween}
use Rattle.pm_http.specs.declared.reply.Reply.{Reply}
use Rattle.pm_http.specs.declared.request.Request.{Request}
use Rattle.pm_state.specs.Given.{no_memory}
use Rattle.pm_state.specs.Opening.{opening, entered}
use Rattle.pm_engine.specs.declared.engine.Engine.{Engine}
use Rattle.pm_engine.specs.Bears.{Bears, Run, settled_at, Carries}
use Rattle.pm_engine.specs.Giving.{GivesBy, Meanwhile, Reaches}
use Rattle.pm_engine.specs.Turn.{Gives, reached, reply_to, IsTurn, IsMost}
use Rattle.pm_engine.proofs.BetweenLemmas.{both}

-- What each image holds at each moment of a turn.
pub record During (inventory : InventoryState) (moment : ℕ) (request : Request) (run : Run) (old new : Told) : Type 0 where
  pub most : History
  pub is : IsMost inventory moment request run.history run.cursors most
  pub moments : Throughout (EachBetween inventory (kept run.settled) (kept most)) old new

pub told-during : (inventory : InventoryState) (moment : ℕ) (request : Request) (run : Run) (old new : Told) → During inventory moment request run old new
    → (most : History) × IsMost inventory moment request run.history run.cursors most × Throughout (EachBetween inventory (kept run.settled) (kept most)) old new
told-during inventory moment request run old new during = (during.most, during.is, during.moments)

-- While its Now or Boot is entered.
pub entering : (inventory : InventoryState) (moment : ℕ) (request : Request) (run : Run) (old new : Told) → run.settled ≡ run.history
    → Throughout (EachBetween inventory (kept run.history) (kept (entered run.history moment))) old new → During inventory moment request run old new
entering inventory moment request run old new settled moments = record {
  most = entered run.history moment;
  is = record { is = inr (inl refl) };
  moments = subst (λ s. Throughout (EachBetween inventory (kept s) (kept (entered run.history moment))) old new) (sym settled) moments;
}

-- While it is given what it is given too.
pub giving : (inventory other : InventoryState) (moment : ℕ) (request : Request) (run : Run) (old mid new : Told) → run.settled ≡ run.history
    → IsHistory run.history → other ≡ inventory
    → Throughout (EachBetween inventory (kept run.history) (kept (entered run.history moment))) old mid
    → Meanwhile (Gives other (entered run.history moment) run.cursors request) other mid new (entered run.history moment)
    → During inventory moment request run old new
giving inventory other moment request run old mid new settled history same first second =
    let h = run.history in
    let g = entered h moment in
    let during = subst (λ i. Meanwhile (Gives i g run.cursors request) i mid new g) same second in
    record {
      most = during.most;
      is = record { is = elim during.is [ inl same ↦ inr (inl same) | inr given ↦ inr (inr given) ] };
      moments = subst (λ s. Throughout (EachBetween inventory (kept s) (kept during.most)) old new) (sym settled)
          (both inventory (kept h) (kept g) (kept during.most) old mid new (kept_grows h (opening h moment) history) during.begins first during.moments);
    }

pub has-reached : (IsTold : Type 0) (engine : Engine) (told : Told) (h : History) (cursors : List ℕ) (moment : ℕ) (done : Bool) → done ≡ true
    → Reaches IsTold engine told h cursors moment done
    → Bears IsTold engine told (entered h moment) cursors × Bears IsTold engine told (reached h moment) cursors
has-reached IsTold engine told h cursors moment true is reaches = reaches
has-reached IsTold engine told h cursors moment false is reaches = absurd (cc (is))

-- The turn.
pub turned : (IsTold : Type 0) (inventory other : InventoryState) (engine : Engine) (told : Told) (moment : ℕ) (request : Request) (run : Run)
    (o : Option Reply) (reply : Reply) → other ≡ inventory
    → GivesBy (Gives other (entered run.history moment) run.cursors request) IsTold engine told (entered run.history moment) run.cursors o
    → GivesBy (Gives other (reached run.history moment) run.cursors request) IsTold engine told (reached run.history moment) run.cursors o
    → MatchOption o (reply ≡ reply_to request no_memory) (λ given. reply ≡ reply_to request given)
    → (next : Run) × IsTurn inventory moment request run reply next × Carries IsTold engine told next
turned IsTold inventory other engine told moment request run None reply same gives back match =
    (settled_at (reached run.history moment) run.cursors, inr (record { reply_is = match; next_is = inr refl }), record { bears = back; settled = refl })
turned IsTold inventory other engine told moment request run (Some r) reply same gives back match = (
  settled_at (grown (entered run.history moment) gives.given.entries) gives.next,
  inl (record {
    given = gives.given;
    cursors = gives.next;
    gives = subst (λ i. Gives i (entered run.history moment) run.cursors request gives.given gives.next) same gives.is;
    reply_is = match ∙ ap (reply_to request) gives.reply_is;
    next_is = refl;
  }),
  record { bears = gives.bears; settled = refl },
)

-- There was no memory for its moment.
pub unreached : (IsTold : Type 0) (inventory : InventoryState) (engine : Engine) (told : Told) (moment : ℕ) (request : Request) (run : Run) (done : Bool)
    (reply : Reply) → done ≡ false → Reaches IsTold engine told run.history run.cursors moment done → reply ≡ reply_to request no_memory
    → (next : Run) × IsTurn inventory moment request run reply next × Carries IsTold engine told next
unreached IsTold inventory engine told moment request run false reply is reaches same =
    (settled_at run.history run.cursors, inr (record { reply_is = same; next_is = inl refl }), record { bears = reaches; settled = refl })
unreached IsTold inventory engine told moment request run true reply is reaches same = absurd (cc (is))
