-- A request that was answered.
use Rattle.std.proofs.Common.{◌≡◌, ℕ, List, Option, Some, None, Result, Ok, Err, IfOk, IfErr, sym, ap, ◌∙◌, subst}
use Rattle.pm_disk.specs.Moments.{Told, Throughout}
use Rattle.pm_disk.proofs.MomentLemmas.{at_end}
use Rattle.pm_inventory.specs.Inventory.{InventoryState}
use Rattle.pm_history.specs.History.{History, last_moment}
use Rattle.pm_items.specs.Items.{kept}
use Rattle.pm_ledger.specs.Between.{EachBetween}
use Rattle.pm_http.specs.declared.reply.Reply.{Reply}
use Rattle.pm_http.specs.declared.request.Request.{Request}
use Rattle.pm_engine.specs.declared.engine.Engine.{Engine}
use Rattle.pm_engine.specs.Bears.{Run, Carries}
use Rattle.pm_engine.specs.Turn.{IsTurn, IsMost}
use Rattle.pm_top.specs.SessionTurn.{IsAnswered, IsAnsweredOver, moment_asked}
use Rattle.pm_top.specs.Session.{IsCutOff}

-- The moment is asked at the last moment of the run.
pub asked-at : (IsTold : Type 0) (engine : Engine) (told : Told) (run : Run) (field : Option (List ℕ)) (now : ℕ) (o : Option ℕ)
    → Carries IsTold engine told run → now ≡ engine.state.last → o ≡ moment_asked field now → moment_asked field (last_moment run.history) ≡ o
asked-at IsTold engine told run field now o carries now-is is =
    ap (moment_asked field) (sym carries.bears.stands.last ∙ sym now-is) ∙ sym is

pub answered : {E : Type 0} (inventory : InventoryState) (moment : ℕ) (request : Request) (run : Run) (IsCarried : Run → Type 0) (r : Result Reply E)
    → moment_asked request.moment (last_moment run.history) ≡ Some moment
    → IfOk r (λ reply. (next : Run) × IsTurn inventory moment request run reply next × IsCarried next)
    → IfOk r (λ reply. IsAnsweredOver inventory run request reply IsCarried)
answered inventory moment request run IsCarried r asked turn =
    subst (λ o. IfOk r (λ reply. (next : Run) × IsAnswered inventory o request run reply next × IsCarried next)) (sym asked) turn

if-err : {T E : Type 0} (P : Type 0) (r : Result T E) → P → IfErr r (λ _. P)
if-err P (Ok value) p = tt
if-err P (Err e) p = p

pub cut-off : {E : Type 0} (inventory : InventoryState) (moment : ℕ) (request : Request) (run : Run) (old new : Told) (r : Result Reply E)
    → moment_asked request.moment (last_moment run.history) ≡ Some moment
    → (most : History) × IsMost inventory moment request run.history run.cursors most × Throughout (EachBetween inventory (kept run.settled) (kept most)) old new
    → IfErr r (λ _. IsCutOff inventory request run new.now)
cut-off inventory moment request run old new r asked during =
    if-err (IsCutOff inventory request run new.now) r (record {
      moment = moment;
      asked = asked;
      most = during.0;
      is = during.1;
      images = at_end (EachBetween inventory (kept run.settled) (kept during.0)) old new during.2;
    })

-- A moment that can't be read.
pub refused-moment : (inventory : InventoryState) (request : Request) (run : Run) (reply : Reply) (IsCarried : Run → Type 0)
    → moment_asked request.moment (last_moment run.history) ≡ None → IsAnswered inventory None request run reply run → IsCarried run
    → IsAnsweredOver inventory run request reply IsCarried
refused-moment inventory request run reply IsCarried asked is carried =
    (run, subst (λ o. IsAnswered inventory o request run reply run) (sym asked) is, carried)
