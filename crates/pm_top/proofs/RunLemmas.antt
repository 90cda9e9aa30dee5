-- A run, from its parts.
use Rattle.std.proofs.Common.{◌≡◌, ℕ, Bool, [], sym, ap, ◌∙◌}
use Rattle.pm_outside.specs.Causes.{faults_after}
use Rattle.pm_disk.specs.Moments.{Told, Throughout}
use Rattle.pm_disk.proofs.MomentLemmas.{at_end}
use Rattle.pm_inventory.specs.Inventory.{InventoryState}
use Rattle.pm_history.specs.declared.entry.Entry.TheVariants.{Boot}
use Rattle.pm_history.specs.History.{Start, ◌▷◌}
use Rattle.pm_ledger.specs.Between.{EachBetween}
use Rattle.pm_tally.specs.Outcome.{Output, Gains}
use Rattle.pm_engine.specs.declared.error.OpenError.{OpenError}
use Rattle.pm_top.specs.declared.status.Status.{Status}
use Rattle.pm_top.specs.Ends.{status_of_opening}
use Rattle.pm_top.specs.Session.{Mail, Sends}
use Rattle.pm_top.specs.Run.{device_of, IsUnopened}

-- The store wasn't opened.
pub unopened : (inventory : InventoryState) (boot : ℕ) (output : Output) (mail : Mail) (IsTold : Type 0) (old new : Told) (error : OpenError) (status : Status)
    → status ≡ status_of_opening error → Gains output [] → Sends mail [] 0
    → (IsTold → EachBetween inventory Start Start old.now → Throughout (EachBetween inventory Start (Start ▷ Boot boot)) old new)
    → IsUnopened inventory boot output mail (device_of IsTold old new) status
unopened inventory boot output mail IsTold old new error status is gains sends moments = record {
  error = error;
  status_is = is;
  gains = gains;
  sends = sends;
  holds = λ told empty. at_end (EachBetween inventory Start (Start ▷ Boot boot)) old new (moments told empty);
}

-- The same count of faults.
pub as-counted : (old new : ℕ) (a b : Bool) → new ≡ faults_after a old → b ≡ a → new ≡ faults_after b old
as-counted old new a b counted is = counted ∙ ap (λ f. faults_after f old) (sym is)
