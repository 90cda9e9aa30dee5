use Rattle.std.proofs.Common.{◌≡◌, ℕ, List, [], ◌∷◌, length, Option, refl, cond, arith}
use Rattle.std.specs.Prelude.{count_by}
use Rattle.std.proofs.lemmas.List.Sums.{sum_by-cons}
use Rattle.pm_items.specs.Cursors.{is_booked}
use Rattle.pm_items.specs.Items.{Item}
use Rattle.pm_store.specs.declared.item.Item1.{Item1}
use Rattle.pm_store.specs.declared.item.Item1.TheVariants.{Boot, Booked, JobMade, JobState, JobDeleted, MonitorMade, MonitorState, MonitorDeleted, Subscribed, Unsubscribed}
use Rattle.pm_store.specs.Stored.{item_in, items_in, cursors_in}
use Rattle.pm_store.proofs.law.cursors_of_each.Goals as goal

each : (slot_of : ℕ → ℕ → Option ℕ) (items : List Item1)
    → length (cursors_in items) ≡ count_by is_booked (items_in slot_of items)
each s [] = refl
each s (Boot moment version inventory ∷ items) = each s items
each s (Booked moment tick cells cursors ∷ items) =
    let one = sum_by-cons (λ (x : Item). cond (is_booked x) 1 0) (item_in s (Booked moment tick cells cursors)) (items_in s items) in
    omega (arith, one, each s items)
each s (JobMade moment id body ∷ items) = each s items
each s (JobState moment id unlocked ∷ items) = each s items
each s (JobDeleted moment id ∷ items) = each s items
each s (MonitorMade moment id body ∷ items) = each s items
each s (MonitorState moment id unlocked ∷ items) = each s items
each s (MonitorDeleted moment id ∷ items) = each s items
each s (Subscribed moment id port path ∷ items) = each s items
each s (Unsubscribed moment id ∷ items) = each s items

pub returns : goal.returns
returns c = each
