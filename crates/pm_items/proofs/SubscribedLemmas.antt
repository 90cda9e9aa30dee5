-- Subscriptions of two histories with the same items.
use Rattle.std.proofs.Common.{◌≡◌, ℕ, List, refl, sym, ap, ◌∙◌}
use Rattle.pm_history.specs.declared.entry.Entry.{Entry}
use Rattle.pm_history.specs.declared.entry.Entry.TheVariants.{Now, Event}
use Rattle.pm_history.specs.History.{History, ◌▷◌, IsHistory}
use Rattle.pm_items.specs.Items.{items_of}
use Rattle.pm_items.specs.Unstored.{IsUnstored}
use Rattle.pm_items.specs.Subscribed.{subscribed_next, subscribed_after, subscribers_next, subscribers_after}
use Rattle.pm_items.proofs.PairLemmas.{pair_induction}

subscribed-unstored : (h : History) (e : Entry) (id : List ℕ) → IsUnstored h e
    → subscribed_after (h ▷ e) id ≡ subscribed_after h id
subscribed-unstored h (Now m) id q = refl
subscribed-unstored h (Event m object metric value registered) id q = refl
subscribed-unstored h _ id q = let no = q.without in absurd cc

subscribers-unstored : (h : History) (e : Entry) → IsUnstored h e → subscribers_after (h ▷ e) ≡ subscribers_after h
subscribers-unstored h (Now m) q = refl
subscribers-unstored h (Event m object metric value registered) q = refl
subscribers-unstored h _ q = let no = q.without in absurd cc

abbrev SubscribedAlike : History → History → Type 0
SubscribedAlike g h =
    ((id : List ℕ) → subscribed_after g id ≡ subscribed_after h id) × (subscribers_after g ≡ subscribers_after h)

pub same_subscriptions : (g h : History) → IsHistory g → IsHistory h → items_of g ≡ items_of h
    → ((id : List ℕ) → subscribed_after g id ≡ subscribed_after h id) × (subscribers_after g ≡ subscribers_after h)
same_subscriptions g h ig ih same =
    pair_induction SubscribedAlike (λ id. refl, refl)
    (λ g h e q old. (λ id. subscribed-unstored g e id q ∙ old.0 id, subscribers-unstored g e q ∙ old.1))
    (λ g h e q old. (λ id. old.0 id ∙ sym (subscribed-unstored h e id q), old.1 ∙ sym (subscribers-unstored h e q)))
    (λ g h e i ig ih fg fh sg sh same old.
    (λ id. ap (λ o. subscribed_next id o e) (old.0 id), ap (λ ids. subscribers_next ids e) old.1))
    g h ig ih same
