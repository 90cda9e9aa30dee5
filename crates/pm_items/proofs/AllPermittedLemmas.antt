-- Where each item of a history is permitted, each item of one with the same items is.
use Rattle.std.proofs.Common.{◌≡◌, ℕ, List, Some, sym, ◌∙◌, subst}
use Rattle.pm_history.specs.declared.entry.Side.{Side}
use Rattle.pm_history.specs.declared.entry.Entry.{Entry}
use Rattle.pm_history.specs.History.{History, ◌▷◌, IsHistory}
use Rattle.pm_history.specs.Terms.{Terms}
use Rattle.pm_items.specs.Items.{Item, item_of, items_of, kept}
use Rattle.pm_items.specs.Unstored.{IsUnstored}
use Rattle.pm_items.specs.Permitted.{Rules, PermitsNext, AllPermitted, FollowItems}
use Rattle.pm_items.proofs.KeptLemmas.{kept_is_kept, kept-history}
use Rattle.pm_items.proofs.PairLemmas.{pair_induction}
use Rattle.pm_items.proofs.PermittedLemmas.{permits-same}

module _ (terms : Side → List ℕ → Terms) (rules : Rules) (taken : List (List ℕ)) (follow : FollowItems rules) where
  all-right : (h : History) (e : Entry) → IsUnstored h e → AllPermitted terms rules taken h
      → AllPermitted terms rules taken (h ▷ e)
  all-right h e q all = (all, subst (PermitsNext terms rules taken (kept h)) (sym q.without) tt)

  all-item : (g h : History) (e : Entry) (i : Item) → IsHistory g → IsHistory h → item_of g e ≡ Some i → item_of h e ≡ Some i
      → items_of g ≡ items_of h → PermitsNext terms rules taken (kept g) (item_of g e)
      → PermitsNext terms rules taken (kept h) (item_of h e)
  all-item g h e i ig ih sg sh same may =
      let kg = kept_is_kept g in
      let kh = kept_is_kept h in
      let item = subst (PermitsNext terms rules taken (kept g)) sg may in
      subst (PermitsNext terms rules taken (kept h)) (sym sh)
      (permits-same terms rules taken (kept g) (kept h) follow (kept-history g ig) (kept-history h ih) kg.0 kh.0 (kg.1 ∙ (same ∙ sym kh.1)) i item)

  all-same : (g h : History) → IsHistory g → IsHistory h → items_of g ≡ items_of h → AllPermitted terms rules taken g
      → AllPermitted terms rules taken h
  all-same g h ig ih same =
      pair_induction (λ g h. AllPermitted terms rules taken g → AllPermitted terms rules taken h) (λ all. all)
      (λ g h e q rest all. rest all.0)
      (λ g h e q rest all. all-right h e q (rest all))
      (λ g h e i ig ih fg fh sg sh same rest all. (rest all.0, all-item g h e i ig ih sg sh same all.1))
      g h ig ih same

pub same_all_permitted : (terms : Side → List ℕ → Terms) (rules : Rules) (taken : List (List ℕ)) (g h : History)
    → FollowItems rules → IsHistory g → IsHistory h → items_of g ≡ items_of h
    → AllPermitted terms rules taken g → AllPermitted terms rules taken h
same_all_permitted terms rules taken g h follow ig ih same all = all-same terms rules taken follow g h ig ih same all
