-- Histories with the same items permit the same items.
use Rattle.std.proofs.Common.{◌≡◌, ℕ, List, [], ◌∷◌, length, Option, Some, None, refl, sym, ap, ◌∙◌, subst, arith, get_or}
use Rattle.std.specs.Prelude.{IsSome}
use Rattle.std.specs.List.{count_by}
use Rattle.std.specs.Option.{option_map}
use Rattle.pm_history.specs.declared.entry.Side.{Side}
use Rattle.pm_history.specs.declared.entry.Side.TheVariants.{Job, Monitor}
use Rattle.pm_history.specs.declared.entry.Entry.{Entry}
use Rattle.pm_history.specs.declared.entry.Entry.TheVariants.{JobMade, JobState, JobDeleted, MonitorMade, MonitorState, MonitorDeleted, Subscribed, Unsubscribed}
use Rattle.pm_history.specs.Entry.{Change, Made, Moved, Deleted}
use Rattle.pm_history.specs.History.{History, last_moment, IsHistory}
use Rattle.pm_history.specs.Terms.{Terms}
use Rattle.pm_history.specs.Standing.{Standing}
use Rattle.pm_items.specs.Items.{Item, Opened, Booked, Changed, items_of, kept}
use Rattle.pm_items.specs.Alike.{unplaced}
use Rattle.pm_items.specs.Subscribed.{subscribers_after}
use Rattle.pm_items.specs.Cursors.{is_booked, cursors_taken, CursorsFit}
use Rattle.pm_items.specs.Permitted.{Rules, Suits, MayChange, Permits, FollowItems}
use Rattle.pm_items.proofs.AlikeLemmas.{same_items}
use Rattle.pm_items.proofs.ToldLemmas.{items_tell}
use Rattle.pm_items.proofs.SubscribedLemmas.{same_subscriptions}
use Rattle.pm_items.proofs.CursorLemmas.{same_cursors}

-- what is the same but for its place
none-same : (o p : Option Standing) → option_map unplaced o ≡ option_map unplaced p → o ≡ None → p ≡ None
none-same o None same is = refl
none-same None (Some r) same is = absurd cc
none-same (Some s) (Some r) same is = absurd cc

state-same : (o p : Option Standing) → option_map unplaced o ≡ option_map unplaced p
    → option_map (λ (s : Standing). s.unlocked) o ≡ option_map (λ (s : Standing). s.unlocked) p
state-same None None same = refl
state-same None (Some r) same = absurd cc
state-same (Some s) None same = absurd cc
state-same (Some s) (Some r) same = let one : unplaced s ≡ unplaced r = cc in λ i. Some (one i).unlocked

some-same : (o p : Option Standing) → option_map unplaced o ≡ option_map unplaced p → IsSome o → IsSome p
some-same o (Some r) same is = refl
some-same None None same is = is
some-same (Some s) None same is = absurd cc

module _ (terms : Side → List ℕ → Terms) (rules : Rules) (taken : List (List ℕ)) (g h : History)
    (follow : FollowItems rules) (ig : IsHistory g) (ih : IsHistory h) (kg : kept g ≡ g) (kh : kept h ≡ h) (same : items_of g ≡ items_of h)
  where
    suits-same : (side : Side) (id : List ℕ) (c : Change) → Suits terms rules taken g side id c
        → Suits terms rules taken h side id c
    suits-same side id (Made body) may =
        let standing = (same_items terms g h ig ih same).standing side id in
        (none-same _ _ standing may.0, sym ((follow g h ig ih same).0 side id body) ∙ may.1)
    suits-same side id (Moved u) may = sym (state-same _ _ ((same_items terms g h ig ih same).standing side id)) ∙ may
    suits-same side id Deleted may = some-same _ _ ((same_items terms g h ig ih same).standing side id) may

    change-same : (e : Entry) → MayChange terms rules taken g e → MayChange terms rules taken h e
    change-same (JobMade m id body) may = suits-same Job id (Made body) may
    change-same (JobState m id u) may = suits-same Job id (Moved u) may
    change-same (JobDeleted m id) may = suits-same Job id Deleted may
    change-same (MonitorMade m id body) may = suits-same Monitor id (Made body) may
    change-same (MonitorState m id u) may = suits-same Monitor id (Moved u) may
    change-same (MonitorDeleted m id) may = suits-same Monitor id Deleted may
    change-same (Subscribed m id port path) may =
        (sym ((same_subscriptions g h ig ih same).0 id) ∙ may.0, sym ((follow g h ig ih same).1 id port path) ∙ may.1)
    change-same (Unsubscribed m id) may = subst IsSome ((same_subscriptions g h ig ih same).0 id) may
    change-same _ may = absurd may

    fit-same : (ids : List (List ℕ)) (cs : List ℕ) → CursorsFit terms taken g ids cs → CursorsFit terms taken h ids cs
    fit-same [] [] fit = tt
    fit-same (id ∷ ids) (c ∷ cs) fit =
        let old = same_cursors terms taken g h ig ih same id in
        let many = ap length (items_tell terms g h ig ih same).1 in
        let least = fit.0 in
        let most = fit.1 in
        (omega (arith, old), omega (arith, many), fit-same ids cs fit.2)
    fit-same [] (c ∷ cs) fit = fit
    fit-same (id ∷ ids) [] fit = fit

    last-same : last_moment g ≡ last_moment h
    last-same = ap last_moment (sym kg) ∙ ((same_items terms g h ig ih same).last ∙ ap last_moment kh)

    pub permits-same : (item : Item) → Permits terms rules taken g item → Permits terms rules taken h item
    permits-same (Opened m) may = let last = last-same in omega (arith, last, may)
    permits-same (Booked m tick cells) may =
        let alike = same_items terms g h ig ih same in
        let last = alike.tick in
        let lt = may.later in
        let le = may.soon in
        record {
          begun = sym alike.begun ∙ may.begun;
          later = omega (arith, last);
          soon = omega (arith, last);
          takes = may.takes ∙ last;
          cells_fit = may.cells_fit;
          cursors_fit = subst (λ n. CursorsFit terms taken h (subscribers_after h) (get_or taken n [])) (ap (count_by is_booked) same)
              (subst (λ is. CursorsFit terms taken h is (cursors_taken taken g)) (same_subscriptions g h ig ih same).1
              (fit-same (subscribers_after g) (cursors_taken taken g) may.cursors_fit));
        }
    permits-same (Changed e) may =
        let alike = same_items terms g h ig ih same in
        let last = last-same in
        record {
          begun = sym alike.begun ∙ may.begun;
          later = let le = may.later in omega (arith, last);
          beside = may.beside ∙ alike.tick;
          may = change-same e may.may;
        }

pub same_permitted : (terms : Side → List ℕ → Terms) (rules : Rules) (taken : List (List ℕ)) (g h : History)
    → FollowItems rules → IsHistory g → IsHistory h → kept g ≡ g → kept h ≡ h → items_of g ≡ items_of h
    → (item : Item) → Permits terms rules taken g item → Permits terms rules taken h item
same_permitted terms rules taken g h follow ig ih kg kh same item may =
    permits-same terms rules taken g h follow ig ih kg kh same item may
