-- Files and notices of two histories with the same items.
use Rattle.std.proofs.Common.{◌≡◌, ℕ, List, [], ◌∷◌, ◌++◌, refl, sym, ap, ◌∙◌}
use Rattle.pm_base.specs.Moment.{tick_of}
use Rattle.pm_history.specs.declared.entry.Side.{Side}
use Rattle.pm_history.specs.declared.entry.Entry.{Entry}
use Rattle.pm_history.specs.declared.entry.Entry.TheVariants.{Boot, Now}
use Rattle.pm_history.specs.History.{History, ◌▷◌, IsHistory, MayFollow}
use Rattle.pm_history.specs.Terms.{Terms}
use Rattle.pm_history.specs.Files.{files_of}
use Rattle.pm_history.specs.Notices.{notices_of}
use Rattle.pm_history.proofs.StepLemmas.{standing_after-now, standing_after-boot, files_of-same_tick, notices_of-same_tick}
use Rattle.pm_items.specs.Items.{items_of}
use Rattle.pm_items.specs.Unstored.{IsUnstored}
use Rattle.pm_items.specs.Alike.{AreAlike}
use Rattle.pm_items.proofs.UnstoredLemmas.{unchanged-one}
use Rattle.pm_items.proofs.KeptLemmas.{items-some}
use Rattle.pm_items.proofs.PairLemmas.{pair_induction}
use Rattle.pm_items.proofs.AlikeLemmas.{same_items}
use Rattle.pm_items.proofs.EndLemmas.{files-opening, notices-opening}

module _ (terms : Side → List ℕ → Terms) where
  abbrev Told : History → History → Type 0
  Told g h = (files_of terms g ≡ files_of terms h) × (notices_of terms g ≡ notices_of terms h)

  told-item : (g h : History) (e : Entry) → IsHistory (g ▷ e) → MayFollow h e → AreAlike terms g h
      → AreAlike terms (g ▷ e) (h ▷ e) → Told g h → Told (g ▷ e) (h ▷ e)
  told-item g h (Now m) ig fh old new told =
      let keeps_g = λ (side : Side) (id : List ℕ). standing_after-now terms side g id m in
      let keeps_h = λ (side : Side) (id : List ℕ). standing_after-now terms side h id m in
      (files-opening terms g h (Now m) ig old new keeps_g keeps_h fh told.0, notices-opening terms g h (Now m) ig old new keeps_g keeps_h fh told.1)
  told-item g h (Boot m) ig fh old new told =
      let keeps_g = λ (side : Side) (id : List ℕ). standing_after-boot terms side g id m in
      let keeps_h = λ (side : Side) (id : List ℕ). standing_after-boot terms side h id m in
      (files-opening terms g h (Boot m) ig old new keeps_g keeps_h fh told.0, notices-opening terms g h (Boot m) ig old new keeps_g keeps_h fh told.1)
  told-item g h e ig fh old new told =
      let at_g = ap tick_of (ig.1.beside refl).1 in
      let at_h = ap tick_of (fh.beside refl).1 in (
        files_of-same_tick terms g e ig.1.later at_g ∙ (told.0 ∙ sym (files_of-same_tick terms h e fh.later at_h)),
        notices_of-same_tick terms g e ig.1.later at_g ∙ (told.1 ∙ sym (notices_of-same_tick terms h e fh.later at_h)),
      )

  told-left : (g h : History) (e : Entry) → IsUnstored g e → Told g h → Told (g ▷ e) h
  told-left g h e q told = let unchanged = unchanged-one terms g e q in (unchanged.files ∙ told.0, unchanged.notices ∙ told.1)

  told-right : (g h : History) (e : Entry) → IsUnstored h e → Told g h → Told g (h ▷ e)
  told-right g h e q told =
      let unchanged = unchanged-one terms h e q in (told.0 ∙ sym unchanged.files, told.1 ∙ sym unchanged.notices)

  told : (g h : History) → IsHistory g → IsHistory h → items_of g ≡ items_of h → Told g h
  told g h ig ih same =
      pair_induction Told (refl, refl) told-left told-right
      (λ g h e i ig ih fg fh sg sh same rest.
      let more : items_of (g ▷ e) ≡ items_of (h ▷ e) = items-some g e i sg ∙ (ap (λ is. is ++ i ∷ []) same ∙ sym (items-some h e i sh)) in
      told-item g h e (ig, fg) fh (same_items terms g h ig ih same) (same_items terms (g ▷ e) (h ▷ e) (ig, fg) (ih, fh) more) rest)
      g h ig ih same

pub items_tell : (terms : Side → List ℕ → Terms) (g h : History) → IsHistory g → IsHistory h → items_of g ≡ items_of h
    → (files_of terms g ≡ files_of terms h) × (notices_of terms g ≡ notices_of terms h)
items_tell terms g h ig ih same = told terms g h ig ih same
