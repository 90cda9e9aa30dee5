-- What a decoder promises, where it answers what is read.
use Rattle.std.proofs.Common.{◌≡◌, ℕ, List, Option, Some, None, refl, ap, subst, ◌∙◌}
use Rattle.std.specs.Prelude.{◌↔◌, IfOk, IsSome, Result, Ok, Err}
use Rattle.pm_store.specs.declared.error.StoreError.{StoreError}
use Rattle.pm_store.specs.declared.error.StoreError.TheVariants.{Bad, Memory}
use Rattle.pm_store.specs.declared.item.Item1.{Item1}
use Rattle.pm_store.specs.Item.{item_bytes, IsItem}
use Rattle.pm_store.specs.Reading.{item_at, Answers}
use Rattle.pm_store.proofs.FrontLemmas.{IsBytes}
use Rattle.pm_store.proofs.KindLemmas.{item_back}
use Rattle.pm_store.proofs.ItemLemmas.{item_only}

-- What a decoder promises, where it answers what is read.
pub is_read : (bs : List ℕ) (r : Result Item1 StoreError) → IsBytes bs → Answers r (item_at bs)
    → IfOk r (λ item. IsItem item × (bs ≡ item_bytes item))
is_read bs (Ok item) fits a = item_only bs item fits a
is_read bs (Err e) fits a = tt

pub is_only : (bs : List ℕ) (r : Result Item1 StoreError) → Answers r (item_at bs) → (item : Item1) → IsItem item
    → bs ≡ item_bytes item
    → Answers r (Some item)
is_only bs r a item fits e = subst (λ (o : Option Item1). Answers r o) (ap item_at e ∙ item_back item fits) a

abbrev Others : List ℕ → Type 0
Others bs = (item : Item1) → IsItem item → bs ≡ item_bytes item → ⊥

refuses : (bs : List ℕ) → Answers {A = Item1} (Err Bad) (item_at bs) → Others bs
refuses bs a item fits e =
    let some : item_at bs ≡ Some item = ap item_at e ∙ item_back item fits in
    let none : item_at bs ≡ None = a in
    cc

given : (bs : List ℕ) (o : Option Item1) → IsBytes bs → item_at bs ≡ o → IsSome o → Others bs → ⊥
given bs None fits is some others = absurd cc
given bs (Some item) fits is some others = let p = item_only bs item fits is in others item p.0 p.1

pub is_bad : (bs : List ℕ) (r : Result Item1 StoreError) → IsBytes bs → Answers r (item_at bs) → (r ≡ Err Bad) ↔ Others bs
is_bad bs (Ok item) fits a = (λ e. absurd cc, λ others. let p = item_only bs item fits a in absurd (others item p.0 p.1))
is_bad bs (Err Bad) fits a = (λ e. refuses bs a, λ others. refl)
is_bad bs (Err Memory) fits a = (λ e. absurd cc, λ others. absurd (given bs (item_at bs) fits refl a others))
