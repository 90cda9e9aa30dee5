use Rattle.std.proofs.Common.{◌≡◌, ◌≤◌, ◌+◌, ◌∙◌, ap, sym, take, cond, arith, ℕ, Bool, subst, Option, Some, None, refl}
use Rattle.std.specs.Option.{option_map, is_some}
use Rattle.pm_history.specs.History.{history_of, ◌▷◌}
use Rattle.pm_history.proofs.HistoryLemmas.{history_of-more}
use Rattle.pm_items.specs.Items.{item_of, kept}
use Rattle.pm_slow.specs.Items.{item_seen}
use Rattle.pm_slow.proofs.LoopLemmas.{cond_at, cond-le}
use Rattle.pm_slow.proofs.keeping.kept.Goals as goal

is_some-map : {A B : Type 0} (f : A → B) (o : Option A) → is_some o ≡ is_some (option_map f o)
is_some-map f None = refl
is_some-map f (Some x) = refl

pub loop-place-preserved : goal.loop-place-preserved
loop-place-preserved c =
    let xs = c.args.history.now in
    let n = c.loop-place.place in
    let h = history_of (take n xs) in
    let e = c.index-history-place.result in
    let more = history_of-more xs n e c.loop-place-test.true c.index-history-place.is in
    let test : Bool = is_some (item_of h e) in
    let has : c.is_some-has.result ≡ test = c.is_some-has.ensures ∙ is_some-map item_seen c.item_of.result ∙ ap is_some c.item_of.ensures in
    let picked : c.pick-count.result ≡ cond test (n + 1) c.loop-place.count = c.pick-count.ensures ∙ (λ i. cond (has i) (n + 1) c.loop-place.count) in
    let old = c.loop-place.invariant.prefix in
    let AtMost : ℕ → Type 0 = λ k. k ≤ n + 1 in
    record {
      prefix = ap (λ k. history_of (take k xs)) picked ∙ (cond_at (λ k. history_of (take k xs)) test (n + 1) c.loop-place.count ∙ ((λ i. cond test (more i) (old i)) ∙ sym (ap kept more)));
      within = subst AtMost (sym picked) (cond-le test (n + 1) c.loop-place.count (n + 1) (omega arith) (omega (arith, c.loop-place.invariant.within)));
    }
