-- A step of one pass: what is known of all views goes on, where its own quota and its older epochs do.
use Rattle.std.proofs.Common.{◌≡◌, ◌≢◌, ℕ, ◌+◌, ◌-◌, min, ◌≤◌, List, set, true, false, true≢false, sym, ap, ◌∙◌, subst, ⊎_elim, arith}
use mathlib.Core.Option.{some}
use mathlib.Core.Logic.{dite}
use native.Mathlib.Decide.{ℕ_discrete}
use lib.ListN.{get_elem?}
use Rattle.atomic_table.proofs.Lists.{at_set}
use Rattle.pm_bank.specs.declared.view.View.{View}
use Rattle.pm_bank.specs.Rule.{total, here, visits, lives, quota, met, aged, Phase, Fits, Knows, Seats}
use Rattle.pm_bank.proofs.TotalLemmas.{total_set, total_within}

-- both are passes that are out, and only the newest epoch gains events
pub record IsPassStep (p : Phase) (id : ℕ) (was now : View) : Type 0 where
  pub no_keeper : now.keeps ≡ false
  pub lives_same : now.lives ≡ was.lives
  pub since_same : now.since ≡ was.since
  pub quota_same : now.quota ≡ was.quota
  pub met_same : now.numbers.met ≡ was.numbers.met
  pub fits : Fits p id now
  pub older : (e : ℕ) → (p.epoch ≡ e → ⊥) → here e now ≡ here e was
  pub fewer : (e : ℕ) → (p.epoch ≡ e → ⊥) → visits e now ≤ visits e was

module _ (p : Phase) (views : List View) (k : Seats p views) (id : ℕ) (was now : View) (here_is : get_elem? views id ≡ some was) (step : IsPassStep p id was now) where
  abbrev after : List View
  after = set views id now

  pub moves : (f : View → ℕ) → total f after + f was ≡ total f views + f now
  moves f = total_set f views id was now here_is

  same : (f : View → ℕ) → f now ≡ f was → total f after ≡ total f views
  same f is = let t = moves f in omega (arith, t, is)

  all_fit : (by : ℕ) (v : View) → get_elem? after by ≡ some v → Fits p by v
  all_fit by v e =
      ⊎_elim
      (λ (x : (by ≡ id) × (now ≡ v)). subst (λ (y : ℕ × View). Fits p y.0 y.1) (λ i. (sym x.0 i, x.1 i)) step.fits)
      (λ (x : (by ≢ id) × (get_elem? views by ≡ some v)). k.fits by v x.1)
      (at_set views id by now v e)

  in_room : total quota after + total met after ≤ 1073741824
  in_room = let a = same quota step.quota_same in let b = same met step.met_same in let r = k.room in omega (arith, a, b, r)

  all_bound : (e : ℕ) → total (here e) after ≤ 1073741824
  all_bound e =
      dite (ℕ_discrete p.epoch e)
      (λ (is : p.epoch ≡ e). subst (λ (x : ℕ). total (here x) after ≤ 1073741824) is (let w = total_within (here p.epoch) quota met after (λ i v h. (all_fit i v h).within) in let r = in_room in omega (arith, w, r)))
      (λ (apart : p.epoch ≢ e). let g = same (here e) (step.older e apart) in let b = k.bound e in omega (arith, g, b))

  no_visits : (e : ℕ) → (p.epoch ≡ e → ⊥) → total (visits e) views ≡ 0 → total (visits e) after ≡ 0
  no_visits e apart none = let t = moves (visits e) in let f = step.fewer e apart in omega (arith, t, f, none)

  all_known : (by : ℕ) (v : View) → get_elem? after by ≡ some v → v.keeps ≡ true → Knows p after v
  all_known by v e keeps =
      ⊎_elim
      (λ (x : (by ≡ id) × (now ≡ v)). absurd (true≢false (sym keeps ∙ sym (ap (λ (u : View). u.keeps) x.1) ∙ step.no_keeper)))
      (λ (x : (by ≢ id) × (get_elem? views by ≡ some v)).
      let old = k.knows by v x.1 keeps in
      record {
        epoch_is = old.epoch_is;
        untaken_is = old.untaken_is;
        cleared_is = old.cleared_is;
        sealed_is = λ se y is. no_visits y (λ z. omega (arith, z, is)) (old.sealed_is se y is);
        arrived_is = λ un y is. old.arrived_is un y is ∙ sym (same (here y) (step.older y (λ z. omega (arith, z, is))));
        out_is = let t = same lives step.lives_same in let o = old.out_is in omega (arith, t, o);
        quotas_is = let t = same quota step.quota_same in let o = old.quotas_is in omega (arith, t, o);
        older_is = let t = same (aged p.epoch) (λ i. min (step.lives_same i) (p.epoch - step.since_same i)) in let o = old.older_is in omega (arith, t, o);
        met_is = old.met_is ∙ sym (same met step.met_same);
        no_visit = old.no_visit;
      })
      (at_set views id by now v e)

  pub seats_after : Seats p after
  seats_after =
      record {
        bound = all_bound;
        room = in_room;
        fits = all_fit;
        knows = all_known;
      }
