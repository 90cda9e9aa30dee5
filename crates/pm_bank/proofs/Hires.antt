-- Hiring a pass keeps the rule.
use Rattle.std.proofs.Common.{◌≡◌, ◌≢◌, ℕ, suc, ◌+◌, ◌≤◌, List, [], ◌∷◌, ◌++◌, set, true≢false, refl, sym, ap, ◌∙◌, subst, ⊎_elim, arith}
use mathlib.Core.Option.{some}
use lib.ListN.{get_elem?}
use Rattle.atomic_table.proofs.Lists.{at_set, at_snoc}
use Rattle.pm_bank.specs.declared.view.View.{View}
use Rattle.pm_bank.specs.declared.view.Entry.{Entry}
use Rattle.pm_bank.specs.declared.view.Numbers.{Numbers}
use Rattle.pm_bank.specs.declared.view.Part.{Part}
use Rattle.pm_bank.specs.declared.view.Taken.{Taken}
use Rattle.pm_bank.specs.Words.{op}
use Rattle.pm_bank.specs.Rule.{in_slots, total, gone, here, visits, lives, quota, met, aged, part, merged, Phase, Fits, Knows, Seats, Tells, Kept}
use Rattle.pm_bank.specs.Steps.{passing, keeping, zeros}
use Rattle.pm_bank.proofs.FoldLemmas.{when-zero, none-here, op-unit, op-comm, op-assoc}
use Rattle.pm_bank.proofs.MergeLemmas.{adds_one}
use Rattle.pm_bank.proofs.CountLemmas.{spread_nil}
use Rattle.pm_bank.proofs.TotalLemmas.{total_set, total_snoc}
use Rattle.pm_bank.proofs.StayLemmas.{gates_stay, cells_stay, merged_stays}
use Rattle.pm_bank.proofs.KeeperLemmas.{part_none}
use Rattle.pm_bank.proofs.TellLemmas.{IsStill, tells_stay}

module _ (slots : ℕ) (words : List ℕ) (views : List View) (k : Kept slots words views) (id q : ℕ) (x : Numbers) (es : List Entry) (told : List Part) (taken : List Taken) (none_late : x.late_quota ≡ 0) (fits_in : (x.quotas + x.met) + q ≤ 1073741824) (here_is : get_elem? views id ≡ some (keeping x es told taken)) where
  abbrev p : Phase
  p = k.phase

  abbrev was : View
  was = keeping x es told taken

  abbrev now : View
  now = keeping (record x { out = suc x.out; quotas = x.quotas + q }) es told taken

  abbrev fresh : View
  fresh = passing zeros x.epoch q 0 0 [] []

  abbrev after : List View
  after = set views id now ++ fresh ∷ []

  known : Knows p views was
  known = k.seats.knows id was here_is refl

  same : (f : View → ℕ) → f now ≡ f was → total f after ≡ total f views + f fresh
  same f is = let t = total_set f views id was now here_is in let s = total_snoc f (set views id now) fresh in omega (arith, t, s, is)

  stays : (f : View → ℕ) → f now ≡ f was → f fresh ≡ 0 → total f after ≡ total f views
  stays f is none = let t = same f is in omega (arith, t, none)

  fresh_fits : (by : ℕ) → Fits p by fresh
  fresh_fits by =
      record {
        within = let z = when-zero p.epoch 0 in omega (arith, z);
        past = λ x _. none-here x;
        one = λ x. absurd (true≢false (sym x));
        idle = λ _ z. absurd (omega (arith, z));
        backed = λ _. refl;
        single = omega arith;
        since_le = let z = known.epoch_is in omega (arith, z);
        born = λ x _. none-here x;
        shut = λ x _. when-zero x 0;
        small = tt;
      }

  now_fits : Fits p id now
  now_fits = let old = k.seats.fits id was here_is in record { within = old.within; past = old.past; one = old.one; idle = λ z. absurd (true≢false z); backed = λ _. refl; single = omega arith; since_le = omega arith; born = λ y lt. absurd (omega (arith, lt)); shut = old.shut; small = old.small }

  now_knows : Knows p after now
  now_knows =
      record {
        epoch_is = known.epoch_is;
        untaken_is = known.untaken_is;
        cleared_is = known.cleared_is;
        sealed_is = λ is y last. stays (visits y) refl (when-zero y 0) ∙ known.sealed_is is y last;
        arrived_is = λ some_untaken y is. known.arrived_is some_untaken y is ∙ sym (stays (here y) refl (none-here y));
        older_is = let t = stays (aged p.epoch) refl (let z = known.epoch_is in omega (arith, z)) in let o = known.older_is in omega (arith, t, o);
        out_is = let t = same lives refl in let o = known.out_is in omega (arith, t, o);
        quotas_is = let t = same quota refl in let o = known.quotas_is in omega (arith, t, o);
        met_is = let t = same met refl in let o = known.met_is in omega (arith, t, o);
        no_visit = refl;
      }

  seats : Seats p after
  seats =
      record {
        bound = λ x. let t = stays (here x) refl (none-here x) in let b = k.seats.bound x in omega (arith, t, b);
        room = let a = same quota refl in let b = same met refl in let c = known.quotas_is in let y = known.met_is in omega (arith, a, b, c, y, none_late, fits_in);
        fits = λ by v at.
            ⊎_elim
            (λ (old : get_elem? (set views id now) by ≡ some v).
            ⊎_elim
            (λ (x : (by ≡ id) × (now ≡ v)). subst (λ (y : ℕ × View). Fits p y.0 y.1) (λ i. (sym x.0 i, x.1 i)) now_fits)
            (λ (x : (by ≢ id) × (get_elem? views by ≡ some v)). k.seats.fits by v x.1)
            (at_set views id by now v old))
            (λ (new : fresh ≡ v). subst (Fits p by) new (fresh_fits by))
            (at_snoc (set views id now) fresh v by at);
        knows = λ by v at keeps.
            ⊎_elim
            (λ (old : get_elem? (set views id now) by ≡ some v).
            ⊎_elim
            (λ (x : (by ≡ id) × (now ≡ v)). subst (Knows p after) x.1 now_knows)
            (λ (x : (by ≢ id) × (get_elem? views by ≡ some v)). absurd (x.0 ((k.seats.fits by v x.1).one keeps ∙ sym ((k.seats.fits id was here_is).one refl))))
            (at_set views id by now v old))
            (λ (new : fresh ≡ v). absurd (true≢false (sym (ap (λ (u : View). u.keeps) new ∙ keeps))))
            (at_snoc (set views id now) fresh v by at);
      }

  same_merged : (j e s : ℕ) → merged j e s after ≡ merged j e s views
  same_merged j e s =
      adds_one (op j) (op-unit j) (op-comm j) (op-assoc j) (part j e s) (set views id now) fresh
      ∙ ap (op j (merged j e s (set views id now))) (part_none j e s fresh (none-here e) (λ _. refl)) ∙ op-unit j _
      ∙ merged_stays views id was now here_is j e s refl

  still : IsStill slots p views after
  still = record { heres = λ e _. stays (here e) refl (none-here e); merges = λ j e s _ _ _. same_merged j e s }

  pub hires_one : Kept slots words after
  hires_one =
      record {
        phase = p;
        counts = record {
          complete = λ y. let g = stays (gone y) refl refl in let s = stays (in_slots slots y) refl (spread_nil slots y) in let o = k.counts.complete y in omega (arith, g, s, o);
          tells = λ by v at keeper.
              ⊎_elim
              (λ (old : get_elem? (set views id now) by ≡ some v).
              ⊎_elim
              (λ (z : (by ≡ id) × (now ≡ v)). subst (Tells slots p after) z.1 (tells_stay slots p views after was now still refl refl (k.counts.tells id was here_is refl)))
              (λ (z : (by ≢ id) × (get_elem? views by ≡ some v)). tells_stay slots p views after v v still refl refl (k.counts.tells by v z.1 keeper))
              (at_set views id by now v old))
              (λ (new : fresh ≡ v). absurd (true≢false (sym (ap (λ (u : View). u.keeps) new ∙ keeper))))
              (at_snoc (set views id now) fresh v by at);
        };
        size = k.size;
        seats = seats;
        gates = gates_stay p words words views after k.gates (λ _ _. refl) (λ x. stays (here x) refl (none-here x)) (λ x. stays (gone x) refl refl);
        cells = cells_stay slots p words words views after k.cells (λ _ _. refl) (λ j e s _ _. same_merged j e s);
      }
