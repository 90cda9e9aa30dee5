-- Meeting a pass keeps the rule.
use Rattle.std.proofs.Common.{◌≡◌, ◌≢◌, ℕ, ◌+◌, ◌≤◌, List, [], ◌++◌, length, set, true≢false, refl, sym, ap, ◌∙◌, subst, ⊎_elim, arith}
use mathlib.Core.Option.{some}
use lib.ListN.{get_elem?}
use Rattle.atomic_table.proofs.Lists.{at_set, set_else}
use Rattle.pm_bank.specs.declared.view.View.{View}
use Rattle.pm_bank.specs.declared.view.Numbers.{Numbers}
use Rattle.pm_bank.specs.declared.view.Entry.{Entry}
use Rattle.pm_bank.specs.declared.view.Part.{Part}
use Rattle.pm_bank.specs.declared.view.Taken.{Taken}
use Rattle.pm_bank.specs.Words.{op, fold_of}
use Rattle.pm_bank.specs.Rule.{in_slots, total, gone, here, visits, lives, quota, met, aged, part, merged, Phase, Fits, Knows, Seats, Tells, Kept}
use Rattle.pm_bank.specs.Steps.{passing, keeping, meets, spent, IsSettled}
use Rattle.pm_bank.proofs.FoldLemmas.{when-zero, none-here, op-unit, op-comm, op-assoc, count-append, count-at_most, fold-append, small-append}
use Rattle.pm_bank.proofs.MergeLemmas.{moves}
use Rattle.pm_bank.proofs.CountLemmas.{spread_nil, spread_append}
use Rattle.pm_bank.proofs.TellLemmas.{IsStill, tells_stay}
use Rattle.pm_bank.proofs.TotalLemmas.{total_moves}
use Rattle.pm_bank.proofs.StayLemmas.{gates_stay, cells_stay}

module _ (slots : ℕ) (words : List ℕ) (views : List View) (k : Kept slots words views) (id : ℕ) (x : Numbers) (es : List Entry) (told : List Part) (taken : List Taken) (none_late : IsSettled x) (here_is : get_elem? views id ≡ some (keeping x es told taken)) where
  abbrev p : Phase
  p = k.phase

  abbrev was : View
  was = keeping x es told taken

  known : Knows p views was
  known = k.seats.knows id was here_is refl

  module _ (other : ℕ) (nums : Numbers) (b q : ℕ) (fs : List Entry) (few : length fs ≤ q) (apart : other ≢ id) (other_is : get_elem? views other ≡ some (passing nums b q 0 0 [] fs)) where
    abbrev pass : View
    pass = passing nums b q 0 0 [] fs

    abbrev now : View
    now = meets was pass

    abbrev between : List View
    between = set views id now

    abbrev after : List View
    after = set between other spent

    pass_there : get_elem? between other ≡ some pass
    pass_there = set_else views id other now apart ∙ other_is

    goes : (f : View → ℕ) → total f after + (f was + f pass) ≡ total f views + (f now + f spent)
    goes f = total_moves f views id other was now pass spent here_is pass_there

    heres : (e : ℕ) → total (here e) after ≡ total (here e) views
    heres e = let t = goes (here e) in let a = count-append e es fs in let z = when-zero e 0 in omega (arith, t, a, z)

    gones : (e : ℕ) → total (gone e) after ≡ total (gone e) views
    gones e = let t = goes (gone e) in let a = count-append e es fs in omega (arith, t, a)

    opens_same : (e : ℕ) → total (visits e) after ≡ total (visits e) views
    opens_same e = let t = goes (visits e) in let z = when-zero e 0 in omega (arith, t, z)

    mine : Fits p id was
    mine = k.seats.fits id was here_is

    its : Fits p other pass
    its = k.seats.fits other pass other_is

    none_of : (e : ℕ) → here e was ≡ 0 → here e pass ≡ 0 → here e now ≡ 0
    none_of e a b = let m = count-append e es fs in omega (arith, a, b, m)

    now_fits : Fits p id now
    now_fits =
        record {
          within = let w = mine.within in let m = count-append p.epoch es fs in let le = count-at_most p.epoch fs in let z = when-zero p.epoch 0 in omega (arith, w, m, le, z);
          past = λ e lt. none_of e (mine.past e lt) (its.past e lt);
          one = mine.one;
          idle = λ z. absurd (true≢false z);
          backed = λ _. refl;
          single = omega arith;
          since_le = omega arith;
          born = λ e lt. absurd (omega (arith, lt));
          shut = mine.shut;
          small = small-append es fs mine.small its.small;
        }

    spent_fits : (by : ℕ) → Fits p by spent
    spent_fits by =
        record {
          within = let z = none-here p.epoch in omega (arith, z);
          past = λ e _. none-here e;
          one = λ z. absurd (true≢false (sym z));
          idle = λ _ _ e. none-here e;
          backed = λ _. refl;
          single = omega arith;
          since_le = omega arith;
          born = λ e _. none-here e;
          shut = λ e _. when-zero e 0;
          small = tt;
        }

    now_knows : Knows p after now
    now_knows =
        record {
          epoch_is = known.epoch_is;
          untaken_is = known.untaken_is;
          cleared_is = known.cleared_is;
          sealed_is = λ se e is. opens_same e ∙ known.sealed_is se e is;
          arrived_is = λ un e is. known.arrived_is un e is ∙ sym (heres e);
          out_is = let t = goes lives in let o = known.out_is in let l = none_late.late_none in omega (arith, t, o, l);
          quotas_is = let t = goes quota in let o = known.quotas_is in let l = none_late.quota_none in omega (arith, t, o, l);
          older_is = let t = goes (aged p.epoch) in let o = known.older_is in let l = none_late.older_none in let z = known.epoch_is in omega (arith, t, o, l, z);
          met_is = let t = goes met in let o = known.met_is in omega (arith, t, o);
          no_visit = refl;
        }

    seats : Seats p after
    seats =
        record {
          bound = λ e. let t = heres e in let o = k.seats.bound e in omega (arith, t, o);
          room = let a = goes quota in let c = goes met in let r = k.seats.room in omega (arith, a, c, r, few);
          fits = λ by v at.
              ⊎_elim
              (λ (y : (by ≡ other) × (spent ≡ v)). subst (Fits p by) y.1 (spent_fits by))
              (λ (old : (by ≢ other) × (get_elem? between by ≡ some v)).
              ⊎_elim
              (λ (y : (by ≡ id) × (now ≡ v)). subst (λ (z : ℕ × View). Fits p z.0 z.1) (λ i. (sym y.0 i, y.1 i)) now_fits)
              (λ (y : (by ≢ id) × (get_elem? views by ≡ some v)). k.seats.fits by v y.1)
              (at_set views id by now v old.1))
              (at_set between other by spent v at);
          knows = λ by v at keeps.
              ⊎_elim
              (λ (y : (by ≡ other) × (spent ≡ v)). absurd (true≢false (sym keeps ∙ sym (ap (λ (u : View). u.keeps) y.1))))
              (λ (old : (by ≢ other) × (get_elem? between by ≡ some v)).
              ⊎_elim
              (λ (y : (by ≡ id) × (now ≡ v)). subst (Knows p after) y.1 now_knows)
              (λ (y : (by ≢ id) × (get_elem? views by ≡ some v)). absurd (y.0 ((k.seats.fits by v y.1).one keeps ∙ sym ((k.seats.fits id was here_is).one refl))))
              (at_set views id by now v old.1))
              (at_set between other by spent v at);
        }

    -- what is merged moves with the entries
    parts_move : (j e s : ℕ) → merged j e s after ≡ merged j e s views
    parts_move j e s =
        moves (op j) (op-unit j) (op-comm j) (op-assoc j) (part j e s) views id other was now pass spent here_is apart other_is
        (ap (op j (fold_of j e s (es ++ fs))) (when-zero e 0) ∙ op-unit j _ ∙ fold-append j e s es fs ∙ ap (λ (m : ℕ). op j m (fold_of j e s fs)) (bare es) ∙ ap (op j (part j e s was)) (bare fs))
        (ap (op j 0) (when-zero e 0) ∙ op-unit j 0)
      where
        bare : (l : List Entry) → fold_of j e s l ≡ part j e s (keeping x l told taken)
        bare l = sym (ap (op j (fold_of j e s l)) (when-zero e 0) ∙ op-unit j _)

    spreads : (n e : ℕ) → total (in_slots n e) after ≡ total (in_slots n e) views
    spreads n e = let t = goes (in_slots n e) in let a = spread_append n e es fs in let z = spread_nil n e in omega (arith, t, a, z)

    still : IsStill slots p views after
    still = record { heres = λ e _. heres e; merges = λ j e s _ _ _. parts_move j e s }

    pub meets_one : Kept slots words after
    meets_one =
        record {
          phase = p;
          counts = record {
            complete = λ e. let g = gones e in let s = spreads slots e in let o = k.counts.complete e in omega (arith, g, s, o);
            tells = λ by v at keeper.
                ⊎_elim
                (λ (y : (by ≡ other) × (spent ≡ v)). absurd (true≢false (sym keeper ∙ sym (ap (λ (u : View). u.keeps) y.1))))
                (λ (old : (by ≢ other) × (get_elem? between by ≡ some v)).
                ⊎_elim
                (λ (y : (by ≡ id) × (now ≡ v)). subst (Tells slots p after) y.1 (tells_stay slots p views after was now still refl refl (k.counts.tells id was here_is refl)))
                (λ (y : (by ≢ id) × (get_elem? views by ≡ some v)). tells_stay slots p views after v v still refl refl (k.counts.tells by v y.1 keeper))
                (at_set views id by now v old.1))
                (at_set between other by spent v at);
          };
          size = k.size;
          seats = seats;
          gates = gates_stay p words words views after k.gates (λ _ _. refl) heres gones;
          cells = cells_stay slots p words words views after k.cells (λ _ _. refl) (λ j e s _ _. parts_move j e s);
        }
