-- What the keeper is after it met a pass.
use Rattle.std.proofs.Common.{◌≡◌, ℕ, suc, ◌+◌, ◌-◌, ◌≤◌, List, [], ◌∷◌, ◌++◌, min, Option, ap, ◌∙◌, subst, arith}
use Rattle.atomic_table.specs.Table.{Me}
use Rattle.atomic_table.specs.Seated.{TableId}
use Rattle.pm_bank.specs.declared.view.View.{View}
use Rattle.pm_bank.specs.declared.view.Numbers.{Numbers}
use Rattle.pm_bank.specs.declared.view.Entry.{Entry}
use Rattle.pm_bank.specs.Entries.{AreUpTo}
use Rattle.pm_bank.specs.Views.{Meets}
use Rattle.pm_bank.specs.Steps.{IsKeeping, IsPass, Settles, meets, keeper_view}

-- what holds of all joined entries holds of the later ones
pub up_to-later : (e : ℕ) (xs ys : List Entry) → AreUpTo e (xs ++ ys) → AreUpTo e ys
up_to-later e [] ys all = all
up_to-later e (x ∷ xs) ys all = up_to-later e xs ys (λ k d lt. all (suc k) d (omega (arith, lt)))

module _ (id id' pid : TableId) (me mid end pass : Me (Unit {0}) View) (workers epoch out quotas older met since quota left : ℕ) (pending : Option ℕ) (kept : IsKeeping me workers epoch out quotas older met pending) (of : IsPass pass since quota left) (same_id : id' ≡ id) (joined : mid ≡ (meets me.0 pass.0, me.1)) (settles : Settles mid.0 end.0) where
  end_is : end.0.entries ≡ me.0.entries ++ pass.0.entries
  end_is = ap (λ (v : View). v.entries) settles.view_is ∙ ap (λ (y : Me (Unit {0}) View). y.0.entries) joined

  taken_is : end.0.taken ≡ me.0.taken
  taken_is = ap (λ (v : View). v.taken) settles.view_is ∙ ap (λ (y : Me (Unit {0}) View). y.0.taken) joined

  looks_is : end.0.numbers.looks ≡ me.0.numbers.looks
  looks_is = ap (λ (v : View). v.numbers.looks) settles.view_is ∙ ap (λ (y : Me (Unit {0}) View). y.0.numbers.looks) joined

  seen_is : end.0.numbers.seen ≡ me.0.numbers.seen
  seen_is = ap (λ (v : View). v.numbers.seen) settles.view_is ∙ ap (λ (y : Me (Unit {0}) View). y.0.numbers.seen) joined

  numbers_are : mid.0.numbers ≡ (meets me.0 pass.0).numbers
  numbers_are = ap (λ (y : Me (Unit {0}) View). y.0.numbers) joined

  one_out : 1 ≤ out
  one_out = let l = settles.out_less in let a = ap (λ (x : Numbers). x.late) numbers_are in let b = ap (λ (x : Numbers). x.out) numbers_are in let c = kept.out_is in omega (arith, l, a, b, c)

  quota_in : quota ≤ quotas
  quota_in =
      let l = settles.quotas_less in let a = ap (λ (x : Numbers). x.late_quota) numbers_are in let b = ap (λ (x : Numbers). x.quotas) numbers_are in let c = kept.quotas_is in
      let q : pass.0.quota ≡ quota = ap (λ (v : View). v.quota) of.is in omega (arith, l, a, b, c, q)

  -- where the pass was hired in the ended epoch or earlier, it was counted so
  pub older_in : min 1 (epoch - since) ≤ older
  older_in =
      let l = settles.older_less in let a = ap (λ (x : Numbers). x.late_older) numbers_are in let b = ap (λ (x : Numbers). x.older) numbers_are in let c = kept.older_is in
      let e = kept.epoch_is in let h : pass.0.lives ≡ 1 = ap (λ (v : View). v.lives) of.is in let s : pass.0.since ≡ since = ap (λ (v : View). v.since) of.is in omega (arith, l, a, b, c, e, h, s)

  pub meets_told : (rest : ℕ) → rest + min 1 (epoch - since) ≡ older → Meets (keeper_view id me workers epoch out quotas older met pending) (record { bank = pid; since = since; quota = quota; entries = pass.0.entries; looks = pass.0.numbers.looks; seen = pass.0.numbers.seen }) (keeper_view id' end workers epoch (out - 1) (quotas - quota) rest (met + (quota - left)) pending)
  meets_told rest rest_is =
      record {
        out_less = let o = one_out in omega (arith, o);
        quotas_less = let q = quota_in in omega (arith, q);
        granted_less = let q = quota_in in let l = of.left_is in omega (arith, q, l);
        older_less = rest_is;
        else_same = λ i. record { bank = same_id i; workers = workers; epoch = epoch; out = out - 1; quotas = quotas - quota; older = rest; granted = (quotas - quota) + (met + (quota - left)); met = end_is i; pending = pending; taken = taken_is i; looks = looks_is i; seen = seen_is i };
        up_to =
            let epoch_is : mid.0.numbers.epoch ≡ epoch = ap (λ (x : Numbers). x.epoch) numbers_are ∙ kept.epoch_is in
            let entries_are : mid.0.entries ≡ me.0.entries ++ pass.0.entries = ap (λ (y : Me (Unit {0}) View). y.0.entries) joined in
            up_to-later epoch me.0.entries pass.0.entries (subst (λ (y : ℕ × List Entry). AreUpTo y.0 y.1) (λ i. (epoch_is i, entries_are i)) settles.up_to);
      }
