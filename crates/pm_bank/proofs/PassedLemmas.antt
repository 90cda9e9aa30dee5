-- What a pass is after a run.
use Rattle.std.proofs.Common.{◌≡◌, ℕ, ◌+◌, ◌-◌, ◌≤◌, List, [], ◌++◌, length, length-append, sym, ap, ◌∙◌, arith}
use Rattle.atomic_table.specs.Table.{Me}
use Rattle.pm_bank.specs.declared.view.View.{View}
use Rattle.pm_bank.specs.declared.view.Hit.{Hit}
use Rattle.pm_bank.specs.declared.view.Entry.{Entry}
use Rattle.pm_bank.specs.Entries.{stamped}
use Rattle.pm_bank.specs.Steps.{IsPass, glanced, passing, zeros}
use Rattle.pm_bank.proofs.FoldLemmas.{length-stamped}

pub pass_after : (me end : Me (Unit {0}) View) (since quota left a : ℕ) (hs : List Hit) → IsPass me since quota left → end ≡ (passing me.0.numbers me.0.since me.0.quota 0 0 [] (me.0.entries ++ stamped a hs), me.1) → length hs ≤ left → IsPass end since quota (left - length hs)
pass_after me end since quota left a hs of is few =
    let view_is = ap (λ (y : Me (Unit {0}) View). y.0) is in
    let entries_are : end.0.entries ≡ me.0.entries ++ stamped a hs = ap (λ (v : View). v.entries) view_is in
    let numbers_are : end.0.numbers ≡ record zeros { looks = me.0.numbers.looks; seen = me.0.numbers.seen } = ap (λ (v : View). v.numbers) view_is in
    let since_is : me.0.since ≡ since = ap (λ (v : View). v.since) of.is in
    let quota_is : me.0.quota ≡ quota = ap (λ (v : View). v.quota) of.is in
    let longer : length end.0.entries ≡ length me.0.entries + length hs = ap length entries_are ∙ length-append me.0.entries (stamped a hs) ∙ ap (λ (n : ℕ). length me.0.entries + n) (length-stamped a hs) in
    let l = of.left_is in
    record {
      plain = ap (λ (y : Me (Unit {0}) View). y.1) is ∙ of.plain;
      is = view_is ∙ (λ i. passing (sym numbers_are i) (since_is i) (quota_is i) 0 0 [] (sym entries_are i));
      left_is = omega (arith, longer, l, few);
    }

-- a look leaves a pass as it was, but for its looks
pub pass_looked : (me end : Me (Unit {0}) View) (since quota left e : ℕ) → IsPass me since quota left → end ≡ (glanced e me.0, me.1) → IsPass end since quota left
pass_looked me end since quota left e of is =
    let view_is = ap (λ (y : Me (Unit {0}) View). y.0) is in
    let numbers_are = ap (λ (v : View). v.numbers) view_is in
    let entries_are : end.0.entries ≡ me.0.entries = ap (λ (v : View). v.entries) view_is in
    let since_is : me.0.since ≡ since = ap (λ (v : View). v.since) of.is in
    let quota_is : me.0.quota ≡ quota = ap (λ (v : View). v.quota) of.is in
    record {
      plain = ap (λ (y : Me (Unit {0}) View). y.1) is ∙ of.plain;
      is = view_is ∙ (λ i. passing (sym numbers_are i) (since_is i) (quota_is i) 0 0 [] (sym entries_are i));
      left_is = ap (λ (es : List Entry). length es + left) entries_are ∙ of.left_is;
    }
