use Rattle.std.proofs.Common.{◌≤◌, ◌&&◌, ◌++◌, ◌∙◌, ap, sym, arith, length, ℕ, Bool, length-append, Option, Some, None}
use Rattle.std.specs.Option.{option_to_list}
use Rattle.pm_history.specs.History.{history_of}
use Rattle.pm_history.specs.Ticks.{is_within}
use Rattle.pm_history.specs.Counted.{is_counted}
use Rattle.pm_history.specs.Value.{values_where}
use Rattle.pm_history.proofs.HistoryLemmas.{history_of-more}
use Rattle.pm_slow.specs.Book.{terms_in}
use Rattle.pm_slow.proofs.value.counted_values.Goals as goal

one_at_most : {A : Type 0} (o : Option A) → length (option_to_list o) ≤ 1
one_at_most None = omega arith
one_at_most (Some x) = omega arith

pub loop-entry-preserved : goal.loop-entry-preserved
loop-entry-preserved c =
    let e = c.entry-item.result in
    let p : ℕ → Bool = λ t. is_within c.args.first c.args.ticks t && is_counted (terms_in c.args.book.now) (history_of c.args.history.now) c.args.w.now t in
    let more = history_of-more c.args.history.now c.loop-entry.entry-index e c.loop-entry-test.true c.entry-item.is in
    let value = c.value_in.ensures p c.passes-passes.ensures in
    let grows = c.in_ok-add.ensures in
    let old = c.loop-entry.invariant.values in
    record {
      values = grows ∙ ((λ i. old i ++ value i) ∙ sym (ap (values_where c.args.object c.args.metric p) more));
      few = omega (arith, ap length grows ∙ length-append c.loop-entry.values.items (option_to_list c.value_in.result), one_at_most c.value_in.result, c.loop-entry.invariant.few);
    }
