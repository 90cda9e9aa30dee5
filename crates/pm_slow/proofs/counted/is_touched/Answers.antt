use Rattle.std.proofs.Common.{◌≡◌, ◌+◌, ◌&&◌, ◌||◌, ◌==◌, ◌∙◌, ap, sym, take}
use Rattle.std.specs.Option.{is_some}
use Rattle.pm_base.specs.Moment.{tick_of}
use Rattle.pm_history.specs.Entry.{moment_of, change_of}
use Rattle.pm_history.specs.History.{history_of, ◌▷◌, size}
use Rattle.pm_history.specs.Standing.{stands, standing_next, standing_after}
use Rattle.pm_history.specs.Counted.{is_touched}
use Rattle.pm_history.proofs.HistoryLemmas.{history_of-more}
use Rattle.pm_slow.specs.Book.{terms_in}
use Rattle.pm_slow.proofs.counted.is_touched.Goals as goal

pub loop-place-preserved : goal.loop-place-preserved
loop-place-preserved c =
    let h = history_of (take c.loop-place.place c.args.history.now) in
    let e = c.index-history-place.result in
    let T = terms_in c.args.book.now in
    let w = c.args.w.now in
    let v = c.w.view_is in
    let more = history_of-more c.args.history.now c.loop-place.place e c.loop-place-test.true c.index-history-place.is in
    let place = c.loop-place.invariant.place in
    let old = c.loop-place.invariant.old in
    let touched = c.loop-place.invariant.touched in
    let next : c.standing_next-new.result ≡ standing_after T w.side (h ▷ e) w.id = c.standing_next-new.ensures ∙ (λ i. standing_next T (v i).side (v i).id (place i) (old i) e) in
    let touch = c.is_touch-touch.ensures ∙ (λ i. (tick_of (moment_of e) == c.args.at) && (is_some (change_of w.side w.id e) && (stands w.place (old i) || stands w.place (next i)))) in
    record {
      touched = c.or-touched.ensures ∙ ((λ i. touched i || touch i) ∙ sym (ap (λ g. is_touched T g w c.args.at) more));
      old = next ∙ sym (ap (λ g. standing_after T w.side g w.id) more);
      place = ap (λ n. n + 1) place ∙ sym (ap size more);
    }
