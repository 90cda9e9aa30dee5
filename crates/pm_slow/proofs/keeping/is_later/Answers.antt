use Rattle.std.proofs.Common.{◌≡◌, ◌+◌, ◌-◌, ◌∙◌, ap, sym, ltb, length, take, arith}
use Rattle.std.proofs.lemmas.List.{take_all}
use Rattle.pm_base.specs.Moment.{tick_of}
use Rattle.pm_history.specs.History.{history_of, ◌▷◌}
use Rattle.pm_history.proofs.HistoryLemmas.{history_of-more}
use Rattle.pm_items.specs.Items.{is_later}
use Rattle.pm_slow.proofs.keeping.is_later.Goals as goal

pub returns-in-len1-up : goal.returns-in-len1-up
returns-in-len1-up c =
    let xs = c.args.before.now in
    let n = length xs - 1 in
    let e = c.last-item.result in
    let len : length xs ≡ n + 1 = omega (arith, c.in-len1-up.len_at_least) in
    let all : take (n + 1) xs ≡ xs = ap (λ k. take k xs) (sym len) ∙ take_all (length xs) xs (omega arith) in
    let is : history_of xs ≡ history_of (take n xs) ▷ e = ap history_of (sym all) ∙ history_of-more xs n e (omega (arith, c.in-len1-up.len_at_least)) c.last-item.is in
    let last = c.tick.ensures ∙ ap tick_of c.moment.ensures in
    let new = c.tick-in-len1-up.ensures in
    (λ i. ltb (last i) (new i)) ∙ sym (ap (λ h. is_later h c.args.moment) is)
