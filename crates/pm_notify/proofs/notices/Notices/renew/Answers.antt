use Rattle.std.proofs.Common.{◌≡◌, ◌+◌, ℕ, length, is_ok, sym, ap, subst, ◌∙◌}
use Rattle.pm_notify.specs.Kept.{NoticesState, lasts}
use Rattle.pm_notify.specs.Numbered.{AreNumbered}
use Rattle.pm_notify.proofs.NumberLemmas.{renewed, vec_len_is}
use Rattle.pm_notify.proofs.notices.Notices.renew.Goals as goal

pub invariant_of-self-inside : goal.invariant_of-self-inside
invariant_of-self-inside c =
    let old = c.self.inside in
    let added = c.args.added in
    let total : added.first ≡ old.total = c.requires.next ∙ sym (ap (λ (s : NoticesState). s.total) c.self.view_is) in
    let long : length added.notices.items ≡ c.len.result = sym (c.len.ensures ∙ vec_len_is added.notices) in
    let both = renewed (lasts c.args.moment) old.total (old.total + c.len.result) old.notices.items added.notices.items c.keep.new.notices.items
    c.keep-2.new.notices.items c.append.new.self.items (is_ok c.append.result) old.rising old.numbered
    (subst (λ (n : ℕ). AreNumbered n added.notices.items) total added.numbered) (ap (λ (n : ℕ). old.total + n) long) c.keep.ensures.notices
    c.keep-2.ensures.notices c.append.ensures.items in
    (both.0, (both.1, tt))
