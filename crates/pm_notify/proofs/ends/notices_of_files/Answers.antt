use Rattle.std.proofs.Common.{ℕ, [], List, map, sym, subst}
use Rattle.pm_history.specs.Notices as history
use Rattle.pm_notice.specs.declared.notice.Notice.{Notice}
use Rattle.pm_notify.specs.Notices.{AreNoticesFrom}
use Rattle.pm_notify.proofs.ends.notices_of_files.Goals as goal

pub returns-clause-told : goal.returns-clause-told
returns-clause-told c =
    λ reports are.
    let inventory = c.args.inventory.now in
    let added = c.new-added.result in
    let none = subst (λ (ns : List Notice). AreNoticesFrom inventory added.first [] ns) (sym c.new-added.ensures.none) tt in
    subst (λ (n : ℕ). AreNoticesFrom inventory n (map history.FileReady reports) c.add_files.new.self.notices.items) c.new-added.ensures.first
    (c.in_ok-add_files.ensures.told [] reports none are)
