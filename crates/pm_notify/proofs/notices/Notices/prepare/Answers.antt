use Rattle.std.proofs.Common.{◌≡◌, ℕ, length, map, sym, ap, subst, eqb-true, arith}
use Rattle.pm_base.specs.Moment.{tick_of}
use Rattle.pm_history.specs.declared.entry.Entry.TheVariants.{Boot, Now}
use Rattle.pm_history.specs.History.{◌▷◌, last_moment}
use Rattle.pm_history.specs.Ticks.{behind}
use Rattle.pm_history.specs.Notices as history
use Rattle.pm_asked.specs.Asked.{terms_of}
use Rattle.pm_notify.specs.declared.added.AddedNotices.{AddedNotices}
use Rattle.pm_notify.specs.Notices.{AreNoticesFrom}
use Rattle.pm_notify.specs.Kept.{NoticesState, AddsNotices}
use Rattle.pm_notify.proofs.AddedLemmas.{now-ends, now-adds, same-adds, boot-adds, if_ok}
use Rattle.pm_notify.proofs.notices.Notices.prepare.Goals as goal

pub returns-then-is_empty-clause-now : goal.returns-then-is_empty-clause-now
returns-then-is_empty-clause-now c =
    λ h moment reports is stands at grows are told.
    let inventory = c.args.inventory.now in
    let first = c.self.inside.total in
    let total : first ≡ c.args.self.now.total = ap (λ (s : NoticesState). s.total) c.self.view_is in
    let none : length c.args.crossings.now ≡ 0 = eqb-true (length c.args.crossings.now) 0 (sym c.if-is_empty.ensures) in
    let many = told.as_many in
    let same : tick_of moment ≡ tick_of (last_moment h) = omega (arith, none, many, at) in
    if_ok (λ (added : AddedNotices). AreNoticesFrom inventory first (map history.FileReady reports) added.notices.items)
    (λ (added : AddedNotices). AddsNotices inventory h (Now moment) c.args.self.now.total added.notices.items) c.notices_of_files.result
    (λ added posted. subst (λ (n : ℕ). AddsNotices inventory h (Now moment) n added.notices.items) total
    (same-adds inventory h moment first reports added.notices.items is.1.later same grows posted))
    (c.notices_of_files.ensures.told reports are)

pub returns-then-is_empty-clause-boot : goal.returns-then-is_empty-clause-boot
returns-then-is_empty-clause-boot c =
    λ none h moment reports is grows are.
    let inventory = c.args.inventory.now in
    let first = c.self.inside.total in
    let total : first ≡ c.args.self.now.total = ap (λ (s : NoticesState). s.total) c.self.view_is in
    if_ok (λ (added : AddedNotices). AreNoticesFrom inventory first (map history.FileReady reports) added.notices.items)
    (λ (added : AddedNotices). AddsNotices inventory h (Boot moment) c.args.self.now.total added.notices.items) c.notices_of_files.result
    (λ added posted. subst (λ (n : ℕ). AddsNotices inventory h (Boot moment) n added.notices.items) total
    (boot-adds inventory h moment first reports added.notices.items is.1.later grows posted))
    (c.notices_of_files.ensures.told reports are)

pub returns-clause-now : goal.returns-clause-now
returns-clause-now c =
    λ h moment reports is stands at grows are told.
    let inventory = c.args.inventory.now in
    let first = c.self.inside.total in
    let total : first ≡ c.args.self.now.total = ap (λ (s : NoticesState). s.total) c.self.view_is in
    let crossings = c.args.crossings.now in
    let from = c.args.from in
    let ends = now-ends inventory c.args.jobs.now h moment from reports c.args.files.now crossings is stands at grows are told in
    if_ok (λ (added : AddedNotices). AreNoticesFrom inventory first (behind (history.notices_at (terms_of inventory) (h ▷ Now moment)) from (length crossings)) added.notices.items)
    (λ (added : AddedNotices). AddsNotices inventory h (Now moment) c.args.self.now.total added.notices.items) c.notices_of_ends.result
    (λ added posted. subst (λ (n : ℕ). AddsNotices inventory h (Now moment) n added.notices.items) total
    (now-adds inventory h moment from (length crossings) first added.notices.items is.1.later at told.as_many posted))
    (c.notices_of_ends.ensures.told (h ▷ Now moment) ends)
