use Rattle.std.proofs.Common.{◌≡◌, ◌++◌, ◌<◌, length, ◌∙◌, refl, sym, ap, subst, arith}
use Rattle.pm_close.specs.Reports.{AreParts}
use Rattle.std.proofs.lemmas.List.{length-append}
use Rattle.pm_close.proofs.ReportLemmas.{not-due, report-due, reaches-stands, next-stands}
use Rattle.pm_close.proofs.report.OpenReport.take_due.Goals as goal

pub returns-then-self-len-clause-due : goal.returns-then-self-len-clause-due
returns-then-self-len-clause-due c =
    λ terms h w t tick earlier parts reaches.
    let all = length-append earlier c.args.self.now.parts.items in
    let before = reaches.earlier_are in
    let own = c.len.ensures in
    let held = c.args.self.now.parts.ok in
    let missing : length (earlier ++ c.args.self.now.parts.items) < t.parts = omega
    (arith, all, before, own, held, parts, c.if-self-len.true) in (
      reaches-stands terms h w t tick earlier c.args.self.now missing reaches,
      not-due terms h w t tick earlier c.args.self.now
          missing reaches,
    )

pub returns-clause-due : goal.returns-clause-due
returns-clause-due c =
    λ terms h w t tick earlier parts reaches.
    let all = length-append earlier c.args.self.now.parts.items in
    let before = reaches.earlier_are in
    let own = c.len.ensures in
    let held = c.args.self.now.parts.ok in
    let no_more = reaches.no_more in
    let whole : length (earlier ++ c.args.self.now.parts.items) ≡ t.parts = omega
    (arith, all, before, own, held, parts, no_more, c.if-self-len.false) in
    let reach = reaches.marks.reach in
    let empty = reaches.full whole in
    let due = report-due terms h w t tick earlier c.args.self.now whole reaches in
    let same = ap (λ v. v.items) c.replace.ensures.value in (
      next-stands terms h w t tick earlier c.args.self.now _ whole c.begin-self.ensures refl
          (ap (λ v. v.items) c.replace.ensures.after ∙ c.new.ensures.items) refl refl reaches,
      record {
        reports = reaches.reports;
        begins = reaches.begins;
        ends = due.0;
        whole = ap (λ ps. length (earlier ++ ps)) same ∙ whole;
        parts = subst (λ ps. AreParts terms h w t c.args.self.now.begin (earlier ++ ps)) (sym same) reaches.parts;
        counted = due.1;
      },
      c.begin-self.ensures ∙ omega (arith, reach, empty),
    )
