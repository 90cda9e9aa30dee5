use Rattle.std.proofs.Common.{◌≡◌, ◌-◌, take, drop, ap, sym, ◌∙◌, arith}
use Rattle.pm_ready.specs.declared.ready.ReadyFile.{ReadyFile}
use Rattle.pm_ready.specs.Listing.{is_from, is_to}
use Rattle.pm_ready.proofs.RangeLemmas.{range-is}
use Rattle.pm_ready.proofs.range.between.Goals as goal

pub returns-then-first-last : goal.returns-then-first-last
returns-then-first-last c =
    λ order.
    let start = c.count_before-first.ensures.place order in
    let end = c.count_up_to-last.ensures.place order in
    range-is (λ (f : ReadyFile). is_from c.args.begin f.info.ready) (λ (f : ReadyFile). is_to c.args.end f.info.ready) c.args.files.now
    c.count_before-first.result c.count_up_to-last.result start.0 start.1 end.0 end.1

pub returns-else-first-last : goal.returns-else-first-last
returns-else-first-last c =
    λ order.
    let start = c.count_before-first.ensures.place order in
    let end = c.count_up_to-last.ensures.place order in
    let none : c.count_up_to-last.result - c.count_before-first.result ≡ 0 = omega (arith, c.if-first-last.false) in
    sym (ap (λ n. take n (drop c.count_before-first.result c.args.files.now)) none)
    ∙ range-is (λ (f : ReadyFile). is_from c.args.begin f.info.ready) (λ (f : ReadyFile). is_to c.args.end f.info.ready) c.args.files.now
    c.count_before-first.result c.count_up_to-last.result start.0 start.1 end.0 end.1
