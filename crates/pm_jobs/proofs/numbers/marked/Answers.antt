use Rattle.std.proofs.Common.{◌∙◌, ◌<◌, ◌≤◌, length, sym, ap, arith}
use Rattle.std.proofs.lemmas.List.{take_all}
use Rattle.pm_dn.proofs.NumberLemmas.{numbers_where_yes, numbers_where_no}
use Rattle.pm_jobs.proofs.numbers.marked.Goals as goal
use Rattle.pm_jobs.proofs.numbers.marked.Goals.{then-marks-object+in_ok-push, else-marks-object}

pub loop-object-preserved : goal.loop-object-preserved
loop-object-preserved c =
    let i = c.loop-object.object in
    elim c.if-marks-object.branch [
      | then-marks-object+in_ok-push w ↦ λ tree p long are.
          let within : i < length tree = omega (arith, long, c.loop-object-test.true) in
          ap (λ v. v.items) w.objects-is ∙ w.in_ok-push.ensures.items
          ∙ numbers_where_yes p tree i c.loop-object.objects.items within (sym (are.each i within) ∙ w.if-marks-object.true) (c.loop-object.invariant tree p long are)
      | else-marks-object w ↦ λ tree p long are.
          let within : i < length tree = omega (arith, long, c.loop-object-test.true) in
          ap (λ v. v.items) w.objects-is
          ∙ numbers_where_no p tree i c.loop-object.objects.items within (sym (are.each i within) ∙ w.if-marks-object.false) (c.loop-object.invariant tree p long are)
    ]

pub returns : goal.returns
returns c =
    λ tree p long are.
    let le : length tree ≤ c.loop-object.object = omega (arith, long, c.loop-object-test.false) in
    rw (take_all c.loop-object.object tree le) at (c.loop-object.invariant tree p long are)
