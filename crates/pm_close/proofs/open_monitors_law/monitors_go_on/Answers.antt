use Rattle.std.proofs.Common.{slice_index_or, sym, subst, arith}
use Rattle.pm_close.specs.Watched.{AllWithin}
use Rattle.pm_close.proofs.open_monitors_law.monitors_go_on.Goals as goal

pub returns : goal.returns
returns c = λ cells later first tick monitors slots from needs on k d lt.
    let was = on k d lt in
    let need = needs k d lt in
    record {
      few = was.few;
      marks = was.marks;
      reach = was.reach;
      covered = λ j within before. was.covered j within (omega (arith, before, from, need));
      within = subst (λ n. AllWithin n (slice_index_or monitors k d).open.watches.metrics.items) (sym slots) was.within;
    }
