use Rattle.std.proofs.Common.{◌≡◌, ◌≤◌, ◌<◌, ◌+◌, ◌-◌, subst, arith}
use Rattle.pm_close.specs.Watched.{WatchesStand}
use Rattle.pm_close.proofs.PassLemmas.{value_at-uncounted, watches-pass_all, crossings-none}
use Rattle.pm_close.proofs.monitor.OpenMonitor.end_with_boot.Goals as goal

pub returns-clause-stands : goal.returns-clause-stands
returns-clause-stands c =
    λ terms slots h w watched armed from none stand.
    let tick = c.args.tick in
    let g = c.args.granularity in
    let reach = stand.marks.reach in
    let before = stand.armed_before in
    let some : 0 < g = omega (arith, c.requires.marks) in
    let le : from ≤ tick = omega (arith, reach, c.requires.reach) in
    let at : from + (tick - from) ≡ tick = omega (arith, le) in
    record {
      armed_before = omega (arith, before, le);
      marks = c.end_uncounted.ensures.stands terms h w from stand.marks none;
      watches = subst (λ t. WatchesStand terms slots h w g watched armed t c.args.self.now.watches.metrics.items) at
          (watches-pass_all terms h w g slots watched c.args.self.now.watches.metrics.items armed from (tick - from) before
          (λ end after within object m. value_at-uncounted terms h w g object m from tick end some none after
          (omega (arith, within, at)))
          stand.watches);
    }

pub returns-clause-none : goal.returns-clause-none
returns-clause-none c =
    λ terms h w watched armed from end none after within.
    crossings-none terms h w c.args.granularity armed end watched
    (λ object m. value_at-uncounted terms h w c.args.granularity object m from c.args.tick end (omega (
      arith,
      c.requires.marks,
    )) none after within)
