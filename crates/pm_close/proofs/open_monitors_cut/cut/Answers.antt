use Rattle.std.proofs.Common.{◌≡◌, ◌≤◌, ◌<◌, ◌+◌, ◌-◌, subst, arith}
use Rattle.pm_close.specs.Watched.{WatchesStand}
use Rattle.pm_close.proofs.PassLemmas.{value_at-uncounted, watches-pass_all}
use Rattle.pm_close.proofs.open_monitors_cut.cut.Goals as goal

pub returns : goal.returns
returns c =
    let tick = c.args.tick in
    let m = c.args.monitor.now in
    let g = m.granularity in
    record {
      stands = λ terms slots h w watched armed from none stand.
          let reach = stand.marks.reach in
          let before = stand.armed_before in
          let some : 0 < g = omega (arith, c.requires.reaches.marks) in
          let le : from ≤ tick = omega (arith, reach, c.requires.reaches.reach) in
          let at : from + (tick - from) ≡ tick = omega (arith, le) in
          record {
            armed_before = omega (arith, before, le);
            marks = c.end_uncounted.ensures.stands terms h w from stand.marks none;
            watches = subst (λ t. WatchesStand terms slots h w g watched armed t m.open.watches.metrics.items) at
                (watches-pass_all terms h w g slots watched m.open.watches.metrics.items armed from (tick - from) before
                (λ end after within object metric. value_at-uncounted terms h w g object metric from tick end some none after
                (omega (arith, within, at)))
                stand.watches);
          };
      goes_on = λ cells from on. record {
        few = on.few;
        marks = c.end_uncounted.ensures.within;
        reach = c.end_uncounted.ensures.reach;
        covered = c.end_uncounted.ensures.unmarked cells.first on.covered;
        within = on.within;
      };
    }
