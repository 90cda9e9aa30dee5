use Rattle.std.proofs.Common.{arith}
use Rattle.pm_base.specs.Moment.{tick_of}
use Rattle.pm_close.proofs.monitor.OpenMonitor.rearm.Goals as goal

pub returns-clause-stands : goal.returns-clause-stands
returns-clause-stands c =
    λ terms slots h g w granularity watched before armed stand marks.
    record {
      armed_before = omega arith;
      marks = marks;
      watches = c.rearm.ensures.stands terms slots h g w granularity watched before armed (tick_of armed) stand.watches;
    }
