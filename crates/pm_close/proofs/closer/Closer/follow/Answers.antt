use Rattle.std.proofs.Common.{◌+◌, length, subst, sym, ap, ◌∙◌}
use Rattle.pm_inventory.specs.Inventory.{slots}
use Rattle.pm_close.specs.OpenJobs.{JobsFit}
use Rattle.pm_close.specs.OpenMonitors.{IsFor}
use Rattle.pm_close.specs.Following.{ComesWith}
use Rattle.pm_close.proofs.PlanLemmas.{has-place}
use Rattle.pm_close.proofs.CloserFollowLemmas.{can-follow, paired-after, fits-after, stays-along}
use Rattle.pm_close.proofs.closer.Closer.follow.Goals as goal

pub follow-requires : goal.follow-requires
follow-requires c =
    can-follow c.args.inventory.now _ c.args.jobs.now c.args.self.now.jobs.jobs.items c.args.plan.now c.args.made.job
    c.requires.paired.of_jobs c.requires.suits c.requires.prepared.job

pub follow-requires-2 : goal.follow-requires-2
follow-requires-2 c =
    has-place c.args.inventory.now c.args.jobs.now _ c.args.plan.now c.args.made.monitor _ c.requires.paired.of_monitors
    c.requires.suits c.requires.prepared.monitor

pub invariant_of-self-clause-fit : goal.invariant_of-self-clause-fit
invariant_of-self-clause-fit c =
    subst (JobsFit c.args.self.now.cells) (sym c.follow.ensures.after)
    (fits-after c.args.inventory.now c.args.self.now.cells c.args.self.now.jobs.jobs.items c.args.plan.now c.args.made.job
    c.requires.wide c.requires.prepared.job
    (can-follow c.args.inventory.now _ c.args.jobs.now c.args.self.now.jobs.jobs.items c.args.plan.now c.args.made.job
    c.requires.paired.of_jobs c.requires.suits c.requires.prepared.job)
    c.args.self.now.fit)

pub invariant_of-self-clause-go_on : goal.invariant_of-self-clause-go_on
invariant_of-self-clause-go_on c =
    c.follow-2.ensures.go_on c.args.self.now.cells (c.args.self.now.cells.first + c.args.self.now.cells.ticks)
    c.requires.prepared.goes_on c.args.self.now.go_on

pub returns-clause-paired : goal.returns-clause-paired
returns-clause-paired c = record {
  of_jobs =
      paired-after c.args.jobs.now c.args.self.now.jobs.jobs.items c.args.plan.now c.args.made.job c.requires.paired.of_jobs
      (can-follow c.args.inventory.now _ c.args.jobs.now c.args.self.now.jobs.jobs.items c.args.plan.now c.args.made.job
      c.requires.paired.of_jobs c.requires.suits c.requires.prepared.job)
      ∙ sym (ap length c.follow.ensures.after);
  of_monitors = c.follow-2.ensures.as_many c.args.jobs.now c.requires.paired.of_monitors;
}

pub returns-clause-stands : goal.returns-clause-stands
returns-clause-stands c = λ h stand stands over is.
    let both = stays-along (slots c.args.inventory.now) c.args.jobs.now h c.args.plan.now c.args.self.now.cells c.args.self.now.cut is
    stand.cells stand.boots in
    record {
      cells = both.0;
      boots = both.1;
      open_jobs =
          c.follow.ensures.stands c.args.inventory.now c.args.jobs.now h c.requires.suits over
          (subst (λ n. ComesWith c.args.inventory.now n c.args.plan.now c.args.made.job) stand.cells.reach c.requires.prepared.job)
          is stand.open_jobs;
      open_monitors =
          c.follow-2.ensures.open c.args.inventory.now c.args.jobs.now h
          (record { stands = stands; suits = c.requires.suits; history = is })
          (subst (λ n. IsFor c.args.inventory.now n c.args.plan.now c.args.made.monitor) stand.cells.reach c.requires.prepared.monitor)
          stand.open_monitors;
    }
