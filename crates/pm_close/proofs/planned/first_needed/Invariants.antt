use Rattle.std.proofs.Common.{◌≤◌, ◌<◌, ◌+◌, ℕ, slice_index_or}
use Rattle.pm_close.specs.declared.open_job.OpenJob.{OpenJob}
use Rattle.pm_close.proofs.planned.first_needed.Given as goal

abbrev pub invariant-loop-job : goal.invariant-loop-job
invariant-loop-job l = record {
  most : l.from ≤ l.tick;
  begun : (k : ℕ) (job : OpenJob) → k < l.job-index → l.from ≤ (slice_index_or l.jobs k job).report.marks.begin;
  near : (n : ℕ) → 0 < n
      → ((k : ℕ) (job : OpenJob) → k < l.job-index → l.tick < (slice_index_or l.jobs k job).report.marks.begin + n)
      → l.tick < l.from + n;
}
