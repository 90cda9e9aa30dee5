use Rattle.std.proofs.Common.{◌≡◌, true, codes, refl, lit≤}
use Rattle.pm_form.specs.Names.{job_id, measure_name}
use Rattle.pm_file.specs.ReportForm.{object_name}
use Rattle.pm_notice.proofs.tests.row_crossing.Goals as goal

pub crossing_notice-requires : goal.crossing_notice-requires
crossing_notice-requires c =
    let monitor : job_id (codes "m1") ≡ true = refl in
    let object : object_name (codes "ManagedElement=ME1,GNBCUCPFunction=1,NRCellCU=7") ≡ true = refl in
    let metric : measure_name (codes "RRC.ConnMax") ≡ true = refl in
    record {
      end = lit≤ tt;
      monitor = rw c.in_ok-from_slice.ensures monitor;
      object = rw c.in_ok-from_slice-2.ensures object;
      metric = rw c.in_ok-from_slice-3.ensures metric;
    }
