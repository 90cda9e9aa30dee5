-- A notice, as the definitions see it.
use Rattle.pm_history.specs.Notices as model
use Rattle.pm_slow.specs.declared.notice.Notice.{Notice}
use Rattle.pm_slow.specs.declared.notice.Notice.TheVariants.{File, Cross}

abbrev pub notice_seen : Notice → model.Notice
notice_seen (File report) = model.FileReady report
notice_seen (Cross crossed) = model.Crossing crossed
