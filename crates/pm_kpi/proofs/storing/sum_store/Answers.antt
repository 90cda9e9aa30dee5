use Rattle.pm_collect.specs.Places.{rows_of}
use Rattle.pm_kpi.specs.Asked.{asked_content}
use Rattle.pm_kpi.proofs.RunLemmas.{text_told}
use Rattle.pm_kpi.proofs.storing.sum_store.Goals as goal

pub returns-in-Ok-text-clause-text : goal.returns-in-Ok-text-clause-text
returns-in-Ok-text-clause-text g c = λ told.
    let asked = asked_content c.args.asked.now in
    let opened = c.in-Ok.ensures.holds told in
    let first = c.in-Ok-sum_files.ensures.summed told opened.files opened.holds (c.new-sums.ensures asked) in
    text_told asked (g.D.Disk.told c.args.disk.now) (g.D.Disk.told c.open.new.disk) c.in-Ok.collector c.sum_files.new.sums c.in-Ok-text.text.items opened
    (c.count_files-count.ensures.rows (g.D.Disk.told c.open.new.disk).now opened.files opened.holds) first
    (c.in-Ok-text.ensures first.reports asked.begin asked.end first.stands)
