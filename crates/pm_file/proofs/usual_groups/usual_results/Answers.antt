use Rattle.std.proofs.Common.{rules}
use Rattle.pm_file.specs.ReportForm.{result_form}
use Rattle.pm_file.proofs.UsualListLemmas.{are_read_all, are_read_next, shorter_loop}
use Rattle.pm_file.proofs.usual_groups.usual_results.Goals as goal

pub loop-reader-smaller : goal.loop-reader-smaller
loop-reader-smaller c =
    shorter_loop result_form c.in_ok-result.result c.loop-reader.reader _ c.usual_result.new.reader
    c.loop-reader-test.ensures.1 c.in_ok-result.ensures

pub loop-reader-preserved : goal.loop-reader-preserved
loop-reader-preserved c =
    are_read_next result_form c.loop-reader.results.items c.in_ok-result.result c.push.new.self.items c.args.reader.now
    c.loop-reader.reader c.usual_result.new.reader
    c.loop-reader.invariant (rw c.loop-reader-test.ensures.1 at c.in_ok-result.ensures) (search rules)

pub returns : goal.returns
returns c =
    are_read_all result_form c.loop-reader.results.items c.args.reader.now c.loop-reader.reader c.take_end_array.new.self
    c.loop-reader.invariant c.loop-reader-test.ensures
