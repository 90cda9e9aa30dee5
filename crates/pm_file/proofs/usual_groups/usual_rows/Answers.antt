use Rattle.std.proofs.Common.{rules, map}
use Rattle.pm_file.specs.Report.{row_content}
use Rattle.pm_file.specs.ReportForm.{row_form}
use Rattle.pm_file.proofs.UsualListLemmas.{are_read_all, are_read_pushed, shorter_loop}
use Rattle.pm_file.proofs.usual_groups.usual_rows.Goals as goal

pub loop-alloc-smaller : goal.loop-alloc-smaller
loop-alloc-smaller c =
    shorter_loop row_form (row_content c.in_ok-row.row) c.loop-alloc.reader _ c.usual_row.new.reader
    c.loop-alloc-test.ensures.1 c.in_ok-row.ensures

pub loop-alloc-preserved : goal.loop-alloc-preserved
loop-alloc-preserved c =
    are_read_pushed row_form row_content c.loop-alloc.rows.items c.in_ok-row.row c.push.new.self.items c.args.reader.now
    c.loop-alloc.reader c.usual_row.new.reader
    c.loop-alloc.invariant (rw c.loop-alloc-test.ensures.1 at c.in_ok-row.ensures) (search rules)

pub returns : goal.returns
returns c =
    are_read_all row_form (map row_content c.loop-alloc.rows.items) c.args.reader.now c.loop-alloc.reader
    c.take_end_array.new.self
    c.loop-alloc.invariant c.loop-alloc-test.ensures
