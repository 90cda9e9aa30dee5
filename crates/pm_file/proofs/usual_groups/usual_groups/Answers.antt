use Rattle.std.proofs.Common.{rules, map}
use Rattle.pm_file.specs.Report.{group_content}
use Rattle.pm_file.specs.ReportForm.{group_form}
use Rattle.pm_file.proofs.UsualListLemmas.{are_read_all, are_read_pushed, shorter_loop}
use Rattle.pm_file.proofs.usual_groups.usual_groups.Goals as goal

pub loop-alloc-smaller : goal.loop-alloc-smaller
loop-alloc-smaller c =
    shorter_loop group_form (group_content c.in_ok-group.group) c.loop-alloc.reader _ c.usual_group.new.reader
    c.loop-alloc-test.ensures.1 c.in_ok-group.ensures

pub loop-alloc-preserved : goal.loop-alloc-preserved
loop-alloc-preserved c =
    are_read_pushed group_form group_content c.loop-alloc.groups.items c.in_ok-group.group c.push.new.self.items
    c.args.reader.now c.loop-alloc.reader c.usual_group.new.reader
    c.loop-alloc.invariant (rw c.loop-alloc-test.ensures.1 at c.in_ok-group.ensures) (search rules)

pub returns : goal.returns
returns c =
    are_read_all group_form (map group_content c.loop-alloc.groups.items) c.args.reader.now c.loop-alloc.reader
    c.take_end_array.new.self
    c.loop-alloc.invariant c.loop-alloc-test.ensures
