use Rattle.std.proofs.Common.{rules}
use Rattle.pm_file.specs.ReportForm.{type_form}
use Rattle.pm_file.proofs.UsualListLemmas.{are_read_all, are_read_next, shorter_loop}
use Rattle.pm_file.proofs.usual_groups.usual_types.Goals as goal

pub loop-alloc-smaller : goal.loop-alloc-smaller
loop-alloc-smaller c =
    shorter_loop type_form c.in_ok-name.name c.loop-alloc.reader _ c.usual_type.new.reader c.loop-alloc-test.ensures.1
    c.in_ok-name.ensures

pub loop-alloc-preserved : goal.loop-alloc-preserved
loop-alloc-preserved c =
    are_read_next type_form c.loop-alloc.types.items c.in_ok-name.name c.push.new.self.items c.args.reader.now
    c.loop-alloc.reader c.usual_type.new.reader
    c.loop-alloc.invariant (rw c.loop-alloc-test.ensures.1 at c.in_ok-name.ensures) (search rules)

pub returns : goal.returns
returns c =
    are_read_all type_form c.loop-alloc.types.items c.args.reader.now c.loop-alloc.reader c.take_end_array.new.self
    c.loop-alloc.invariant c.loop-alloc-test.ensures
