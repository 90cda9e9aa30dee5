use Rattle.std.proofs.Common.{rules, map}
use Rattle.pm_file.specs.Reading.{read_part_content}
use Rattle.pm_file.specs.ReportForm.{part_form}
use Rattle.pm_file.proofs.UsualListLemmas.{are_read_all, are_read_pushed, shorter_loop}
use Rattle.pm_file.proofs.usual_body.usual_parts.Goals as goal

pub loop-alloc-smaller : goal.loop-alloc-smaller
loop-alloc-smaller c =
    shorter_loop part_form (read_part_content c.in_ok-part.part) c.loop-alloc.reader _ c.usual_part.new.reader
    c.loop-alloc-test.ensures.1 c.in_ok-part.ensures

pub loop-alloc-preserved : goal.loop-alloc-preserved
loop-alloc-preserved c =
    are_read_pushed part_form read_part_content c.loop-alloc.parts.items c.in_ok-part.part c.push.new.self.items
    c.args.reader.now c.loop-alloc.reader c.usual_part.new.reader
    c.loop-alloc.invariant (rw c.loop-alloc-test.ensures.1 at c.in_ok-part.ensures) (search rules)

pub returns : goal.returns
returns c =
    are_read_all part_form (map read_part_content c.loop-alloc.parts.items) c.args.reader.now c.loop-alloc.reader
    c.take_end_array.new.self
    c.loop-alloc.invariant c.loop-alloc-test.ensures
