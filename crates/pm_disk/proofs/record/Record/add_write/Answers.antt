use Rattle.std.proofs.Common.{arith, length, ap, ◌∙◌}
use Rattle.std.proofs.lemmas.List.{length_push}
use Rattle.pm_disk.proofs.CallsLemmas.{length-calls_made, made_push_write, whole_push_write}
use Rattle.pm_disk.proofs.record.Record.add_write.Goals as goal

pub keep-requires : goal.keep-requires
keep-requires c = omega (arith, c.requires.not_full, length-calls_made c.args.self.now.calls.items c.args.self.now.bytes.items, c.args.self.now.room_for_calls)

pub invariant_of-self-clause-whole : goal.invariant_of-self-clause-whole
invariant_of-self-clause-whole c =
    whole_push_write c.args.self.now.calls.items _ c.args.self.now.bytes.items _ c.args.bytes.now c.args.area c.args.at c.args.done c.args.self.now.whole c.append.ensures.appended c.keep.ensures.kept

pub returns-clause-added : goal.returns-clause-added
returns-clause-added c =
    made_push_write c.args.self.now.calls.items _ c.args.self.now.bytes.items _ c.args.bytes.now c.args.area c.args.at c.args.done c.args.self.now.whole c.append.ensures.appended c.keep.ensures.kept

pub invariant_of-self-clause-few_calls : goal.invariant_of-self-clause-few_calls
invariant_of-self-clause-few_calls c =
    omega (arith, c.requires.not_full, length-calls_made c.args.self.now.calls.items c.args.self.now.bytes.items, ap length c.keep.ensures.kept ∙ length_push c.args.self.now.calls.items _)
