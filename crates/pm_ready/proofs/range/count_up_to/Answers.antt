use Rattle.std.proofs.Common.{leb, rules}
use Rattle.std.proofs.lemmas.List.Sorted.{IsPartitionPoint-from_clause, IsPartitionedBy-leb}
use Rattle.pm_ready.specs.declared.ready.ReadyFile.{ReadyFile}
use Rattle.pm_ready.proofs.range.count_up_to.Goals as goal

pub returns-in-Some-clause-place : goal.returns-in-Some-clause-place
returns-in-Some-clause-place c =
    λ order.
    let parted = IsPartitionedBy-leb (λ (f : ReadyFile). f.info.ready) _ c.in-Some.end order in
    let point = IsPartitionPoint-from_clause (λ (f : ReadyFile). leb f.info.ready c.in-Some.end) _ _ c.partition_point.ensures.partitioned parted (λ a r q k. search rules) in
    rw c.in-Some.is (λ k d le lt. point.0 k d le lt, λ k d le lt. point.1 k d le lt)
