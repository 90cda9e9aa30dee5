use Rattle.std.proofs.Common.{◌≡◌, ℕ, true, false, leb, ltb, arith, rules}
use Rattle.std.proofs.lemmas.Bool.Decides.{nat_tests}
use Rattle.std.proofs.lemmas.List.Sorted.{IsPartitionPoint-from_clause, IsPartitionedBy-ltb}
use Rattle.pm_ready.specs.declared.ready.ReadyFile.{ReadyFile}
use Rattle.pm_ready.proofs.range.count_before.Goals as goal

early : (a b : ℕ) → ltb a b ≡ true → leb b a ≡ false
early a b e = grind (arith, nat_tests)

late : (a b : ℕ) → ltb a b ≡ false → leb b a ≡ true
late a b e = grind (arith, nat_tests)

pub returns-in-Some-clause-place : goal.returns-in-Some-clause-place
returns-in-Some-clause-place c =
    λ order.
    let parted = IsPartitionedBy-ltb (λ (f : ReadyFile). f.info.ready) _ c.in-Some.begin order in
    let point = IsPartitionPoint-from_clause (λ (f : ReadyFile). ltb f.info.ready c.in-Some.begin) _ _ c.partition_point.ensures.partitioned parted (λ a r q k. search rules) in
    rw c.in-Some.is (λ k d le lt. early _ c.in-Some.begin (point.0 k d le lt), λ k d le lt. late _ c.in-Some.begin (point.1 k d le lt))
