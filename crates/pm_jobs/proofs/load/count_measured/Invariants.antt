use Rattle.std.proofs.Common.{◌≡◌, ◌≤◌, length, take}
use Rattle.std.specs.List.{filter}
use Rattle.pm_asked.specs.Asked.{is_of_class}
use Rattle.pm_jobs.proofs.load.count_measured.Given as goal

abbrev pub invariant-loop-object : goal.invariant-loop-object
invariant-loop-object l = record {
  is : l.count ≡ length (filter (is_of_class l.inventory l.class) (take l.object-index l.objects));
  most : l.count ≤ l.object-index;
}
