use Rattle.std.proofs.Common.{◌≡◌, ◌≤◌, length, take}
use Rattle.std.specs.List.{filter, list_any}
use Rattle.pm_asked.specs.Asked.{Numbered, is_of_class}
use Rattle.pm_jobs.specs.Numbered.{numbered}
use Rattle.pm_jobs.proofs.load.count_objects.Given as goal

abbrev pub invariant-loop-object : goal.invariant-loop-object
invariant-loop-object l = record {
  is : l.count ≡ length (filter (λ object. list_any (λ (metric : Numbered). is_of_class l.inventory metric.1.class object) (numbered l.inventory l.metrics)) (take l.object-index l.objects));
  most : l.count ≤ l.object-index;
}
