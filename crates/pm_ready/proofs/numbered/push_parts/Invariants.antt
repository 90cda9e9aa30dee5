use Rattle.std.proofs.Common.{◌≡◌, ◌++◌, map, drop}
use Rattle.pm_file.specs.Numbered.{part_of}
use Rattle.pm_close.specs.Files.{parts_with}
use Rattle.pm_ready.specs.Shape.{terms_of}
use Rattle.pm_ready.specs.Whole.{tick_after}
use Rattle.pm_ready.proofs.numbered.push_parts.Given as goal

abbrev pub invariant-loop-values : goal.invariant-loop-values
invariant-loop-values l = record {
  done : map part_of l.out.items ++ parts_with (terms_of l.shape) l.tick (drop l.values-index l.parts)
      ≡ map part_of l.initial.out.items ++ parts_with (terms_of l.shape) l.begin l.parts;
  next : tick_after (terms_of l.shape) l.tick (drop l.values-index l.parts) ≡ tick_after (terms_of l.shape) l.begin l.parts;
}
