-- The contents of the two areas of a disk in memory.
use Rattle.std.specs.Prelude.{ℕ, List}
use Rattle.pm_disk.specs.declared.area.Area.{Area}
use Rattle.pm_disk.specs.declared.area.Area.TheVariants.{First, Second}
use Rattle.pm_disk.specs.declared.contents.Contents.{Contents}

-- What an area reads.
abbrev pub content : Contents → Area → List ℕ
content contents First = contents.first.items
content contents Second = contents.second.items
