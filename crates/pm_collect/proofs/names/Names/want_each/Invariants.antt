use Rattle.std.proofs.Common.{take}
use Rattle.pm_collect.specs.Maps.{HasMore}
use Rattle.pm_collect.specs.Names.{names_of}
use Rattle.pm_collect.proofs.names.Names.want_each.Given as goal

abbrev pub invariant-loop-file : goal.invariant-loop-file
invariant-loop-file l = HasMore l.self.held (names_of (take l.file-index l.files)) l.self.wanted l.wanted
