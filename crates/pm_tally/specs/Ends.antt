-- What ends a tally.
use Rattle.std.specs.Prelude.{Bool, true, false}
use Rattle.pm_tally.specs.declared.tally_end.TallyEnd.{TallyEnd}
use Rattle.pm_tally.specs.declared.tally_end.TallyEnd.TheVariants.{ReadFault, WriteFault}

-- The input failed.
abbrev pub is_read_fault : TallyEnd → Bool
is_read_fault ReadFault = true
is_read_fault _ = false

-- The output failed.
abbrev pub is_write_fault : TallyEnd → Bool
is_write_fault WriteFault = true
is_write_fault _ = false
