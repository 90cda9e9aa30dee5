-- The classes of managed objects (TS 28.541).
use Rattle.std.specs.Prelude.{ℕ, List, codes}
use Rattle.pm_base.specs.declared.class.Class.{Class}
use Rattle.pm_base.specs.declared.class.Class.TheVariants.{ManagedElement, GnbCuCp, NrCellCu, GnbDu, NrCellDu}

-- The name of a class.
abbrev pub class_name : Class → List ℕ
class_name ManagedElement = codes "ManagedElement"
class_name GnbCuCp = codes "GNBCUCPFunction"
class_name NrCellCu = codes "NRCellCU"
class_name GnbDu = codes "GNBDUFunction"
class_name NrCellDu = codes "NRCellDU"
