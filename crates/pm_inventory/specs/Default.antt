-- The default inventory (this project's own).
use Rattle.std.specs.Prelude.{◌≡◌, ℕ, List, [], ◌∷◌, map, codes}
use Rattle.pm_meas.specs.Def.{def_text}
use Rattle.pm_inventory.specs.Inventory.{InventoryState}

abbrev pub default_objects : List (List ℕ)
default_objects =
    codes "ManagedElement=ME1"
    ∷ codes "ManagedElement=ME1,GNBCUCPFunction=1"
    ∷ codes "ManagedElement=ME1,GNBCUCPFunction=1,NRCellCU=7"
    ∷ codes "ManagedElement=ME1,GNBCUCPFunction=1,NRCellCU=8"
    ∷ codes "ManagedElement=ME1,GNBDUFunction=1"
    ∷ codes "ManagedElement=ME1,GNBDUFunction=1,NRCellDU=7"
    ∷ []

-- The texts of its definitions.
abbrev pub default_measures : List (List ℕ)
default_measures =
    codes "RRC.ConnEstabAtt.mo-Data NRCellCU CC SUM"
    ∷ codes "RRC.ConnEstabAtt.mo-Signalling NRCellCU CC SUM"
    ∷ codes "RRC.ConnEstabSucc.mo-Data NRCellCU CC SUM"
    ∷ codes "RRC.ConnEstabSucc.mo-Signalling NRCellCU CC SUM"
    ∷ codes "RRC.ConnMean NRCellCU SI MEAN"
    ∷ codes "RRC.ConnMax NRCellCU SI MAX"
    ∷ codes "VS.QueueLength NRCellDU GAUGE MEAN"
    ∷ codes "VS.QueueLow NRCellDU GAUGE MIN"
    ∷ codes "VS.SetupTime NRCellDU DER MEAN 3"
    ∷ []

-- The inventory of these objects, and of the definitions with these texts.
pub record IsDefault (inventory : InventoryState) : Type 0 where
  pub objects : inventory.objects ≡ default_objects
  pub measures : map def_text inventory.measures ≡ default_measures
