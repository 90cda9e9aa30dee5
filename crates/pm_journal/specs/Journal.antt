-- A journal and its area, between two calls.
use Rattle.std.specs.Prelude.{◌≡◌, ◌≢◌, ℕ, List, [], ◌∷◌, ◌++◌, length}
use Rattle.pm_disk.specs.declared.area.Area.{Area}
use Rattle.pm_disk.specs.Area.{AreaState, clean}
use Rattle.pm_journal.specs.declared.journal.Journal.{Journal}
use Rattle.pm_journal.specs.declared.phase.Phase.TheVariants.{Ready, Spent}
use Rattle.pm_journal.specs.Items.{prefix, HasList}

-- The area that it is kept in.
abbrev pub area_of : Journal → Area
area_of journal = journal.area

-- How long the area may get.
abbrev pub limit_of : Journal → ℕ
limit_of journal = journal.limit

-- The length of the area.
abbrev pub length_of : Journal → ℕ
length_of journal = journal.length

-- The offset of the gate that it has come to.
abbrev pub gate_of : Journal → ℕ
gate_of journal = journal.at

-- A fault of the disk has spent it: its area is to be opened again.
abbrev pub IsSpent : Journal → Type 0
IsSpent journal = journal.phase ≡ Spent

-- It isn't spent.
abbrev pub IsUsable : Journal → Type 0
IsUsable journal = journal.phase ≢ Spent

-- `next` has answered that the list is at its end, so that items may be added.
abbrev pub IsReady : Journal → Type 0
IsReady journal = journal.phase ≡ Ready

-- The area has these items, a closed gate, and nothing after it.
pub record IsAtEnd (bytes : List ℕ) (items : List (List ℕ)) : Type 0 where
  pub gate : ℕ
  pub closed : gate ≢ 1
  pub is : bytes ≡ prefix items ++ gate ∷ []

-- The list of the area is on the disk. The journal has handed out or added the items given, and those left follow from the
-- gate on that it has come to.
pub record IsAt (journal : Journal) (area : AreaState) (given left : List (List ℕ)) : Type 0 where
  pub on_disk : area ≡ clean area.seen
  pub list : HasList area.seen (given ++ left)
  pub gate : journal.at ≡ length (prefix given)
  pub length : journal.length ≡ length area.seen
  pub ready : journal.phase ≡ Ready → IsAtEnd area.seen given

-- The area, as it reads and in every image, is as the journal knows it.
abbrev pub IsTied : Journal → AreaState → Type 0
IsTied journal area = (given : List (List ℕ)) × (left : List (List ℕ)) × IsAt journal area given left
