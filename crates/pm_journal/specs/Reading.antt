-- What a step of reading finds.
use Rattle.std.specs.Prelude.{◌≡◌, ◌≢◌, ◌<◌, ◌+◌, ℕ, List, [], ◌∷◌, ◌++◌, length, take, drop, Option, MatchOption, Vec}
use Rattle.std.specs.declared.alloc.Global.{Global}
use Rattle.pm_disk.specs.Area.{AreaState}
use Rattle.pm_journal.specs.declared.item.Item.{Item}
use Rattle.pm_journal.specs.declared.journal.Journal.{Journal}
use Rattle.pm_journal.specs.declared.error.JournalError.{JournalError}
use Rattle.pm_journal.specs.declared.error.JournalError.TheVariants.{StoreFault, Foreign, Garbled, StoreFull, Memory}
use Rattle.pm_journal.specs.declared.reading.Found.{Found}
use Rattle.pm_journal.specs.declared.reading.Found.TheVariants.{Block, End}
use Rattle.pm_journal.specs.Items.{prefix, IsItem, IsCutShort}
use Rattle.pm_journal.specs.Journal.{IsAt, IsReady, gate_of}

-- From the gate on, the bytes are an open gate and this item.
pub record IsOpenItem (bytes item : List ℕ) : Type 0 where
  pub after_gate : List ℕ
  pub after_item : List ℕ
  pub is : bytes ≡ 1 ∷ after_gate
  pub found : IsItem after_gate item after_item

-- From the gate on, the bytes begin with a closed gate.
pub record IsClosedGate (bytes : List ℕ) : Type 0 where
  pub gate : ℕ
  pub after_gate : List ℕ
  pub is : bytes ≡ gate ∷ after_gate
  pub closed : gate ≢ 1

-- From the gate on, the bytes begin with an open gate, and its item doesn't end within them.
pub record IsGarbled (bytes : List ℕ) : Type 0 where
  pub after_gate : List ℕ
  pub is : bytes ≡ 1 ∷ after_gate
  pub cut_short : IsCutShort after_gate

-- What the bytes are from the gate on.
abbrev pub FindsAt : List ℕ → Found → Type 0
FindsAt bytes (Block item) = IsOpenItem bytes item.items
FindsAt bytes End = IsClosedGate bytes

-- The next item is handed out, with the offset of its gate. At the end the area is cut after the closed gate, and the
-- journal is ready.
pub record HandsOut (item : Item) (old new : Journal) (area : AreaState) (given left : List (List ℕ)) : Type 0 where
  pub rest : List (List ℕ)
  pub first : left ≡ item.bytes ∷ rest
  pub offset : item.offset ≡ length (prefix given)
  pub at : IsAt new area (given ++ item.bytes ∷ []) rest

pub record EndsList (old new : Journal) (area area' : AreaState) (given left : List (List ℕ)) : Type 0 where
  pub none_left : left ≡ []
  pub closed : IsClosedGate (drop (gate_of old) area.seen)
  pub cut : area'.seen ≡ take (gate_of old + 1) area.seen
  pub ready : IsReady new
  pub at : IsAt new area' given []

abbrev pub IsNext : Option Item → Journal → Journal → AreaState → AreaState → List (List ℕ) → List (List ℕ) → Type 0
IsNext next old new area area' given left =
    MatchOption next (EndsList old new area area' given left) (λ item. HandsOut item old new area' given left × (area' ≡ area))

-- The item that is found ends before the last byte of the area.
abbrev pub FitsBefore : ℕ → ℕ → Found → Type 0
FitsBefore at end (Block item) = at + 5 + length item.items < end
FitsBefore at end End = Unit {0}

-- Reading from the gate at this offset on refuses.
abbrev pub RefusesToFind : (IsTold : Type 0) → ℕ → List ℕ → JournalError → Type 0
RefusesToFind IsTold at bytes StoreFault = Unit {0}
RefusesToFind IsTold at bytes Foreign = ⊥
RefusesToFind IsTold at bytes (Garbled offset) = (offset ≡ at) × (IsTold → IsGarbled bytes)
RefusesToFind IsTold at bytes (StoreFull length' need) = ⊥
RefusesToFind IsTold at bytes Memory = IsTold → (item : List ℕ) × IsOpenItem bytes item

-- Reading an item, where the bytes from its length on are these, refuses: a fault, or no memory for an item that they have.
abbrev pub RefusesItem : (IsTold : Type 0) → List ℕ → JournalError → Type 0
RefusesItem IsTold bytes StoreFault = Unit {0}
RefusesItem IsTold bytes Memory = IsTold → (item : List ℕ) × (after : List ℕ) × IsItem bytes item after
RefusesItem IsTold bytes e = ⊥

-- The bytes begin with that item and more, or with none.
abbrev pub IsItemOrCutShort : List ℕ → Option (Vec ℕ Global) → Type 0
IsItemOrCutShort bytes item = MatchOption item (IsCutShort bytes) (λ v. (after : List ℕ) × IsItem bytes v.items after)
