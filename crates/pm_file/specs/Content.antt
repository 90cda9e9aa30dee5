-- What a report says, in texts (TS 32.432).
use Rattle.std.specs.Prelude.{ℕ, Bool, List, Option}

-- The results of one object, in the order of the types of its group; null is None.
pub record RowContent : Type 0 where
  pub object : List ℕ
  pub results : List (Option ℕ)
  pub suspect : Bool

-- What was measured of one class.
pub record GroupContent : Type 0 where
  pub class : List ℕ
  pub types : List (List ℕ)
  pub rows : List RowContent

-- What was measured in one granularity period, which the report says beside the period's moments.
pub record PartContent : Type 0 where
  pub begin : ℕ
  pub end : ℕ
  pub granularity : ℕ
  pub groups : List GroupContent

-- The report of a job over one reporting period. The sender is the name of the ManagedElement.
pub record ReportContent : Type 0 where
  pub job : List ℕ
  pub sender : List ℕ
  pub begin : ℕ
  pub end : ℕ
  pub parts : List PartContent
