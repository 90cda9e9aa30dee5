pub mod SamePieces
pub mod SlotTableFields
pub mod EventLine
pub mod Event
pub mod BatchLine
