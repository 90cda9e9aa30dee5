pub mod Body
pub mod BodyReading
pub mod Asked
