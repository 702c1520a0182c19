-- What is sent back: laws of specs/Report, Columns and Answer, and where a refusal stands (specs/Places).
pub mod Steps
pub mod Length
pub mod Columns
pub mod Placed
pub mod EitherUnit
pub mod WholeKG
