-- The angles, the verdicts and the roll: laws of specs/Criteria and Roll.
pub mod Angles
pub mod Verdicts
pub mod EitherSet
pub mod Roll
pub mod Ranges
pub mod FinerUnit
