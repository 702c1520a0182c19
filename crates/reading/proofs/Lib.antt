pub mod Fronts
pub mod Frames
pub mod Tallies
pub mod Lines
pub mod ConditionLines
pub mod FrontCharacters
pub mod OneAnswer
